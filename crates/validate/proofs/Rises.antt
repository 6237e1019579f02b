-- Numbers rise where the first is not below the least, the last not above the top, and each is a step above the one before.
-- By induction over the count: the numbers between the first and the last lie between them.
use mathlib.Core.Path.{◌≡◌, refl, sym, ap, ◌∙◌}
use mathlib.Core.Bool.{Bool, true, false, not, ◌&&◌, ◌||◌}
use Prim.Native.Nat.{ℕ, zero, suc, ◌+◌, ◌-◌, ◌<◌, ◌≤◌}
use native.Mathlib.Nat.{add-zero}
use native.Mathlib.Numerals.{add-one}
use native.Mathlib.Omega.{arith}
use lib.Dec.{eqb, leb, ltb}
use borrow.Author.Tests.{leb-true, leb-false, ltb-true, ltb-false, eqb-true, eqb-false, le-leb, lt-leb, lt-ltb, le-ltb}
use Rattle.image.specs.Ranges.{any, rises}
use Rattle.image.proofs.Ranges.{rises_least, rises_top}
use Rattle.validate.specs.Numbers.{falls}

not_or : (x y : Bool) → not (x || y) ≡ not x && not y
not_or true y = refl
not_or false y = refl

-- of five tests the second follows from the last three, whose order does not matter
follows : (a b c d e : Bool) → (c && d && e ≡ true → b ≡ true) → a && b && (c && d && e) ≡ a && d && (c && e)
follows false b c d e h = refl
follows true b true true true h = rw (h refl)
follows true true true true false h = refl
follows true false true true false h = refl
follows true true true false e h = refl
follows true false true false e h = refl
follows true true false true e h = refl
follows true false false true e h = refl
follows true true false false e h = refl
follows true false false false e h = refl

not_below : (x y : ℕ) → leb x y ≡ not (ltb y x)
not_below x y = cases (leb x y) refl
  where
    cases : (t : Bool) → leb x y ≡ t → t ≡ not (ltb y x)
    cases true e = rw (le-ltb y x (leb-true x y e))
    cases false e = rw (lt-ltb y x (leb-false x y e))

module _ (step : ℕ) (f : ℕ → ℕ) (top : ℕ) where
  pub rises_ends : (least i n : ℕ) → rises step f top least i (suc n) ≡ leb least (f i) && leb (f (i + n)) top && not (any (falls step f) i n)
  unfolding rises any falls
  rises_ends least i zero = rw (add-zero i)
  rises_ends least i (suc n) =
      let x : i + suc n ≡ suc i + n = omega arith in
      let r = rises_ends (f i + step) (suc i) n in
      rw (x, not_or (ltb (f (i + 1)) (f i + step)) (any (falls step f) (suc i) n), add-one i, ← not_below (f i + step) (f (suc i)), r)
      (follows (leb least (f i)) (leb (f i) top) (leb (f i + step) (f (suc i))) (leb (f (suc i + n)) top) (not (any (falls step f) (suc i) n)) (λ e.
      let low : f i + step ≤ f (suc i) = rises_least step f top (f i + step) (suc i) (suc n) (r ∙ e) (suc i) (omega arith) (omega arith) in
      let high : f (suc i) ≤ top = rises_top step f top (f i + step) (suc i) (suc n) (r ∙ e) (suc i) (omega arith) (omega arith) in
      le-leb (f i) top (omega arith)))

-- the answers of the three tests in turn, over count numbers
module _ (step : ℕ) (f : ℕ → ℕ) (top least count first last : ℕ) (some : 0 < count) (e : first ≡ f 0) where
  ends : rises step f top least 0 count ≡ leb least (f 0) && leb (f (count - 1)) top && not (any (falls step f) 0 (count - 1))
  ends =
      let x : count ≡ suc (count - 1) = omega arith in
      let z : 0 + (count - 1) ≡ count - 1 = omega arith in
      ap (rises step f top least 0) x ∙ rises_ends step f top least 0 (count - 1) ∙ rw z

  pub first_below : first < least → false ≡ rises step f top least 0 count
  first_below lt = sym (ends ∙ rw (← e, lt-leb least first lt))

  pub last_above : least ≤ first → last ≡ f (count - 1) → top < last → false ≡ rises step f top least 0 count
  last_above le q lt = sym (ends ∙ rw (← e, ← q, le-leb least first le, lt-leb last top lt))

  pub by_falls : least ≤ first → last ≡ f (count - 1) → last ≤ top → {x : Bool} → x ≡ any (falls step f) 0 (count - 1) → not x ≡ rises step f top least 0 count
  by_falls le q h r = sym (ends ∙ rw (← e, ← q, le-leb least first le, le-leb last top h, ← r))

-- a step of 0 or 1 as a test without a sum
pub falls_by : (step x y : ℕ) → step ≤ 1 → ltb y x || (eqb y x && eqb step 1) ≡ ltb y (x + step)
falls_by step x y le = cases (ltb y x) (eqb y x) (eqb step 1) refl refl refl
  where
    cases : (t u v : Bool) → ltb y x ≡ t → eqb y x ≡ u → eqb step 1 ≡ v → t || (u && v) ≡ ltb y (x + step)
    cases true u v p q r =
        let h : y < x = ltb-true y x p in
        sym (lt-ltb y (x + step) (omega arith))
    cases false true true p q r =
        let h : y ≡ x = eqb-true y x q in
        let g : step ≡ 1 = eqb-true step 1 r in
        sym (lt-ltb y (x + step) (omega arith))
    cases false true false p q r =
        let h : y ≡ x = eqb-true y x q in
        let g : step ≡ 1 → ⊥ = eqb-false step 1 r in
        sym (le-ltb y (x + step) (omega arith))
    cases false false v p q r =
        let h : x ≤ y = ltb-false y x p in
        let g : y ≡ x → ⊥ = eqb-false y x q in
        sym (le-ltb y (x + step) (omega arith))
