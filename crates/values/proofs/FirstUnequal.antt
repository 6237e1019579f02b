-- The first of the pairs of a range that fails a test: where it stands, and how a search for it goes on.
-- It is the one pair that fails after pairs that all pass, and the count where none fails.
use mathlib.Core.Path.{◌≡◌, refl, sym, ◌∙◌}
use mathlib.Core.Bool.{Bool, true, false, not}
use Prim.Native.Nat.{ℕ, ◌+◌, ◌-◌, ◌<◌, ◌≤◌}
use native.Mathlib.Nat.{lt_of_not-le, le_of_suc-le-suc}
use native.Mathlib.Omega.{arith}
use lib.Dec.{eqb, ltb}
use borrow.Author.Tests.{eqb-true, eqb-false, not-true, not-false, lt-ltb, le-ltb, ltb-true}
use Rattle.std.specs.Prelude.{is_none}
use Rattle.std.specs.Bool.{then_some}
use Rattle.std.proofs.Common.{Option, Some, None}
use Rattle.std.proofs.lemmas.Option.{none-some, same_Some}
use Rattle.image.specs.Ranges.{first}
use Rattle.image.specs.Row.{Row}
use Rattle.image.proofs.Ranges.{first_within, first_passes, first_before}
use Rattle.values.specs.Bits.{Leading}
use Rattle.values.specs.Pairs.{all, pair_differs, first_unequal, same_row, range_equal}
use Rattle.values.proofs.Steps.{Passed, all_split, all_snoc, all_by, all_moved, by_rows, front_fails}
use Rattle.values.proofs.Blocks.{all_at}

-- a test does not both pass and fail
pub apart : (x : Bool) → x ≡ true → x ≡ false → ⊥
apart x e f =
    let z : ◌≡◌ {A = ℕ} 0 1 = cc in
    omega arith

module _ (p : ℕ → ℕ → Bool) (i j n : ℕ) where
  pub unequal_within : first_unequal p i j n ≤ n
  unfolding first_unequal
  unequal_within = omega (arith, first_within (pair_differs p i j) 0 n)

  pub unequal_most : {r : ℕ} → r ≡ first_unequal p i j n → r ≤ n
  unequal_most e = rw e unequal_within

  -- all before it pass
  pub unequal_before : all p i j (first_unequal p i j n) ≡ true
  unfolding first_unequal pair_differs
  unequal_before =
      all_by p i j (first (pair_differs p i j) 0 n)
      (λ h lt. not-false _ (first_before (pair_differs p i j) 0 n h (omega arith) lt))

  -- and it fails
  pub unequal_fails : first_unequal p i j n < n → p (i + first_unequal p i j n) (j + first_unequal p i j n) ≡ false
  unfolding first_unequal pair_differs
  unequal_fails lt = not-true _ (first_passes (pair_differs p i j) 0 n (omega arith))

  -- it is the only number of which both hold
  pub unequal_is : (r : ℕ) → r ≤ n → all p i j r ≡ true → (r < n → p (i + r) (j + r) ≡ false) → r ≡ first_unequal p i j n
  unequal_is r le passes fails =
      let f : ℕ = first_unequal p i j n in
      let high : f ≤ n = unequal_within in
      let up : r ≤ f = le_of_suc-le-suc (lt_of_not-le (λ before. apart _ (all_at p i j r passes f before) (unequal_fails (omega arith)))) in
      let down : f ≤ r = le_of_suc-le-suc (lt_of_not-le (λ after. apart _ (all_at p i j f unequal_before r after) (fails (omega arith)))) in
      omega arith

  -- it is the count exactly where all pass
  pub unequal_whole : eqb (first_unequal p i j n) n ≡ all p i j n
  unequal_whole = cases (eqb (first_unequal p i j n) n) refl
    where
      cases : (x : Bool) → eqb (first_unequal p i j n) n ≡ x → x ≡ all p i j n
      cases true e = let h : first_unequal p i j n ≡ n = eqb-true _ _ e in sym (rw h at unequal_before)
      cases false e =
          let h = eqb-false (first_unequal p i j n) n e in
          let lt : first_unequal p i j n < n = omega (arith, h, unequal_within) in
          let some : all p i j (first_unequal p i j n + 1) ≡ false = all_snoc p i j (first_unequal p i j n) ∙ rw (unequal_before, unequal_fails lt) in
          front_fails p i j (first_unequal p i j n + 1) n (omega arith) some

  pub unequal_none : all p i j n ≡ true → n ≡ first_unequal p i j n
  unequal_none e = unequal_is n (omega arith) e (λ lt. absurd (omega arith))

  -- it is below the count where not all pass
  pub unequal_some : all p i j n ≡ false → first_unequal p i j n < n
  unequal_some e =
      let h = eqb-false (first_unequal p i j n) n (unequal_whole ∙ e) in
      omega (arith, h, unequal_within)

  -- the first that fails, if there is one
  abbrev pub unequal_answer : Option ℕ
  unequal_answer = then_some (ltb (first_unequal p i j n) n) (first_unequal p i j n)

  -- there is none exactly where all pass
  pub unequal_nowhere : is_none unequal_answer ≡ all p i j n
  unequal_nowhere = cases (all p i j n) refl
    where
      cases : (x : Bool) → all p i j n ≡ x → is_none unequal_answer ≡ all p i j n
      cases true e = rw (le-ltb (first_unequal p i j n) n (omega (arith, unequal_none e)), e)
      cases false e = rw (lt-ltb (first_unequal p i j n) n (unequal_some e), e)

  -- a number that is it is answered where it is below the count
  pub unequal_below : {r : ℕ} → r ≡ first_unequal p i j n → then_some (ltb r n) r ≡ unequal_answer
  unequal_below e = rw e

  pub unequal_found : {r : ℕ} → r ≡ first_unequal p i j n → r < n → Some r ≡ unequal_answer
  unequal_found e lt = rw (← e, lt-ltb _ n lt)

  pub unequal_past : n ≡ first_unequal p i j n → None ≡ unequal_answer
  unequal_past e = rw (le-ltb (first_unequal p i j n) n (omega (arith, e)))

  -- the number that is answered is it
  pub unequal_told : {r : ℕ} {o : Option ℕ} → o ≡ unequal_answer → o ≡ Some r → (r ≡ first_unequal p i j n) × (r < n)
  unequal_told {r} e is = cases (ltb (first_unequal p i j n) n) refl (sym e ∙ is)
    where
      cases : (x : Bool) → ltb (first_unequal p i j n) n ≡ x → then_some x (first_unequal p i j n) ≡ Some r → (r ≡ first_unequal p i j n) × (r < n)
      cases true t h = let same = sym (same_Some _ _ h) in (same, rw same (ltb-true _ _ t))
      cases false t h = absurd (none-some r h)

-- after k pairs that pass it is the first of the others that fails
unequal_later : (p : ℕ → ℕ → Bool) (i j n k : ℕ) → k ≤ n → all p i j k ≡ true → k + first_unequal p (i + k) (j + k) (n - k) ≡ first_unequal p i j n
unequal_later p i j n k le passes =
    let f : ℕ = first_unequal p (i + k) (j + k) (n - k) in
    let high : f ≤ n - k = unequal_within p (i + k) (j + k) (n - k) in
    let x : i + (k + f) ≡ i + k + f = omega arith in
    let y : j + (k + f) ≡ j + k + f = omega arith in
    unequal_is p i j n (k + f) (omega arith) (all_split p i j k f ∙ rw passes (unequal_before p (i + k) (j + k) (n - k)))
    (λ lt. rw (x, y) (unequal_fails p (i + k) (j + k) (n - k) (omega arith)))

-- what is found among the first m pairs is it; where none is found there, these pass
module _ (p : ℕ → ℕ → Bool) (i j m n : ℕ) (le : m ≤ n) {r : ℕ} (e : r ≡ first_unequal p i j m) where
  pub unequal_front : r < m → r ≡ first_unequal p i j n
  unequal_front lt =
      unequal_is p i j n r (omega arith) (rw e (unequal_before p i j m))
      (λ l. rw e (unequal_fails p i j m (omega arith)))

  pub unequal_passed : m ≤ r → Passed p i j n m
  unequal_passed ge =
      let h : first_unequal p i j m ≡ m = omega (arith, unequal_within p i j m) in
      record { within = le; passes = rw h at (unequal_before p i j m) }

-- A loop that looks for it keeps that the first k pairs pass.
module _ (p : ℕ → ℕ → Bool) (i j n k : ℕ) (r : Passed p i j n k) where
  -- the next pair fails
  pub unequal_here : p (i + k) (j + k) ≡ false → k ≡ first_unequal p i j n
  unequal_here e = unequal_is p i j n k r.within r.passes (λ lt. e)

  -- none is left
  pub unequal_end : n ≤ k → n ≡ first_unequal p i j n
  unequal_end le =
      let h : k ≡ n = omega (arith, r.within) in
      unequal_none p i j n (rw h at r.passes)

  -- it is the first of those that are left
  pub unequal_rest : {f : ℕ} → f ≡ first_unequal p (i + k) (j + k) (n - k) → k + f ≡ first_unequal p i j n
  unequal_rest e = rw e (unequal_later p i j n k r.within r.passes)

  -- it is among the next m
  pub unequal_among : (m : ℕ) {f : ℕ} → m ≤ n - k → f ≡ first_unequal p (i + k) (j + k) m → f < m → k + f ≡ first_unequal p i j n
  unequal_among m le e lt = unequal_rest (unequal_front p (i + k) (j + k) m (n - k) le e lt)

-- a test at some places that is another test at other places has the same first that fails
pub unequal_moved : (p q : ℕ → ℕ → Bool) (i j x y n : ℕ) → ((k : ℕ) → k < n → p (i + k) (j + k) ≡ q (x + k) (y + k)) → first_unequal p i j n ≡ first_unequal q x y n
unequal_moved p q i j x y n e =
    let f : ℕ = first_unequal p i j n in
    let high : f ≤ n = unequal_within p i j n in
    unequal_is q x y n f high (sym (all_moved p q i j x y f (λ k lt. e k (omega arith))) ∙ unequal_before p i j n)
    (λ lt. sym (e f lt) ∙ unequal_fails p i j n lt)

-- so many tests of numbers hold up to the first that fails
pub leading_first : (p : ℕ → ℕ → Bool) (q : ℕ → Bool) (i j u n : ℕ) {r : ℕ} → ((k : ℕ) → q (u + k) ≡ p (i + k) (j + k)) → Leading q u n r → r ≡ first_unequal p i j n
leading_first p q i j u n {r} e l =
    unequal_is p i j n r l.within (all_by p i j r (λ k lt. sym (e k) ∙ l.holds k lt)) (λ lt. sym (e r) ∙ l.stops lt)

-- what the library says of an `Option` that has nothing
pub says_none : {x y : Bool} → x ≡ not y → y ≡ not x
says_none {y = true} e = rw e
says_none {y = false} e = rw e

-- a range of rows is equal exactly where none is the first unequal one
pub unequal_rows : (g h : ℕ → Row) (i j n : ℕ) {o : Option ℕ} → o ≡ unequal_answer (same_row g h) i j n → is_none o ≡ range_equal g h i j n
unequal_rows g h i j n e = rw e (unequal_nowhere (same_row g h) i j n ∙ by_rows g h i j n)
