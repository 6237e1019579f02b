-- One level of the agreement of types: the heads, and then the children in turn, each by its labels and its own type.
-- A depth that is not 0 is one more than another; the numbers that were read stand for those of the definition.
use mathlib.Core.Path.{◌≡◌, refl, sym, ap, ◌∙◌}
use mathlib.Core.Bool.{Bool, true, false, ◌&&◌}
use mathlib.Core.List.{List}
use Prim.Native.Nat.{ℕ, zero, suc, ◌+◌, ◌-◌}
use native.Mathlib.Omega.{arith}
use Rattle.image.specs.declared.labels.Counted.{Counted}
use Rattle.image.specs.Ranges.{every}
use Rattle.image.specs.Record.{code_of, first_child, child_count}
use Rattle.image.specs.TypeCode.{is_map}
use Rattle.image.specs.Types.{counted_for, labels_agree, heads_agree, types_agree_at}
use Rattle.values.specs.Pairs.{all}

-- a test of pairs in step, by the number of the pair
pub every_all : (p : ℕ → ℕ → Bool) (x y i n : ℕ) → every (λ c. p (x + c) (y + c)) i n ≡ all p (x + i) (y + i) n
unfolding every all
every_all p x y i zero = refl
every_all p x y i (suc n) =
    let u : x + suc i ≡ suc (x + i) = omega arith in
    let v : y + suc i ≡ suc (y + i) = omega arith in
    let rest : every (λ c. p (x + c) (y + c)) (suc i) n ≡ all p (suc (x + i)) (suc (y + i)) n = every_all p x y (suc i) n ∙ rw (u, v) in
    ap (λ (r : Bool). p (x + i) (y + i) && r) rest

-- two children agree
unfoldable pub child_agrees : ℕ → Counted → Bool → List ℕ → List ℕ → ℕ → ℕ → Bool
child_agrees d counted below s t i j = labels_agree counted s t i j && types_agree_at d below s t i j

module _ (d : ℕ) (counted : Counted) (below : Bool) (s t : List ℕ) (i j : ℕ) {q : Bool} (labels : q ≡ labels_agree counted s t i j) where
  pub labels_fail : q ≡ false → child_agrees d counted below s t i j ≡ false
  unfolding child_agrees
  labels_fail e = rw (← labels, e)

  pub labels_agree_lem : {r : Bool} → q ≡ true → r ≡ types_agree_at d below s t i j → child_agrees d counted below s t i j ≡ r
  unfolding child_agrees
  labels_agree_lem e types = rw (← labels, e, ← types)

pub at_none : (depth : ℕ) (p : Bool) (s t : List ℕ) (i j : ℕ) → depth ≡ 0 → true ≡ types_agree_at depth p s t i j
unfolding types_agree_at
at_none depth p s t i j e = rw e

module _ (depth : ℕ) (p : Bool) (s t : List ℕ) (i j : ℕ) (some : depth ≡ 0 → ⊥) where
  whole : types_agree_at depth p s t i j
      ≡ heads_agree s t i j && all (child_agrees (depth - 1) (counted_for p (code_of s i)) (is_map (code_of s i)) s t) (first_child s i + 0) (first_child t j + 0) (child_count s i)
  unfolding types_agree_at child_agrees
  whole =
      let e : depth ≡ suc (depth - 1) = omega arith in
      ap (λ (d : ℕ). types_agree_at d p s t i j) e
      ∙ ap (λ (r : Bool). heads_agree s t i j && r)
      (every_all (child_agrees (depth - 1) (counted_for p (code_of s i)) (is_map (code_of s i)) s t) (first_child s i) (first_child t j) 0 (child_count s i))

  pub heads_fail : {q : Bool} → q ≡ heads_agree s t i j → q ≡ false → false ≡ types_agree_at depth p s t i j
  heads_fail heads e = sym (whole ∙ rw (← heads, e))

  -- heads that agree, and what was read of the two nodes: the children decide
  pub children : {q : Bool} {code n x y : ℕ} {counted : Counted} {below : Bool} → q ≡ heads_agree s t i j → q ≡ true
      → code ≡ code_of s i → counted ≡ counted_for p code → below ≡ is_map code → n ≡ child_count s i → x ≡ first_child s i → y ≡ first_child t j
      → all (child_agrees (depth - 1) counted below s t) x y n ≡ types_agree_at depth p s t i j
  children {code = code} {counted = counted} {below = below} heads e ec el eb en ex ey =
      let u : first_child s i + 0 ≡ first_child s i = omega arith in
      let v : first_child t j + 0 ≡ first_child t j = omega arith in
      let eh : heads_agree s t i j ≡ true = sym heads ∙ e in
      let counts : counted ≡ counted_for p (code_of s i) = rw (← ec) el in
      let map : below ≡ is_map (code_of s i) = rw (← ec) eb in
      sym (whole ∙ rw (eh, u, v) (cc))
