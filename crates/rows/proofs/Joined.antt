-- Bytes that are pieces pieces, from the first piece that is left: those of rows, of child rows and of an image.
-- A range of pieces is its first piece and the rest; each kind of bytes is such a range, by induction over the count.
use mathlib.Core.Path.{◌≡◌, refl, ap, ◌∙◌}
use mathlib.Core.List.{List, [], ◌∷◌, ◌++◌, append_assoc}
use Prim.Native.Nat.{ℕ, zero, suc, ◌+◌, ◌-◌, ◌/◌, ◌%◌, ◌≤◌, ◌<◌}
use native.Mathlib.Omega.{arith}
use Rattle.image.specs.Ranges.{pieces}
use Rattle.image.specs.Bytes.{number_bytes}
use Rattle.image.specs.Row.{Row, Rows, none, more, range, rows_then}
use Rattle.image.specs.RowBytes.{row_bytes, rows_bytes}
use Rattle.rows.specs.Value.{part_rows}

-- pieces from piece k on
module _ (p : ℕ → List ℕ) (i n : ℕ) where
  pub joined_start : pieces p (i + 0) (n - 0) ≡ pieces p i n
  joined_start =
      let a : i + 0 ≡ i = omega arith in
      let b : n - 0 ≡ n = omega arith in
      rw (a, b)

  pub joined_next : (k : ℕ) → k < n → pieces p (i + k) (n - k) ≡ p (i + k) ++ pieces p (i + (k + 1)) (n - (k + 1))
  unfolding pieces
  joined_next k lt =
      let a : i + (k + 1) ≡ suc (i + k) = omega arith in
      let b : n - k ≡ suc (n - (k + 1)) = omega arith in
      rw (a, b)

  pub joined_end : (k : ℕ) → n ≤ k → pieces p (i + k) (n - k) ≡ []
  unfolding pieces
  joined_end k le =
      let b : n - k ≡ 0 = omega arith in
      rw b

-- the first piece, and the rest
pub joined_first : (p : ℕ → List ℕ) (i n : ℕ) → (n ≡ 0 → ⊥) → pieces p i n ≡ p i ++ pieces p (i + 1) (n - 1)
unfolding pieces
joined_first p i n some =
    let a : i + 1 ≡ suc i = omega arith in
    let b : n ≡ suc (n - 1) = omega arith in
    ap (pieces p i) b ∙ rw a

-- each kind of bytes as pieces
pub rows_joined : (g : ℕ → Row) (i n : ℕ) → rows_bytes (range g i n) ≡ pieces (λ j. row_bytes (g j)) i n
unfolding pieces rows_bytes range
rows_joined g i zero = refl
rows_joined g i (suc n) = ap (λ (b : List ℕ). row_bytes (g i) ++ b) (rows_joined g (suc i) n)

then_bytes : (rs qs : Rows) → rows_bytes (rows_then rs qs) ≡ rows_bytes rs ++ rows_bytes qs
unfolding rows_then rows_bytes
then_bytes none qs = refl
then_bytes (more r rs) qs = rw (then_bytes rs qs, append_assoc)

pub parts_joined : (sub : ℕ → ℕ → Row) (c parts i n : ℕ) → rows_bytes (part_rows sub c parts i n) ≡ pieces (λ c. rows_bytes (range (sub c) i n)) c parts
unfolding pieces part_rows rows_bytes
parts_joined sub c zero i n = refl
parts_joined sub c (suc parts) i n =
    then_bytes (range (sub c) i n) (part_rows sub (suc c) parts i n)
    ∙ ap (λ (b : List ℕ). rows_bytes (range (sub c) i n) ++ b) (parts_joined sub (suc c) parts i n)

-- the bytes of a number from byte k on, where rest is what is left of the number
pub number_next : (w k rest : ℕ) → k < w → number_bytes (w - k) rest ≡ rest % 256 ∷ number_bytes (w - (k + 1)) (rest / 256)
unfolding number_bytes
number_next w k rest lt =
    let b : w - k ≡ suc (w - (k + 1)) = omega arith in
    rw b
