-- The search for the first unequal row: rows known to be equal, a row known to be unequal, and the space between them.
-- The first pair that fails lies from low on and before high where the first low pass and the first high do not.
use mathlib.Core.Path.{◌≡◌, refl, sym, ap, ◌∙◌}
use mathlib.Core.Bool.{Bool, true, false, ◌&&◌}
use mathlib.Core.List.{List}
use Prim.Native.Nat.{ℕ, ◌+◌, ◌-◌, ◌<◌, ◌≤◌, min, max}
use native.Mathlib.Omega.{arith}
use lib.Dec.{ltb}
use borrow.Author.Tests.{lt-ltb, le-ltb}
use Rattle.std.proofs.Common.{Option, Some, None}
use Rattle.std.specs.Bool.{then_some}
use Rattle.image.specs.Record.{max_depth}
use Rattle.image.specs.Row.{row_at, table_rows}
use Rattle.image.specs.Equality.{rows_differ, ranges_equal, first_difference}
use Rattle.image.proofs.Bools.{fails_and}
use Rattle.values.specs.Pairs.{all, pair_differs, first_unequal, same_row, range_equal, same_mask}
use Rattle.values.specs.Parts.{Sides}
use Rattle.values.proofs.Steps.{Passed, all_split, all_snoc, by_rows}
use Rattle.values.proofs.FirstUnequal.{unequal_fails, unequal_is, unequal_some, unequal_end, unequal_among}
use Rattle.equal.proofs.Nulls.{range_masks}

-- the first `low` pairs pass, the first `high` do not all
pub record Between (p : ℕ → ℕ → Bool) (i j n low high : ℕ) : Type 0 where
  pub below : low < high
  pub within : high ≤ n
  pub passes : all p i j low ≡ true
  pub fails : all p i j high ≡ false

module _ (p : ℕ → ℕ → Bool) (i j : ℕ) where
  -- pairs before a place and those up to another
  parts : (low middle : ℕ) → low ≤ middle → all p i j low ≡ true → all p i j middle ≡ all p (i + low) (j + low) (middle - low)
  parts low middle le e =
      let m : low + (middle - low) ≡ middle = omega arith in
      (rw m at (all_split p i j low (middle - low))) ∙ rw e

  module _ (n : ℕ) where
    between_first : {high : ℕ} → 0 < high → high ≤ n → all p i j high ≡ false → Between p i j n 0 high
    unfolding all
    between_first some le e = record { below = some; within = le; passes = refl; fails = e }

    module _ {low high middle : ℕ} (b : Between p i j n low high) (up : low < middle) (down : middle < high) where
      pub between_up : all p (i + low) (j + low) (middle - low) ≡ true → Between p i j n middle high
      between_up e = record { below = down; within = b.within; passes = parts low middle (omega arith) b.passes ∙ e; fails = b.fails }

      pub between_down : all p (i + low) (j + low) (middle - low) ≡ false → Between p i j n low middle
      between_down e = record { below = up; within = omega (arith, b.within); passes = b.passes; fails = parts low middle (omega arith) b.passes ∙ e }

    -- nothing is left between them
    pub between_none : {low high : ℕ} → Between p i j n low high → high - low ≤ 1 → low ≡ first_unequal p i j n
    between_none {low} {high} b one =
        let e : high ≡ low + 1 = omega (arith, b.below) in
        let f : all p i j low && p (i + low) (j + low) ≡ false = sym (all_snoc p i j low) ∙ (rw e at b.fails) in
        unequal_is p i j n low (omega (arith, b.below, b.within)) b.passes (λ lt. rw b.passes at f)

-- a block is no longer than what is left
pub block_within : (k left : ℕ) {r : ℕ} → r ≡ min left (max 1 k) → r ≤ left
block_within k left e = omega arith

-- the pairs are the rows of two tables
abbrev pub same_rows : List ℕ → List ℕ → ℕ → ℕ → Bool
same_rows a b = same_row (row_at max_depth a 0) (row_at max_depth b 0)

pub all_rows_lem : (a b : List ℕ) (i j n : ℕ) → all (same_rows a b) i j n ≡ ranges_equal a b i j n
unfolding ranges_equal table_rows
all_rows_lem a b i j n = by_rows (row_at max_depth a 0) (row_at max_depth b 0) i j n

pub first_row : (a b : List ℕ) (i j n : ℕ) → first_unequal (same_rows a b) i j n ≡ first_difference a b i j n
unfolding first_unequal first_difference pair_differs rows_differ same_row
first_row a b i j n = refl

module _ (a b : List ℕ) (i j n : ℕ) where
  -- what a comparison of rows said
  pub rows_said : {x y : Bool} → x ≡ range_equal (row_at max_depth a 0) (row_at max_depth b 0) i j n → x ≡ y → all (same_rows a b) i j n ≡ y
  rows_said e is = by_rows (row_at max_depth a 0) (row_at max_depth b 0) i j n ∙ sym e ∙ is

  -- of n rows that are not all equal one is the first
  pub rows_between : ranges_equal a b i j n ≡ false → Between (same_rows a b) i j n 0 n
  rows_between e =
      let fails : all (same_rows a b) i j n ≡ false = all_rows_lem a b i j n ∙ e in
      between_first (same_rows a b) i j n (omega (arith, unequal_some (same_rows a b) i j n fails)) (omega arith) fails

  -- the first unequal row, if there is one
  abbrev row_answer : Option ℕ
  row_answer = then_some (ltb (first_difference a b i j n) n) (first_difference a b i j n)

  -- all rows are equal
  pub rows_nowhere : (k : ℕ) → n ≤ k → Passed (same_rows a b) i j n k → None ≡ row_answer
  rows_nowhere k le kept =
      let past : n ≡ first_difference a b i j n = unequal_end (same_rows a b) i j n k kept le ∙ first_row a b i j n in
      rw (le-ltb (first_difference a b i j n) n (omega (arith, past)))

  -- m rows after k that are equal are not, and r is the first of them that is not
  module _ {k m r : ℕ} (le : m ≤ n - k) (kept : Passed (same_rows a b) i j n k) (fails : all (same_rows a b) (i + k) (j + k) m ≡ false) (e : r ≡ first_difference a b (i + k) (j + k) m) where
    is_first : r ≡ first_unequal (same_rows a b) (i + k) (j + k) m
    is_first = e ∙ sym (first_row a b (i + k) (j + k) m)

    pub row_inside : r < m
    row_inside = rw is_first (unequal_some (same_rows a b) (i + k) (j + k) m fails)

    pub row_found : Some (k + r) ≡ row_answer
    row_found =
        let found : k + r ≡ first_difference a b i j n = unequal_among (same_rows a b) i j n k kept m le is_first row_inside ∙ first_row a b i j n in
        rw (lt-ltb (first_difference a b i j n) n (omega (arith, found, le, row_inside))) (ap Some found)

-- rows inside a range
pub sides_inside : {a b : List ℕ} {k l i j n d : ℕ} → Sides a b k l i j n d → (x m : ℕ) → x + m ≤ n → Sides a b k l (i + x) (j + x) m d
sides_inside r x m le = record {
  left = record { image = r.left.image; node = r.left.node; rows = omega (arith, r.left.rows) };
  right = record { image = r.right.image; node = r.right.node; rows = omega (arith, r.right.rows) };
  alike = r.alike;
}

-- a row of which one side is null and the other is not is unequal
pub nulls_between : {a b : List ℕ} {i j n r : ℕ} → Sides a b 0 0 i j n max_depth → r ≡ first_unequal (same_mask a 0 b 0) i j n → r < n
    → Between (same_rows a b) i j n 0 (r + 1)
nulls_between {a} {b} {i} {j} {n} {r} sides e lt =
    let zi : i + 0 ≡ i = omega arith in
    let zj : j + 0 ≡ j = omega arith in
    let some : Sides a b 0 0 i j (r + 1) max_depth = rw (zi, zj) at (sides_inside sides 0 (r + 1) (omega arith)) in
    let here : same_mask a 0 b 0 (i + r) (j + r) ≡ false = rw e (unequal_fails (same_mask a 0 b 0) i j n (omega arith)) in
    let masks : all (same_mask a 0 b 0) i j (r + 1) ≡ false = all_snoc (same_mask a 0 b 0) i j r ∙ fails_and (all (same_mask a 0 b 0) i j r) _ (λ before. here) in
    between_first (same_rows a b) i j n (omega arith) (omega arith) (by_rows (row_at max_depth a 0) (row_at max_depth b 0) i j (r + 1) ∙ sym (range_masks some (λ z. omega arith) masks))
