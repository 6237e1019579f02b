-- Fixed-size lists: ranges of them are equal exactly where all their child rows are as one range.
-- By the law of blocks, with the offsets 0, p1, 2 * p1, ..; the products stay below the length of the child.
use mathlib.Core.Path.{◌≡◌, sym, ap, ◌∙◌}
use mathlib.Core.List.{List}
use Prim.Native.Nat.{ℕ, ◌+◌, ◌*◌, ◌≤◌}
use native.Mathlib.Omega.{arith}
use native.Mathlib.Nat.{mul-le-mul_right, zero-add}
use Rattle.image.specs.declared.type_code.Layout.TheVariants.{FixedList}
use Rattle.image.specs.Record.{code_of, p1_of, length_of, first_child, child_count}
use Rattle.image.specs.TypeCode.{layout_of}
use Rattle.image.specs.Reads.{Read}
use Rattle.image.specs.Row.{Row, fixed_list_row, row_at}
use Rattle.image.specs.Equality.{row_equal}
use Rattle.values.specs.Pairs.{all, same_row, range_equal}
use Rattle.values.specs.Parts.{Sides, Parts}
use Rattle.values.proofs.Steps.{by_rows}
use Rattle.values.proofs.Blocks.{blocks}
use Rattle.values.proofs.Fixed.{times, next, whole}
use Rattle.accepted.proofs.ChildRows.{fixed_list_within, fixed_list_small}
use Rattle.equal.proofs.Child.{layout_right, count_left, first_sides}

module _ (A B : ℕ → ℕ → Row) (a b : List ℕ) (k l : ℕ) (same : p1_of a k ≡ p1_of b l) where
  row : (x y : ℕ) → same_row (fixed_list_row A a k) (fixed_list_row B b l) x y ≡ all (same_row (A (first_child a k)) (B (first_child b l))) (0 + x * p1_of a k) (0 + y * p1_of a k) (p1_of a k)
  unfolding same_row fixed_list_row row_equal
  row x y =
      rw (← same, zero-add (x * p1_of a k), zero-add (y * p1_of a k))
      (sym (by_rows (A (first_child a k)) (B (first_child b l)) (x * p1_of a k) (y * p1_of a k) (p1_of a k)))

  pub fixed_list_block : (i j n : ℕ) → range_equal (A (first_child a k)) (B (first_child b l)) (i * p1_of a k) (j * p1_of a k) (n * p1_of a k) ≡ range_equal (fixed_list_row A a k) (fixed_list_row B b l) i j n
  fixed_list_block i j n =
      sym (sym (by_rows (fixed_list_row A a k) (fixed_list_row B b l) i j n)
      ∙ blocks (same_row (A (first_child a k)) (B (first_child b l))) (same_row (fixed_list_row A a k) (fixed_list_row B b l)) (times (p1_of a k)) (times (p1_of a k)) 0 0 i j n
      (λ h le lt. mul-le-mul_right (p1_of a k) (omega arith)) (λ h le lt. mul-le-mul_right (p1_of a k) (omega arith))
      (λ h lt. next (p1_of a k) (i + h) ∙ sym (next (p1_of a k) (j + h)))
      (λ h lt. row (i + h) (j + h) ∙ ap (all (same_row (A (first_child a k)) (B (first_child b l))) _ _) (sym (next (p1_of a k) (i + h))))
      ∙ rw (zero-add (i * p1_of a k), zero-add (j * p1_of a k), whole (p1_of a k) i n)
      (by_rows (A (first_child a k)) (B (first_child b l)) (i * p1_of a k) (j * p1_of a k) (n * p1_of a k)))

module _ {a b : List ℕ} {k l i j n d : ℕ} (r : Parts a b k l i j n d) (lists : layout_of (code_of a k) ≡ FixedList) {w : ℕ} (ew : Read (p1_of a k) 32 w) where
  -- no product wraps
  pub fixed_list_left : i * w + n * w ≤ 1073741824
  fixed_list_left = rw ew.value (fixed_list_small r.left lists)

  pub fixed_list_right : j * w + n * w ≤ 1073741824
  fixed_list_right = rw (ew.value, r.alike.0.p1) (fixed_list_small r.right (layout_right r lists))

  module _ {ca cb : ℕ} (fa : ca ≡ first_child a k) (fb : cb ≡ first_child b l) where
    pub fixed_list_requires : Sides a b ca cb (i * w) (j * w) (n * w) d
    fixed_list_requires =
        let one : child_count a k ≡ 1 = count_left r 1 (rw lists) in
        let right : j * p1_of a k + n * p1_of a k ≤ length_of b (first_child b l) = rw r.alike.0.p1 (fixed_list_within r.right (layout_right r lists)) in
        rw (fa, fb, ew.value) (first_sides r _ _ _ (omega arith) (fixed_list_within r.left lists) right)

    pub fixed_list_answer : range_equal (row_at d a ca) (row_at d b cb) (i * w) (j * w) (n * w) ≡ range_equal (fixed_list_row (row_at d a) a k) (fixed_list_row (row_at d b) b l) i j n
    fixed_list_answer = rw (fa, fb, ew.value) (fixed_list_block (row_at d a) (row_at d b) a b k l r.alike.0.p1 i j n)
