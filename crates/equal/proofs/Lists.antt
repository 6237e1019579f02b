-- Lists and Maps: lists of unequal lengths differ, and lists that are equally long in turn are equal exactly where
-- all their child rows are as one range.
-- By the law of blocks over the offsets, which rise in an accepted image.
use mathlib.Core.Path.{◌≡◌, sym, ◌∙◌}
use mathlib.Core.Bool.{true, false}
use mathlib.Core.List.{List}
use Prim.Native.Nat.{ℕ, zero, suc, ◌+◌, ◌*◌, ◌-◌, ◌<◌, ◌≤◌}
use native.Mathlib.Omega.{arith}
use native.Mathlib.Nat.{zero-add}
use lib.ListN.{length}
use borrow.Author.Tests.{eqb-true, eqb-false}
use Rattle.image.specs.declared.type_code.Layout.TheVariants.{List as Lists}
use Rattle.image.specs.Record.{code_of, length_of, first_child, child_count, buffer_count}
use Rattle.image.specs.TypeCode.{layout_of}
use Rattle.image.specs.Element.{element_width, element_place, element_at}
use Rattle.image.specs.Row.{Row, list_row, row_at}
use Rattle.image.specs.Equality.{row_equal}
use Rattle.laws.proofs.Codes.{list_offset_width}
use Rattle.values.specs.Pairs.{all, same_row, range_equal, span_at, same_span}
use Rattle.values.specs.Parts.{Sides, Parts, Spans}
use Rattle.values.proofs.Steps.{by_rows}
use Rattle.values.proofs.Blocks.{all_at, all_weaker, Rise, blocks}
use Rattle.accepted.proofs.Nodes.{part_node, part_small, part_offsets}
use Rattle.equal.proofs.Rows.{lengths_differ}
use Rattle.equal.proofs.Child.{layout_right, widths_same, count_left, first_sides}

-- lists of unequal lengths differ
span_differs : (A B : ℕ → ℕ → Row) (a b : List ℕ) (k l x y : ℕ) → same_span a k b l x y ≡ false → same_row (list_row A a k) (list_row B b l) x y ≡ false
unfolding same_span span_at same_row list_row row_equal
span_differs A B a b k l x y e = lengths_differ (A (first_child a k)) (B (first_child b l)) _ _ _ _ (eqb-false _ _ e)

pub spans_differ : (A B : ℕ → ℕ → Row) (a b : List ℕ) (k l i j n : ℕ) → all (same_span a k b l) i j n ≡ false → false ≡ range_equal (list_row A a k) (list_row B b l) i j n
spans_differ A B a b k l i j n e =
    sym (sym (by_rows (list_row A a k) (list_row B b l) i j n)
    ∙ all_weaker (same_span a k b l) (same_row (list_row A a k) (list_row B b l)) i j n (λ h lt. span_differs A B a b k l (i + h) (j + h)) e)

-- lists equally long
span_is : (a b : List ℕ) (k l x y : ℕ) → same_span a k b l x y ≡ true → element_at a k (suc x) - element_at a k x ≡ element_at b l (suc y) - element_at b l y
unfolding same_span span_at
span_is a b k l x y e = eqb-true _ _ e

list_row_lem : (A B : ℕ → ℕ → Row) (a b : List ℕ) (k l x y : ℕ) → element_at a k (suc x) - element_at a k x ≡ element_at b l (suc y) - element_at b l y
    → same_row (list_row A a k) (list_row B b l) x y ≡ all (same_row (A (first_child a k)) (B (first_child b l))) (0 + element_at a k x) (0 + element_at b l y) (element_at a k (suc x) - element_at a k x)
unfolding same_row list_row row_equal
list_row_lem A B a b k l x y e =
    rw (← e, zero-add (element_at a k x), zero-add (element_at b l y))
    (sym (by_rows (A (first_child a k)) (B (first_child b l)) (element_at a k x) (element_at b l y) (element_at a k (suc x) - element_at a k x)))

-- offsets that rise by the same steps on both sides rise by the same number over a range
record Far (f g : ℕ → ℕ) (i j n : ℕ) : Type 0 where
  left : f i ≤ f (i + n)
  right : g j ≤ g (j + n)
  same : f (i + n) + g j ≡ g (j + n) + f i

far : (f g : ℕ → ℕ) (i j n : ℕ) → Rise f i n → Rise g j n → ((h : ℕ) → h < n → f (suc (i + h)) - f (i + h) ≡ g (suc (j + h)) - g (j + h)) → Far f g i j n
far f g i j zero rf rg same =
    let x : i + 0 ≡ i = omega arith in
    let y : j + 0 ≡ j = omega arith in
    record { left = rw x (omega arith); right = rw y (omega arith); same = rw (x, y) (omega arith) }
far f g i j (suc n) rf rg same =
    let x : i + suc n ≡ suc (i + n) = omega arith in
    let y : j + suc n ≡ suc (j + n) = omega arith in
    let before : Far f g i j n = far f g i j n (λ h le lt. rf h le (omega arith)) (λ h le lt. rg h le (omega arith)) (λ h lt. same h (omega arith)) in
    let up : f (i + n) ≤ f (suc (i + n)) = rf (i + n) (omega arith) (omega arith) in
    let ug : g (j + n) ≤ g (suc (j + n)) = rg (j + n) (omega arith) (omega arith) in
    let last : f (suc (i + n)) - f (i + n) ≡ g (suc (j + n)) - g (j + n) = same n (omega arith) in
    record { left = rw x (omega arith); right = rw y (omega arith); same = rw (x, y) (omega arith) }

module _ {a b : List ℕ} {k l i j n d : ℕ} (r : Parts a b k l i j n d) (lists : layout_of (code_of a k) ≡ Lists) where
  rise_left : Rise (element_at a k) i n
  rise_left h le lt = ((part_node r.left).places.lists lists).rise h (omega (arith, r.left.high))

  rise_right : Rise (element_at b l) j n
  rise_right h le lt = ((part_node r.right).places.lists (layout_right r lists)).rise h (omega (arith, r.right.high))

  offsets_left : element_place a k i + (n + 1) * element_width a k ≤ length a
  offsets_left =
      let node = part_node r.left in
      let one : buffer_count a k ≡ 1 = node.buffers.exactly 1 (rw lists) in
      part_offsets r.left (omega arith) (node.enough.lists lists)

  offsets_right : element_place b l j + (n + 1) * element_width b l ≤ length b
  offsets_right =
      let node = part_node r.right in
      let one : buffer_count b l ≡ 1 = node.buffers.exactly 1 (rw (layout_right r lists)) in
      part_offsets r.right (omega arith) (node.enough.lists (layout_right r lists))

  -- what the comparison of lengths asks for
  pub list_spans : Spans a b k l i j n
  list_spans = record {
    whole = list_offset_width _ _ lists;
    same = widths_same r;
    left = rise_left;
    right = rise_right;
    left_small = omega (arith, part_small r.left);
    right_small = omega (arith, part_small r.right);
    left_inside = offsets_left;
    right_inside = offsets_right;
  }

  -- offsets are read within a word
  pub list_narrow_left : element_width a k ≤ 8
  list_narrow_left = (part_node r.left).widths.lists lists

  pub list_narrow_right : element_width b l ≤ 8
  list_narrow_right = rw (← widths_same r) list_narrow_left

  module _ (same : all (same_span a k b l) i j n ≡ true) where
    spans_same : (h : ℕ) → h < n → element_at a k (suc (i + h)) - element_at a k (i + h) ≡ element_at b l (suc (j + h)) - element_at b l (j + h)
    spans_same h lt = span_is a b k l (i + h) (j + h) (all_at (same_span a k b l) i j n same h lt)

    -- all child rows as one range
    pub list_block : (A B : ℕ → ℕ → Row) → range_equal (A (first_child a k)) (B (first_child b l)) (element_at a k i) (element_at b l j) (element_at a k (i + n) - element_at a k i) ≡ range_equal (list_row A a k) (list_row B b l) i j n
    list_block A B =
        sym (sym (by_rows (list_row A a k) (list_row B b l) i j n)
        ∙ blocks (same_row (A (first_child a k)) (B (first_child b l))) (same_row (list_row A a k) (list_row B b l)) (element_at a k) (element_at b l) 0 0 i j n rise_left rise_right spans_same
        (λ h lt. list_row_lem A B a b k l (i + h) (j + h) (spans_same h lt))
        ∙ rw (zero-add (element_at a k i), zero-add (element_at b l j)) (by_rows (A (first_child a k)) (B (first_child b l)) (element_at a k i) (element_at b l j) (element_at a k (i + n) - element_at a k i)))

    ends : Far (element_at a k) (element_at b l) i j n
    ends = far (element_at a k) (element_at b l) i j n rise_left rise_right spans_same

    pub list_rises : element_at a k i ≤ element_at a k (i + n)
    list_rises = ends.left

    -- what the comparison of child rows asks for
    pub list_sides : Sides a b (first_child a k) (first_child b l) (element_at a k i) (element_at b l j) (element_at a k (i + n) - element_at a k i) d
    list_sides =
        let one : child_count a k ≡ 1 = count_left r 1 (rw lists) in
        let e = ends in
        let left : element_at a k (i + n) ≤ length_of a (first_child a k) = ((part_node r.left).places.lists lists).within (i + n) r.left.high in
        let right : element_at b l (j + n) ≤ length_of b (first_child b l) = ((part_node r.right).places.lists (layout_right r lists)).within (j + n) r.right.high in
        first_sides r (element_at a k i) (element_at b l j) (element_at a k (i + n) - element_at a k i) (omega arith) (omega arith) (omega arith)

    -- the same of what was read
    module _ {ca cb from to start : ℕ} (fa : ca ≡ first_child a k) (fb : cb ≡ first_child b l) (ef : from ≡ element_at a k i) (et : to ≡ element_at a k (i + n)) (es : start ≡ element_at b l j) where
      pub list_order : from ≤ to
      list_order = omega (arith, list_rises)

      pub list_requires : Sides a b ca cb from start (to - from) d
      list_requires = rw (fa, fb, ef, et, es) list_sides

      pub list_answer : range_equal (row_at d a ca) (row_at d b cb) from start (to - from) ≡ range_equal (list_row (row_at d a) a k) (list_row (row_at d b) b l) i j n
      list_answer = rw (fa, fb, ef, et, es) (list_block (row_at d a) (row_at d b))
