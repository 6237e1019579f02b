-- A row of a list: its count, and its rows behind it.
-- A row of a node, by its mark and its layout.
-- Each arm gives its own node the row, and those below what they get.
-- n rows of a node, one after the other.
-- The loop keeps what is left to read and to fill.
-- A row of a Struct: a row of each child.
-- The loop keeps which children are left to read and to fill.
use borrow.Author.Rules.{rules}
use borrow.Enum.Refused.{opened}
use Prim.Native.Nat.{◌+◌}
use native.Mathlib.Nat.{add-zero}
use native.Mathlib.Omega.{arith}
use mathlib.Core.Path.{refl}
use mathlib.Core.Bool.{true}
use mathlib.Core.List.{◌∷◌, []}
use Rattle.image.proofs.CodeTable.{at_layouts}
use Rattle.image.proofs.Slices.{sliced}
use Rattle.laws.proofs.Lengths.{bytes_length}
use Rattle.fill.proofs.Bytes.{from_place}
use Rattle.fill.proofs.Steps.{same_then}
use Rattle.fill.proofs.Walks.{rows_start, rows_row, rows_more, rows_done}
use Rattle.fill.proofs.Arms.{row_inside, row_deep, listed_getting, listed_inside, listed_walk, listed_walked, null_rooms, null_walked, value_mark, layout_told, last_told, last_arm, struct_left, empty_getting, empty_walked, bit_inside, bit_least, bit_getting, bit_walked, fixed_inside, fixed_getting, fixed_done, text_inside, text_getting, text_done, struct_getting, one_mark, fields_start, field_walk, field_more, fields_done}
use Rattle.fill.proofs.put.Filling.+fill.Goals as goal

pub fill_list-put_list-requires-clause-getting : goal.fill_list-put_list-requires-clause-getting
fill_list-put_list-requires-clause-getting t c = listed_getting c.requires.row_walk c.requires.layout.0 c.requires.layout.1 c.le-n.ensures.value

pub fill_list-overflow_sub-depth : goal.fill_list-overflow_sub-depth
fill_list-overflow_sub-depth t c = omega (arith, row_deep c.requires.row_walk)

pub fill_list-slice_bounds-fill_rows-count : goal.fill_list-slice_bounds-fill_rows-count
fill_list-slice_bounds-fill_rows-count t c = omega (arith, listed_inside c.requires.row_walk c.requires.layout.0 c.requires.layout.1 c.le-n.ensures.value)

pub fill_list-slice_bounds-fill_rows-start : goal.fill_list-slice_bounds-fill_rows-start
fill_list-slice_bounds-fill_rows-start t c = omega (arith, listed_inside c.requires.row_walk c.requires.layout.0 c.requires.layout.1 c.le-n.ensures.value)

pub fill_list-fill_rows-requires : goal.fill_list-fill_rows-requires
fill_list-fill_rows-requires t c = (omega (arith, c.decreases, row_deep c.requires.row_walk), rw (c.child-child.ensures.image, c.child-child.ensures.number, add-zero, c.put_list.ensures.same.places, from_place c.args.b.now 5) (listed_walk c.requires.row_walk c.requires.layout.0 c.requires.layout.1 c.le-n.ensures.value refl c.put_list.ensures.filled))

pub fill_list-returns : goal.fill_list-returns
fill_list-returns t c = record { same = search rules; walked = listed_walked c.requires.row_walk c.requires.layout.0 c.requires.layout.1 c.le-n.ensures.value refl c.put_list.ensures.filled (rw (c.child-child.ensures.image, c.child-child.ensures.number, add-zero, c.put_list.ensures.same.places, from_place c.args.b.now 5) at c.fill_rows.ensures.walked) }

pub fill_row-bounds-b-0 : goal.fill_row-bounds-b-0
fill_row-bounds-b-0 t c = omega (arith, row_inside c.requires)

pub fill_row-fill_gap-requires : goal.fill_row-fill_gap-requires
fill_row-fill_gap-requires t c = record { node = c.requires.node; ready = c.requires.walk.ready; rooms = null_rooms c.requires c.if-b-eq-NULL_MARK.true }

pub fill_row-slice_bounds-result-count : goal.fill_row-slice_bounds-result-count
fill_row-slice_bounds-result-count t c = omega (arith, row_inside c.requires)

pub fill_row-slice_bounds-result-start : goal.fill_row-slice_bounds-result-start
fill_row-slice_bounds-result-start t c = omega (arith, row_inside c.requires)

pub fill_row-returns-then-b-eq-NULL_MARK : goal.fill_row-returns-then-b-eq-NULL_MARK
fill_row-returns-then-b-eq-NULL_MARK t c = record { same = search rules; walked = rw (from_place c.args.b.now 1) (null_walked c.requires c.if-b-eq-NULL_MARK.true c.fill_gap.ensures.filled) }

pub fill_row-put_gap-requires : goal.fill_row-put_gap-requires
fill_row-put_gap-requires t c = empty_getting c.requires (λ z. c.if-b-eq-NULL_MARK.false z) (layout_told c.args.image.now c.args.number c.layout.ensures c.in-Null.is)

pub fill_row-bounds-b-1 : goal.fill_row-bounds-b-1
fill_row-bounds-b-1 t c = omega (arith, bit_inside c.requires (λ z. c.if-b-eq-NULL_MARK.false z) (layout_told c.args.image.now c.args.number c.layout.ensures c.in-Boolean.is))

pub fill_row-put_boolean-requires-clause-x_bound : goal.fill_row-put_boolean-requires-clause-x_bound
fill_row-put_boolean-requires-clause-x_bound t c = bit_least c.requires (λ z. c.if-b-eq-NULL_MARK.false z) (layout_told c.args.image.now c.args.number c.layout.ensures c.in-Boolean.is)

pub fill_row-put_boolean-requires-clause-getting : goal.fill_row-put_boolean-requires-clause-getting
fill_row-put_boolean-requires-clause-getting t c = bit_getting c.requires (λ z. c.if-b-eq-NULL_MARK.false z) (layout_told c.args.image.now c.args.number c.layout.ensures c.in-Boolean.is)

pub fill_row-slice_bounds-result-count-in-Boolean : goal.fill_row-slice_bounds-result-count-in-Boolean
fill_row-slice_bounds-result-count-in-Boolean t c = omega (arith, bit_inside c.requires (λ z. c.if-b-eq-NULL_MARK.false z) (layout_told c.args.image.now c.args.number c.layout.ensures c.in-Boolean.is))

pub fill_row-slice_bounds-result-start-in-Boolean : goal.fill_row-slice_bounds-result-start-in-Boolean
fill_row-slice_bounds-result-start-in-Boolean t c = omega (arith, bit_inside c.requires (λ z. c.if-b-eq-NULL_MARK.false z) (layout_told c.args.image.now c.args.number c.layout.ensures c.in-Boolean.is))

pub fill_row-overflow_add-end : goal.fill_row-overflow_add-end
fill_row-overflow_add-end t c = rw c.element_width-end.ensures (omega (arith, fixed_inside c.requires (λ z. c.if-b-eq-NULL_MARK.false z) (layout_told c.args.image.now c.args.number c.layout.ensures c.in-FixedWidth.is), c.well_formed))

pub fill_row-slice_bounds-put_fixed-end : goal.fill_row-slice_bounds-put_fixed-end
fill_row-slice_bounds-put_fixed-end t c = rw c.element_width-end.ensures (fixed_inside c.requires (λ z. c.if-b-eq-NULL_MARK.false z) (layout_told c.args.image.now c.args.number c.layout.ensures c.in-FixedWidth.is))

pub fill_row-put_fixed-requires-clause-getting : goal.fill_row-put_fixed-requires-clause-getting
fill_row-put_fixed-requires-clause-getting t c = fixed_getting c.requires (λ z. c.if-b-eq-NULL_MARK.false z) (layout_told c.args.image.now c.args.number c.layout.ensures c.in-FixedWidth.is)

pub fill_row-slice_bounds-put_text-end : goal.fill_row-slice_bounds-put_text-end
fill_row-slice_bounds-put_text-end t c = rw c.le-end.ensures.value (text_inside c.requires (λ z. c.if-b-eq-NULL_MARK.false z) (layout_told c.args.image.now c.args.number c.layout.ensures c.in-VariableSize.is))

pub fill_row-put_text-requires-clause-getting : goal.fill_row-put_text-requires-clause-getting
fill_row-put_text-requires-clause-getting t c = rw (sliced c.args.b.now 5 c.le-end.result (rw c.le-end.ensures.value (text_inside c.requires (λ z. c.if-b-eq-NULL_MARK.false z) (layout_told c.args.image.now c.args.number c.layout.ensures c.in-VariableSize.is))), bytes_length, c.le-end.ensures.value) (text_getting c.requires (λ z. c.if-b-eq-NULL_MARK.false z) (layout_told c.args.image.now c.args.number c.layout.ensures c.in-VariableSize.is))

pub fill_row-slice_bounds-result-count-in-VariableSize : goal.fill_row-slice_bounds-result-count-in-VariableSize
fill_row-slice_bounds-result-count-in-VariableSize t c = rw c.le-end.ensures.value (omega (arith, text_inside c.requires (λ z. c.if-b-eq-NULL_MARK.false z) (layout_told c.args.image.now c.args.number c.layout.ensures c.in-VariableSize.is)))

pub fill_row-slice_bounds-result-start-in-VariableSize : goal.fill_row-slice_bounds-result-start-in-VariableSize
fill_row-slice_bounds-result-start-in-VariableSize t c = rw c.le-end.ensures.value (omega (arith, text_inside c.requires (λ z. c.if-b-eq-NULL_MARK.false z) (layout_told c.args.image.now c.args.number c.layout.ensures c.in-VariableSize.is)))

pub fill_row-fill_list-requires : goal.fill_row-fill_list-requires
fill_row-fill_list-requires t c = (omega (arith, c.decreases), (((layout_told c.args.image.now c.args.number c.layout.ensures c.in-List.is), value_mark c.requires (λ z. c.if-b-eq-NULL_MARK.false z)), c.requires))

pub fill_row-fill_struct-requires : goal.fill_row-fill_struct-requires
fill_row-fill_struct-requires t c = (omega (arith, c.decreases), ((struct_left c.requires (λ z. c.if-b-eq-NULL_MARK.false z) (last_told c.args.image.now c.args.number (at_layouts (4 ∷ 6 ∷ 7 ∷ 8 ∷ 9 ∷ 10 ∷ 11 ∷ 12 ∷ []) true last_arm refl c.layout.result (opened c.in_default.in_default-own.keys6)) c.layout.ensures), value_mark c.requires (λ z. c.if-b-eq-NULL_MARK.false z)), c.requires))

pub fill_row-returns-in-Null : goal.fill_row-returns-in-Null
fill_row-returns-in-Null t c = record { same = search rules; walked = rw (from_place c.args.b.now 1) (empty_walked c.requires (λ z. c.if-b-eq-NULL_MARK.false z) (layout_told c.args.image.now c.args.number c.layout.ensures c.in-Null.is) c.put_gap.ensures.filled) }

pub fill_row-returns-in-Boolean : goal.fill_row-returns-in-Boolean
fill_row-returns-in-Boolean t c = record { same = search rules; walked = rw (from_place c.args.b.now 2) (bit_walked c.requires (λ z. c.if-b-eq-NULL_MARK.false z) (layout_told c.args.image.now c.args.number c.layout.ensures c.in-Boolean.is) c.put_boolean.ensures.filled) }

pub fill_row-returns-in-FixedWidth : goal.fill_row-returns-in-FixedWidth
fill_row-returns-in-FixedWidth t c = record { same = search rules; walked = rw (from_place c.args.b.now (1 + c.element_width-end.result)) (fixed_done c.requires (λ z. c.if-b-eq-NULL_MARK.false z) (layout_told c.args.image.now c.args.number c.layout.ensures c.in-FixedWidth.is) c.element_width-end.ensures (rw (sliced c.args.b.now 1 c.element_width-end.result (rw c.element_width-end.ensures (fixed_inside c.requires (λ z. c.if-b-eq-NULL_MARK.false z) (layout_told c.args.image.now c.args.number c.layout.ensures c.in-FixedWidth.is)))) at c.put_fixed.ensures.filled)) }

pub fill_row-returns-in-VariableSize : goal.fill_row-returns-in-VariableSize
fill_row-returns-in-VariableSize t c = record { same = search rules; walked = rw (from_place c.args.b.now (5 + c.le-end.result)) (text_done c.requires (λ z. c.if-b-eq-NULL_MARK.false z) (layout_told c.args.image.now c.args.number c.layout.ensures c.in-VariableSize.is) c.le-end.ensures.value (rw (sliced c.args.b.now 5 c.le-end.result (rw c.le-end.ensures.value (text_inside c.requires (λ z. c.if-b-eq-NULL_MARK.false z) (layout_told c.args.image.now c.args.number c.layout.ensures c.in-VariableSize.is)))) at c.put_text.ensures.filled)) }

pub fill_rows-loop-i-init : goal.fill_rows-loop-i-init
fill_rows-loop-i-init t c = (record { places = refl; out = refl }, rows_start c.requires)

pub fill_rows-fill_row-rest-requires : goal.fill_rows-fill_row-rest-requires
fill_rows-fill_row-rest-requires t c = (omega (arith, c.decreases), rw c.loop-i.invariant.0.places (rows_row c.loop-i.invariant.1 c.loop-i-test.true))

pub fill_rows-loop-i-preserved : goal.fill_rows-loop-i-preserved
fill_rows-loop-i-preserved t c = (same_then c.loop-i.invariant.0 c.fill_row-rest.ensures.same, rows_more c.loop-i.invariant.1 c.loop-i-test.true (rw c.loop-i.invariant.0.places at c.fill_row-rest.ensures.walked))

pub fill_rows-returns : goal.fill_rows-returns
fill_rows-returns t c = record { same = search rules; walked = rows_done c.loop-i.invariant.1 c.loop-i-test.false }

pub fill_struct-put_struct-requires-clause-getting : goal.fill_struct-put_struct-requires-clause-getting
fill_struct-put_struct-requires-clause-getting t c = struct_getting c.requires.row_walk (one_mark c.requires.layout.1) c.requires.layout.0

pub fill_struct-loop-c-init : goal.fill_struct-loop-c-init
fill_struct-loop-c-init t c = rw (from_place c.args.b.now 1) (c.put_struct.ensures.same, fields_start c.requires.row_walk c.requires.layout.0 c.requires.layout.1 refl c.child_count-c-end.ensures.value c.put_struct.ensures.filled)

pub fill_struct-overflow_sub-depth : goal.fill_struct-overflow_sub-depth
fill_struct-overflow_sub-depth t c = omega (arith, row_deep c.requires.row_walk)

pub fill_struct-fill_row-rest-requires : goal.fill_struct-fill_row-rest-requires
fill_struct-fill_row-rest-requires t c = (omega (arith, c.decreases, row_deep c.requires.row_walk), rw (c.child-child.ensures.image, c.child-child.ensures.number, c.loop-c.invariant.0.places) (field_walk c.requires.row_walk c.requires.layout.0 c.requires.layout.1 refl c.child_count-c-end.ensures.value c.put_struct.ensures.filled c.loop-c.invariant.1 c.loop-c-test.true))

pub fill_struct-loop-c-preserved : goal.fill_struct-loop-c-preserved
fill_struct-loop-c-preserved t c = (same_then c.loop-c.invariant.0 c.fill_row-rest.ensures.same, field_more c.loop-c.invariant.1 c.loop-c-test.true (rw (c.child-child.ensures.image, c.child-child.ensures.number, c.loop-c.invariant.0.places) at c.fill_row-rest.ensures.walked))

pub fill_struct-returns : goal.fill_struct-returns
fill_struct-returns t c = record { same = search rules; walked = fields_done c.requires.row_walk c.requires.layout.0 c.requires.layout.1 refl c.child_count-c-end.ensures.value c.put_struct.ensures.filled c.loop-c.invariant.1 c.loop-c-test.false }
