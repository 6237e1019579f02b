-- `row` reads a mark, and the value behind it.
-- Its tests are those of the definition.
-- `value` reads so many bytes as the code says, and `by_layout` a value by the layout of its node.
-- Each arm is a law of `Values`.
-- `list` reads a count and so many rows of the child, and adds the count to the node's span.
-- No row adds more than its bytes, so that the sum has room.
-- `fields` reads a row of each child, and `rows` row after row.
-- Their loops keep that a scan of the rows that are left tells what a scan of all tells.
use borrow.Author.Rules.{rules}
use native.Mathlib.Nat.{add-zero}
use native.Mathlib.Omega.{arith}
use mathlib.Core.Path.{◌∙◌}
use Rattle.parse.proofs.Loops.{left_stop, left_next, left_done}
use Rattle.parse.proofs.Values.{node_few, list_child, struct_child, layout_told, bitmap_told, fixed_codes, null_value, boolean_value, bytes_value_lem, text_value_lem, list_value_lem, struct_value}
use Rattle.parse.proofs.Rows.{row_too_deep, row_none, row_other, row_no_null, row_null, row_value, list_none, list_stop, list_room, list_go}
use Rattle.parse.proofs.leaf.Scan.+rows.Goals as goal

pub row-returns-then-depth-eq0 : goal.row-returns-then-depth-eq0
row-returns-then-depth-eq0 t c = record { same = search rules; scans = row_too_deep _ _ _ _ c.if-depth-eq0.true }

pub row-returns-in_err-mark : goal.row-returns-in_err-mark
row-returns-in_err-mark t c = rw c.from_residual.ensures (record { same = search rules; scans = row_none _ _ _ _ c.if-depth-eq0.false c.in_err-mark.ensures.cases })

pub row-returns-then-mark-eq-VALUE_MARK : goal.row-returns-then-mark-eq-VALUE_MARK
row-returns-then-mark-eq-VALUE_MARK t c = record { same = search rules; scans = row_value _ _ _ _ c.if-depth-eq0.false c.in_ok-mark.ensures.cases c.if-mark-eq-VALUE_MARK.true c.value.ensures.scans }

pub row-returns-then-mark-ne-NULL_MARK : goal.row-returns-then-mark-ne-NULL_MARK
row-returns-then-mark-ne-NULL_MARK t c = record { same = search rules; scans = row_other _ _ _ _ c.if-depth-eq0.false c.in_ok-mark.ensures.cases c.if-mark-ne-NULL_MARK.true c.if-mark-eq-VALUE_MARK.false }

pub row-returns-then-not-takes_bitmap : goal.row-returns-then-not-takes_bitmap
row-returns-then-not-takes_bitmap t c = record { same = search rules; scans = row_no_null _ _ _ _ c.if-depth-eq0.false c.in_ok-mark.ensures.cases c.if-mark-ne-NULL_MARK.false (bitmap_told c.code.ensures c.takes_bitmap.ensures c.if-not-takes_bitmap.true) }

pub row-returns : goal.row-returns
row-returns t c = record { same = search rules; scans = row_null _ _ _ _ c.if-depth-eq0.false c.in_ok-mark.ensures.cases c.if-mark-ne-NULL_MARK.false (bitmap_told c.code.ensures c.takes_bitmap.ensures c.if-not-takes_bitmap.false) }

pub value-returns-then-code-le-INTERVAL_MONTH_DAY_NANO : goal.value-returns-then-code-le-INTERVAL_MONTH_DAY_NANO
value-returns-then-code-le-INTERVAL_MONTH_DAY_NANO t c = record { same = search rules; scans = bytes_value_lem _ _ _ _ _ (fixed_codes c.code-code.ensures c.if-code-ge-INT8.true c.if-code-le-INTERVAL_MONTH_DAY_NANO.true) c.element_width.ensures c.bytes.ensures.scans }

pub by_layout-returns-in-Null : goal.by_layout-returns-in-Null
by_layout-returns-in-Null t c = record { same = search rules; scans = null_value _ _ _ _ (layout_told c.requires.code c.layout.ensures c.in-Null.is) }

pub by_layout-returns-in-Boolean : goal.by_layout-returns-in-Boolean
by_layout-returns-in-Boolean t c = record { same = search rules; scans = boolean_value _ _ _ _ (layout_told c.requires.code c.layout.ensures c.in-Boolean.is) c.boolean.ensures.scans }

pub by_layout-returns-in-FixedWidth : goal.by_layout-returns-in-FixedWidth
by_layout-returns-in-FixedWidth t c = record { same = search rules; scans = bytes_value_lem _ _ _ _ _ (layout_told c.requires.code c.layout.ensures c.in-FixedWidth.is) c.element_width.ensures c.bytes.ensures.scans }

pub by_layout-returns-in-VariableSize : goal.by_layout-returns-in-VariableSize
by_layout-returns-in-VariableSize t c = record { same = search rules; scans = text_value_lem _ _ _ _ c.requires.code (layout_told c.requires.code c.layout.ensures c.in-VariableSize.is) c.text.ensures.scans }

pub by_layout-returns-in-List : goal.by_layout-returns-in-List
by_layout-returns-in-List t c = record { same = search rules; scans = list_value_lem _ _ _ _ (layout_told c.requires.code c.layout.ensures c.in-List.is) c.list.ensures.scans }

pub by_layout-returns-in-Struct : goal.by_layout-returns-in-Struct
by_layout-returns-in-Struct t c = record { same = search rules; scans = struct_value _ _ _ _ (layout_told c.requires.code c.layout.ensures c.in-Struct.is) c.fields.ensures.scans }

pub list-returns-in_err-n : goal.list-returns-in_err-n
list-returns-in_err-n t c = rw c.from_residual.ensures (record { same = search rules; scans = rw c.count.ensures.spans (list_none _ _ _ _ c.in_err-n.ensures.tells) })

pub list-rows-requires : goal.list-rows-requires
list-rows-requires t c = (omega (arith, c.decreases), rw (c.child.ensures.image, c.child.ensures.number, add-zero) (list_child c.requires.within c.requires.layout))

pub list-returns-in_err-rows : goal.list-returns-in_err-rows
list-returns-in_err-rows t c =
    let all = rw (c.child.ensures.image, c.child.ensures.number, add-zero, c.count.ensures.spans, c.in_err-rows.was) at c.rows.ensures.scans in
    rw c.from_residual-in_err-rows.ensures (record { same = search rules; scans = list_stop _ _ _ _ c.in_ok-n.ensures.tells all })

pub list-add_span-requires : goal.list-add_span-requires
list-add_span-requires t c =
    let all = rw (c.child.ensures.image, c.child.ensures.number, add-zero, c.count.ensures.spans, c.in_ok-rows.was) at c.rows.ensures.scans in
    (node_few c.requires.within, list_room _ _ _ _ c.in_ok-n.ensures.tells all c.args.self.now.begun (node_few c.requires.within))

pub list-returns : goal.list-returns
list-returns t c =
    let all = rw (c.child.ensures.image, c.child.ensures.number, add-zero, c.count.ensures.spans, c.in_ok-rows.was) at c.rows.ensures.scans in
    record { same = search rules; scans = rw c.add_span.ensures.text (list_go _ _ _ _ c.in_ok-n.ensures.tells all c.add_span.ensures.grown) }

pub fields-row-requires : goal.fields-row-requires
fields-row-requires t c = (omega (arith, c.decreases), rw (c.child.ensures.image, c.child.ensures.number) (struct_child c.requires c.child_count-c-end.ensures c.loop-c-test.true))

pub fields-returns-in_err-row : goal.fields-returns-in_err-row
fields-returns-in_err-row t c =
    let one = rw (c.child.ensures.image, c.child.ensures.number, c.in_err-row.was) at c.row.ensures.scans in
    rw c.from_residual.ensures (record { same = c.row.ensures.same ∙ c.loop-c.invariant.0; scans = left_stop c.loop-c.invariant.1 (omega (arith, c.loop-c-test.true, c.child_count-c-end.ensures.value)) one })

pub fields-loop-c-preserved : goal.fields-loop-c-preserved
fields-loop-c-preserved t c =
    let one = rw (c.child.ensures.image, c.child.ensures.number, c.in_ok-row.was) at c.row.ensures.scans in
    (c.row.ensures.same ∙ c.loop-c.invariant.0, left_next c.loop-c.invariant.1 (omega (arith, c.loop-c-test.true, c.child_count-c-end.ensures.value)) one)

pub fields-returns : goal.fields-returns
fields-returns t c = record { same = c.loop-c.invariant.0; scans = left_done c.loop-c.invariant.1 (omega (arith, c.loop-c-test.false, c.child_count-c-end.ensures.value)) }

pub rows-returns-in_err-row : goal.rows-returns-in_err-row
rows-returns-in_err-row t c =
    let one = rw c.in_err-row.was at c.row.ensures.scans in
    rw c.from_residual.ensures (record { same = c.row.ensures.same ∙ c.loop.invariant.0; scans = left_stop c.loop.invariant.1 c.loop-test.true one })

pub rows-loop-preserved : goal.rows-loop-preserved
rows-loop-preserved t c =
    let one = rw c.in_ok-row.was at c.row.ensures.scans in
    (c.row.ensures.same ∙ c.loop.invariant.0, left_next c.loop.invariant.1 c.loop-test.true one)

pub rows-returns : goal.rows-returns
rows-returns t c = record { same = c.loop.invariant.0; scans = left_done c.loop.invariant.1 c.loop-test.false }
