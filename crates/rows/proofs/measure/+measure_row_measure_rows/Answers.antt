-- `measure_row` measures a row's own bytes, and then its child rows.
-- The loop keeps that the rows of the children from child c on, in the room that is left, leave what all of them leave.
-- `measure_rows` measures row after row, those of one run by what the first took.
-- The loop keeps that the rows from row k on, in the room that is left, leave what all rows leave, the run that is kept, and
-- the runs that are remembered.
use mathlib.Core.Path.{sym, ◌∙◌}
use Rattle.rows.proofs.RowParts.{row_null, side_few, row_part, value_of_lem, below}
use Rattle.rows.proofs.Rooms.{measuring_start, measuring_more, measuring_short, measuring_done, null_left, value_short, leaf_left, nested_left}
use native.Mathlib.Omega.{arith}
use Rattle.rows.proofs.Stretches.{row_kept, none_measured, remember_asks, remembered_behind, row_short, row_took, others_short, measured_more, measured_done}
use Rattle.rows.proofs.measure.+measure_row_measure_rows.Goals as goal

pub measure_row-is_null-requires : goal.measure_row-is_null-requires
measure_row-is_null-requires t c = omega (arith, side_few c.requires.side)

pub measure_row-returns-then-is_null : goal.measure_row-returns-then-is_null
measure_row-returns-then-is_null t c = record { value = null_left _ (row_null _ _ _ _ (sym c.is_null.ensures ∙ c.if-is_null.true)) c.checked_sub.ensures; remembered_after = c.requires.remembered }

pub measure_row-overflow_add-cursor : goal.measure_row-overflow_add-cursor
measure_row-overflow_add-cursor t c = omega (arith, side_few c.requires.side, c.args.cursor.column.now.read.offset.value)

pub measure_row-value_at-v-requires : goal.measure_row-value_at-v-requires
measure_row-value_at-v-requires t c = record { part = row_part _ c.requires.side c.is_null.ensures c.if-is_null.false c.args.cursor.column.now.read.offset; run = row_kept c.args.cursor c.requires.side }

pub measure_row-returns-in_err-left : goal.measure_row-returns-in_err-left
measure_row-returns-in_err-left t c = record { value = c.from_residual.ensures ∙ value_short (value_of_lem _ c.requires.side c.is_null.ensures c.if-is_null.false c.args.cursor.column.now.read.offset c.value_at-v.ensures) c.args.room c.in_err-left.ensures; remembered_after = c.requires.remembered }

pub measure_row-returns-in_default-clause-value : goal.measure_row-returns-in_default-clause-value
measure_row-returns-in_default-clause-value t c = leaf_left (value_of_lem _ c.requires.side c.is_null.ensures c.if-is_null.false c.args.cursor.column.now.read.offset c.value_at-v.ensures) c.args.room c.in_ok-left.ensures c.in_default.is

pub measure_row-loop-c-init : goal.measure_row-loop-c-init
measure_row-loop-c-init t c = (below (value_of_lem _ c.requires.side c.is_null.ensures c.if-is_null.false c.args.cursor.column.now.read.offset c.value_at-v.ensures) c.in-Some.is, (measuring_start _ _ _, c.requires.remembered))

pub measure_row-measure_rows-requires : goal.measure_row-measure_rows-requires
measure_row-measure_rows-requires t c = (omega (arith, c.loop-c.invariant.0.deep), ((c.loop-c.invariant.0.placed.parts _ c.loop-c-test.true), c.loop-c.invariant.1.1))

pub measure_row-returns-in_err-left-2 : goal.measure_row-returns-in_err-left-2
measure_row-returns-in_err-left-2 t c = record { value = c.from_residual-in_err-left-2.ensures ∙ measuring_short c.loop-c.invariant.1.0 c.loop-c-test.true ((sym c.in_err-left-2.was ∙ c.measure_rows.ensures.value)) ∙ nested_left (value_of_lem _ c.requires.side c.is_null.ensures c.if-is_null.false c.args.cursor.column.now.read.offset c.value_at-v.ensures) c.args.room c.in_ok-left.ensures c.in-Some.is; remembered_after = c.measure_rows.ensures.remembered_after }

pub measure_row-loop-c-preserved : goal.measure_row-loop-c-preserved
measure_row-loop-c-preserved t c = (c.loop-c.invariant.0, (measuring_more c.loop-c.invariant.1.0 c.loop-c-test.true ((sym c.in_ok-left-2.was ∙ c.measure_rows.ensures.value)), c.measure_rows.ensures.remembered_after))

pub measure_row-returns : goal.measure_row-returns
measure_row-returns t c = record { value = measuring_done c.loop-c.invariant.1.0 c.loop-c-test.false ∙ nested_left (value_of_lem _ c.requires.side c.is_null.ensures c.if-is_null.false c.args.cursor.column.now.read.offset c.value_at-v.ensures) c.args.room c.in_ok-left.ensures c.in-Some.is; remembered_after = c.loop-c.invariant.1.1 }

pub measure_rows-returns-then-n-eq0 : goal.measure_rows-returns-then-n-eq0
measure_rows-returns-then-n-eq0 t c = record { value = none_measured _ c.args.image.now c.args.number _ _ c.if-n-eq0.true _; remembered_after = c.requires.remembered }

pub measure_rows-overflow_add-end : goal.measure_rows-overflow_add-end
measure_rows-overflow_add-end t c = omega (arith, side_few c.requires.side)

pub measure_rows-returns-in_err-one : goal.measure_rows-returns-in_err-one
measure_rows-returns-in_err-one t c = record { value = c.from_residual.ensures ∙ row_short c.loop-cursor.cursor c.loop-cursor.invariant.0 c.loop-cursor-test.true (sym c.in_err-one.was ∙ c.measure_row.ensures.value); remembered_after = rw c.loop-cursor.invariant.0.walk.image at c.measure_row.ensures.remembered_after }

pub measure_rows-overflow_sub-left : goal.measure_rows-overflow_sub-left
measure_rows-overflow_sub-left t c = omega (arith, row_took c.loop-cursor.cursor c.loop-cursor.invariant.0 c.loop-cursor-test.true (sym c.in_ok-one.was ∙ c.measure_row.ensures.value))

pub measure_rows-returns-in_err-left : goal.measure_rows-returns-in_err-left
measure_rows-returns-in_err-left t c = record { value = c.from_residual-in_err-left.ensures ∙ others_short c.loop-cursor.cursor c.loop-cursor.invariant.0 c.loop-cursor-test.true (sym c.in_ok-one.was ∙ c.measure_row.ensures.value) c.requires.side c.stay-stay.result c.stay-stay.ensures (sym c.in_err-left.was ∙ c.room_after.ensures); remembered_after = rw c.loop-cursor.invariant.0.walk.image at c.measure_row.ensures.remembered_after }

pub measure_rows-loop-cursor-preserved : goal.measure_rows-loop-cursor-preserved
measure_rows-loop-cursor-preserved t c = (measured_more c.loop-cursor.cursor c.loop-cursor.invariant.0 c.loop-cursor-test.true (sym c.in_ok-one.was ∙ c.measure_row.ensures.value) c.requires.side c.stay-stay.result c.stay-stay.ensures (sym c.in_ok-left.was ∙ c.room_after.ensures), rw c.loop-cursor.invariant.0.walk.image at c.measure_row.ensures.remembered_after)

pub measure_rows-remember-requires : goal.measure_rows-remember-requires
measure_rows-remember-requires t c = remember_asks c.loop-cursor.cursor c.loop-cursor.invariant.0.walk c.requires.side

pub measure_rows-returns : goal.measure_rows-returns
measure_rows-returns t c = record { value = measured_done c.loop-cursor.cursor c.loop-cursor.invariant.0 c.loop-cursor-test.false; remembered_after = remembered_behind c.loop-cursor.cursor c.loop-cursor.invariant.0.walk c.requires.side c.remember.ensures c.loop-cursor.invariant.1 }
