-- `write_row` puts a row's own bytes, and then its child rows.
-- The loop keeps that the rows of the children from child c on, put at the place that is reached, give all of them.
-- `write_rows` puts row after row, those of one run by putting the bytes of the first again.
-- The loop keeps that the rows before row k are put, the run that is kept there, and the runs that are remembered.
use mathlib.Core.Path.{refl, sym, ap, ◌∙◌}
use Rattle.rows.proofs.RowParts.{row_null, side_few, row_part, value_of_lem, below}
use Rattle.rows.proofs.Stretches.{row_kept, none_written, remember_asks, remembered_behind, row_asks, writing_start, row_fits, others_fit, writing_more, writing_done}
use Rattle.rows.proofs.Over.{put_last, pieces_from, pieces_fit, pieces_more, pieces_place, pieces_done, null_fits, null_put, value_fits, leaf_put, nested_put}
use native.Mathlib.Omega.{arith}
use Rattle.rows.proofs.write.+write_row_write_rows.Goals as goal

pub write_row-is_null-requires : goal.write_row-is_null-requires
write_row-is_null-requires t c = omega (arith, side_few c.requires.side)

pub write_row-put_number-requires : goal.write_row-put_number-requires
write_row-put_number-requires t c = null_fits c.requires.fits (row_null _ _ _ _ (sym c.is_null.ensures ∙ c.if-is_null.true))

pub write_row-returns-then-is_null : goal.write_row-returns-then-is_null
write_row-returns-then-is_null t c = let p = rw c.from.ensures at c.put_number.ensures in let both = null_put c.requires.fits (row_null _ _ _ _ (sym c.is_null.ensures ∙ c.if-is_null.true)) p.at p.bytes in record { put = record { lent = p.lent; long = p.long; at = both.0; bytes = both.1 }; remembered_after = c.requires.remembered }

pub write_row-overflow_add-cursor : goal.write_row-overflow_add-cursor
write_row-overflow_add-cursor t c = omega (arith, side_few c.requires.side, c.args.cursor.column.now.read.offset.value)

pub write_row-value_at-v-requires : goal.write_row-value_at-v-requires
write_row-value_at-v-requires t c = record { part = row_part _ c.requires.side c.is_null.ensures c.if-is_null.false c.args.cursor.column.now.read.offset; run = row_kept c.args.cursor c.requires.side }

pub write_row-put_own-requires : goal.write_row-put_own-requires
write_row-put_own-requires t c = value_fits (value_of_lem _ c.requires.side c.is_null.ensures c.if-is_null.false c.args.cursor.column.now.read.offset c.value_at-v.ensures) c.requires.fits

pub write_row-returns-in_default-clause-put : goal.write_row-returns-in_default-clause-put
write_row-returns-in_default-clause-put t c = let both = leaf_put (value_of_lem _ c.requires.side c.is_null.ensures c.if-is_null.false c.args.cursor.column.now.read.offset c.value_at-v.ensures) c.requires.fits c.put_own.ensures.bytes c.put_own.ensures.at c.in_default.is in record { lent = c.put_own.ensures.lent; long = c.put_own.ensures.long; at = both.0; bytes = both.1 }

pub write_row-loop-c-init : goal.write_row-loop-c-init
write_row-loop-c-init t c = (c.put_own.ensures.lent, (below (value_of_lem _ c.requires.side c.is_null.ensures c.if-is_null.false c.args.cursor.column.now.read.offset c.value_at-v.ensures) c.in-Some.is, (pieces_from (nested_put (value_of_lem _ c.requires.side c.is_null.ensures c.if-is_null.false c.args.cursor.column.now.read.offset c.value_at-v.ensures) c.requires.fits c.put_own.ensures.bytes c.put_own.ensures.at c.in-Some.is), c.requires.remembered)))

pub write_row-write_rows-requires : goal.write_row-write_rows-requires
write_row-write_rows-requires t c = (omega (arith, c.decreases, c.loop-c.invariant.1.0.deep), (c.loop-c.invariant.1.0.placed.parts c.loop-c.c c.loop-c-test.true, (c.loop-c.invariant.1.1.1, pieces_fit c.loop-c.invariant.1.1.0 c.loop-c-test.true)))

pub write_row-loop-c-preserved : goal.write_row-loop-c-preserved
write_row-loop-c-preserved t c = (c.write_rows.ensures.put.lent ∙ c.loop-c.invariant.0, (c.loop-c.invariant.1.0, (pieces_more c.loop-c.invariant.1.1.0 c.loop-c-test.true (c.write_rows.ensures.put.bytes) (c.write_rows.ensures.put.at), c.write_rows.ensures.remembered_after)))

pub write_row-returns : goal.write_row-returns
write_row-returns t c = let both = put_last (nested_put (value_of_lem _ c.requires.side c.is_null.ensures c.if-is_null.false c.args.cursor.column.now.read.offset c.value_at-v.ensures) c.requires.fits c.put_own.ensures.bytes c.put_own.ensures.at c.in-Some.is) (pieces_done c.loop-c.invariant.1.1.0 c.loop-c-test.false) (pieces_place c.loop-c.invariant.1.1.0 c.loop-c-test.false) in record { put = record { lent = c.loop-c.invariant.0; long = c.loop-c.invariant.1.1.0.put.long ∙ c.put_own.ensures.long; at = both.0; bytes = both.1 }; remembered_after = c.loop-c.invariant.1.1.1 }

pub write_rows-returns-then-n-eq0 : goal.write_rows-returns-then-n-eq0
write_rows-returns-then-n-eq0 t c = let both = none_written _ c.args.image.now c.args.number _ _ c.if-n-eq0.true c.requires.fits in record { put = record { lent = refl; long = refl; at = both.0; bytes = both.1 }; remembered_after = c.requires.remembered }

pub write_rows-overflow_add-end : goal.write_rows-overflow_add-end
write_rows-overflow_add-end t c = omega (arith, side_few c.requires.side)

pub write_rows-loop-cursor-init : goal.write_rows-loop-cursor-init
write_rows-loop-cursor-init t c = (refl, (writing_start _ c.first-cursor.result c.requires.fits (ap (λ x. x.now) c.first-cursor.ensures.column) (ap (λ x. x.image.now) c.new-column.ensures) (ap (λ x. x.number) c.new-column.ensures) c.first-cursor.ensures.row, c.requires.remembered))

pub write_rows-write_row-requires : goal.write_rows-write_row-requires
write_rows-write_row-requires t c = (omega (arith, c.decreases), (row_asks c.loop-cursor.cursor c.loop-cursor.invariant.1.0.walk c.requires.side c.loop-cursor-test.true, (rw c.loop-cursor.invariant.1.0.walk.image c.loop-cursor.invariant.1.1, row_fits c.loop-cursor.cursor c.loop-cursor.invariant.1.0 c.loop-cursor-test.true)))

pub write_rows-put_times-requires : goal.write_rows-put_times-requires
write_rows-put_times-requires t c = record { behind = others_fit c.loop-cursor.cursor c.loop-cursor.invariant.1.0 c.loop-cursor-test.true c.requires.side c.stay-stay.result c.stay-stay.ensures (c.write_row.ensures.put.at, c.write_row.ensures.put.bytes); times_bound = omega (arith, c.stay-stay.ensures.within, side_few c.requires.side) }

pub write_rows-loop-cursor-preserved : goal.write_rows-loop-cursor-preserved
write_rows-loop-cursor-preserved t c = (c.put_times.ensures.lent ∙ c.write_row.ensures.put.lent ∙ c.loop-cursor.invariant.0, (writing_more c.loop-cursor.cursor c.loop-cursor.invariant.1.0 c.loop-cursor-test.true c.requires.side c.stay-stay.result c.stay-stay.ensures (c.write_row.ensures.put.at, c.write_row.ensures.put.bytes) (c.put_times.ensures.at, c.put_times.ensures.bytes), rw c.loop-cursor.invariant.1.0.walk.image at c.write_row.ensures.remembered_after))

pub write_rows-remember-requires : goal.write_rows-remember-requires
write_rows-remember-requires t c = remember_asks c.loop-cursor.cursor c.loop-cursor.invariant.1.0.walk c.requires.side

pub write_rows-returns : goal.write_rows-returns
write_rows-returns t c = let both = writing_done c.loop-cursor.cursor c.loop-cursor.invariant.1.0 c.loop-cursor-test.false in record { put = record { lent = c.loop-cursor.invariant.0; long = c.loop-cursor.invariant.1.0.put.put.long; at = both.0; bytes = both.1 }; remembered_after = remembered_behind c.loop-cursor.cursor c.loop-cursor.invariant.1.0.walk c.requires.side c.remember.ensures c.loop-cursor.invariant.1.1 }
