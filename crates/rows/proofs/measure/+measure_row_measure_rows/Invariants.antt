-- The measures and the invariants of the cycle.
use Rattle.image.specs.Row.{row_at}
use Rattle.accepted.specs.Runs.{Remembered}
use Rattle.rows.proofs.RowParts.{Below, child_bytes}
use Rattle.rows.proofs.Rooms.{PiecesToMeasure}
use Prim.Native.Nat.{◌-◌}
use Rattle.rows.proofs.Stretches.{Measuring}
use Prim.Native.Nat.{◌*◌, ◌+◌}
use Rattle.rows.proofs.measure.+measure_row_measure_rows.Given as goal

abbrev pub decreases-measure_row : goal.decreases-measure_row
decreases-measure_row l = 2 * l.depth

abbrev pub decreases-measure_rows : goal.decreases-measure_rows
decreases-measure_rows l = 2 * l.depth + 1

abbrev pub invariant-measure_row-loop-c : goal.invariant-measure_row-loop-c
invariant-measure_row-loop-c l = Below l.depth l.cursor.column.now.node.image.now l.rows × (PiecesToMeasure (child_bytes (row_at (l.depth - 1) l.cursor.column.now.node.image.now) l.rows) l.rows.child l.rows.parts l.initial.left l.left l.c × Remembered l.cursor.column.now.node.image.now l.runs)

abbrev pub invariant-measure_rows-loop-cursor : goal.invariant-measure_rows-loop-cursor
invariant-measure_rows-loop-cursor l = Measuring l.depth l.image l.number l.i l.n l.room l.left l.cursor × Remembered l.image l.runs

abbrev pub decreases-measure_rows-loop-cursor : goal.decreases-measure_rows-loop-cursor
decreases-measure_rows-loop-cursor l = l.i + l.n - l.cursor.row
