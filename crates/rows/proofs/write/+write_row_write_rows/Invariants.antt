-- The measures and the invariants of the cycle.
use mathlib.Core.Path.{◌≡◌}
use Rattle.image.specs.Row.{row_at}
use Rattle.accepted.specs.Runs.{Remembered}
use Rattle.rows.proofs.RowParts.{Below, child_bytes}
use Rattle.rows.proofs.Stretches.{Writing}
use Rattle.rows.proofs.Over.{PiecesToPut}
use Prim.Native.Nat.{◌-◌}
use Prim.Native.Nat.{◌*◌, ◌+◌}
use Rattle.rows.proofs.write.+write_row_write_rows.Given as goal

abbrev pub decreases-write_row : goal.decreases-write_row
decreases-write_row l = 2 * l.depth

abbrev pub decreases-write_rows : goal.decreases-write_rows
decreases-write_rows l = 2 * l.depth + 1

abbrev pub invariant-write_row-loop-c : goal.invariant-write_row-loop-c
invariant-write_row-loop-c l = (l.out.bytes.ghost_name ≡ l.fn.out.bytes.ghost_name) × (Below l.depth l.cursor.column.now.node.image.now l.rows × (PiecesToPut (child_bytes (row_at (l.depth - 1) l.cursor.column.now.node.image.now) l.rows) l.rows.child l.rows.parts l.initial.out.bytes.now l.initial.out.at l.out.bytes.now l.out.at l.c × Remembered l.cursor.column.now.node.image.now l.runs))

abbrev pub invariant-write_rows-loop-cursor : goal.invariant-write_rows-loop-cursor
invariant-write_rows-loop-cursor l = (l.out.bytes.ghost_name ≡ l.fn.out.bytes.ghost_name) × (Writing l.depth l.image l.number l.i l.n l.fn.out.bytes.now l.fn.out.at l.out.bytes.now l.out.at l.cursor × Remembered l.image l.runs)

abbrev pub decreases-write_rows-loop-cursor : goal.decreases-write_rows-loop-cursor
decreases-write_rows-loop-cursor l = l.i + l.n - l.cursor.row
