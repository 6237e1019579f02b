-- The measures and the invariants of the cycle.
use Prim.Native.Nat.{◌+◌, ◌*◌}
use Rattle.fill.proofs.Arms.{FieldsLeft}
use Rattle.image.specs.Record.{first_child}
use Rattle.fill.specs.Filling.{state, SameLent}
use Rattle.fill.proofs.Walks.{RowsLeft}
use Rattle.fill.proofs.put.Filling.+fill.Given as goal

abbrev pub decreases-fill_list : goal.decreases-fill_list
decreases-fill_list l = 3 * l.depth + 1

abbrev pub decreases-fill_row : goal.decreases-fill_row
decreases-fill_row l = 3 * l.depth + 2

abbrev pub decreases-fill_rows : goal.decreases-fill_rows
decreases-fill_rows l = 3 * l.depth + 3

abbrev pub decreases-fill_struct : goal.decreases-fill_struct
decreases-fill_struct l = 3 * l.depth + 1

abbrev pub invariant-fill_rows-loop-i : goal.invariant-fill_rows-loop-i
invariant-fill_rows-loop-i l = SameLent l.fn.self l.self × RowsLeft l.image l.fn.self.places.now l.b l.depth l.number l.n (state l.fn.self) (state l.self) l.rest l.i

abbrev pub invariant-fill_struct-loop-c : goal.invariant-fill_struct-loop-c
invariant-fill_struct-loop-c l = SameLent l.fn.self l.self × FieldsLeft l.node.image.now l.fn.self.places.now l.b l.depth l.node.number (first_child l.node.image.now l.node.number) l.c-end (state l.initial.self) (state l.self) l.rest l.c
