-- `rows_by_id` enters the rows of each child by its type id.
-- The loop keeps that the children from number c on are entered.
use Rattle.image.specs.Record.{first_child, child_count}
use Rattle.validate.proofs.UnionRows.{RowsFilled}
use Rattle.validate.proofs.rows.rows_by_id.Given as goal

abbrev pub invariant-loop-c : goal.invariant-loop-c
invariant-loop-c l = RowsFilled l.node.image.now (first_child l.node.image.now l.node.number) (child_count l.node.image.now l.node.number) l.c l.rows
