-- `child_under` finds whether a child has too few rows.
-- The loop keeps that the test of all children is that of those from number k on.
use Rattle.image.specs.Record.{first_child}
use Rattle.image.specs.Ranges.{any}
use Rattle.image.specs.Faults.{rows_under}
use Rattle.image.proofs.Loops.{Rest}
use Rattle.validate.proofs.children.child_under.Given as goal

abbrev pub invariant-loop-c : goal.invariant-loop-c
invariant-loop-c l = Rest (any (rows_under l.node.image.now l.rows)) (first_child l.node.image.now l.node.number) l.c-end l.c
