-- `dense_fault` tells whether a row of a dense union has a type id without a child, or an offset outside the child.
-- The loop keeps that the rows from row i on decide.
use Rattle.image.specs.Ranges.{any}
use Rattle.image.specs.Faults.{dense_row_fault}
use Rattle.image.proofs.Loops.{Rest}
use Rattle.validate.proofs.rows.dense_fault.Given as goal

abbrev pub invariant-loop-i : goal.invariant-loop-i
invariant-loop-i l = Rest (any (dense_row_fault l.node.image.now l.node.number)) 0 l.i-end l.i
