-- `sparse_fault` tells whether a row of a sparse union has a type id without a child.
-- The loop keeps that the rows from row i on decide.
use Rattle.image.specs.Ranges.{any}
use Rattle.image.specs.Faults.{sparse_row_fault}
use Rattle.image.proofs.Loops.{Rest}
use Rattle.validate.proofs.rows.sparse_fault.Given as goal

abbrev pub invariant-loop-i : goal.invariant-loop-i
invariant-loop-i l = Rest (any (sparse_row_fault l.node.image.now l.node.number)) 0 l.i-end l.i
