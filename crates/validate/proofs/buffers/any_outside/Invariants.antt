-- `any_outside` finds whether a buffer of the node lies outside.
-- The loop keeps that the test of all buffers is that of those from number j on.
use Rattle.image.specs.Ranges.{any}
use Rattle.image.specs.Faults.{buffer_outside}
use Rattle.image.proofs.Loops.{Rest}
use Rattle.validate.proofs.buffers.any_outside.Given as goal

abbrev pub invariant-loop-j : goal.invariant-loop-j
invariant-loop-j l = Rest (any (buffer_outside l.node.image.now l.node.number)) 0 l.j-end l.j
