-- `lists_outside` tells whether a list view lies outside the node's child.
-- The loop keeps that the views from number j on decide.
use Rattle.image.specs.Ranges.{any}
use Rattle.image.specs.Faults.{list_outside}
use Rattle.image.proofs.Loops.{Rest}
use Rattle.validate.proofs.offsets.lists_outside.Given as goal

abbrev pub invariant-loop-j : goal.invariant-loop-j
invariant-loop-j l = Rest (any (list_outside l.node.image.now l.node.number)) 0 l.j-end l.j
