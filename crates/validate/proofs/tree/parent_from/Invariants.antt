-- The parent is the first node whose children end past the node.
-- The loop keeps that the children of each node before `parent` end at the node or before.
use Rattle.validate.specs.Walks.{Passed}
use Rattle.validate.proofs.tree.parent_from.Given as goal

abbrev pub invariant-loop-parent : goal.invariant-loop-parent
invariant-loop-parent l = Passed l.node.image.now l.node.number l.parent l.end
