-- The parent is the first node whose children end past the node.
-- The loop keeps that the children of each node before `parent` end at the node or before.
use Rattle.validate.proofs.Parents.{passed_more}
use Rattle.validate.proofs.tree.parent_from.Goals as goal

pub loop-parent-preserved : goal.loop-parent-preserved
loop-parent-preserved c = passed_more _ c.loop-parent.invariant c.loop-parent-test.true c.if-node-end.false (rw (c.other.ensures.image, c.other.ensures.number) at c.child_count.ensures)
