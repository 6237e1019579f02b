-- The walk at the next node.
-- The sums grow by this node's counts, and the parent is looked for from this node's on.
use Rattle.validate.proofs.Parents.{children_more, buffers_more, passed_next}
use native.Mathlib.Omega.{arith}
use Rattle.validate.proofs.tree.Walk.next.Goals as goal

pub parent_from-requires : goal.parent_from-requires
parent_from-requires c = rw (c.other-next.ensures.image, c.other-next.ensures.number) (passed_next _ c.args.self.walks.above.known, omega (arith, c.requires))

pub invariant_of-result : goal.invariant_of-result
invariant_of-result c =
    let known = c.args.self.walks in
    let parent = rw (c.other-next.ensures.image, c.other-next.ensures.number) at c.parent_from.ensures in
    record {
      walks = rw (c.other-next.ensures.image, c.other-next.ensures.number) (record {
        children_before = children_more _ known.children_before c.child_count.ensures;
        buffers_before = buffers_more _ known.buffers_before c.buffer_count.ensures;
        above = parent;
        children_in_all = known.children_in_all;
        buffers_in_all = known.buffers_in_all;
        levels = known.levels;
      });
    }
