-- The walk at the root.
-- No node is before it, and the sums over all nodes are those of the callees.
use Rattle.validate.proofs.Parents.{children_none, buffers_none, passed_none}
use native.Mathlib.Omega.{arith}
use Rattle.validate.proofs.tree.Walk.start.Goals as goal

pub invariant_of-result : goal.invariant_of-result
invariant_of-result c =
    let count = rw (c.root-root.ensures.image, c.root-root.ensures.number) at c.child_count.ensures in
    record {
      walks = rw (c.root-root.ensures.image, c.root-root.ensures.number) (record {
        children_before = children_none _;
        buffers_before = buffers_none _;
        above = record { known = passed_none _ count; reached = λ h. absurd (omega (arith, h)) };
        children_in_all = rw (← c.node_count-n.ensures.value) c.child_start.ensures.value;
        buffers_in_all = rw (← c.node_count-n.ensures.value) c.buffer_start.ensures.value;
        levels = c.level_end.ensures;
      });
    }
