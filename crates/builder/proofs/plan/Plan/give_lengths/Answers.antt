-- `Plan::give_lengths` gives the length of each node.
-- The loop keeps the lengths of the children of the nodes before node k.
use mathlib.Core.Path.{ap, ◌∙◌}
use Rattle.laws.proofs.Accepted.{accepted}
use Rattle.builder.proofs.Children.{children_fit, filled_by, lengths_more}
use native.Mathlib.Omega.{arith}
use Rattle.builder.proofs.plan.Plan.give_lengths.Goals as goal

pub child_rows-rows-requires : goal.child_rows-rows-requires
child_rows-rows-requires c = omega (arith, c.loop-k-test.true, c.node_count-k-end.ensures.value, (accepted _ c.args.self.now.accepted).tables.few_nodes)

pub slice_bounds-fill-end : goal.slice_bounds-fill-end
slice_bounds-fill-end c =
    let image = ap (λ x. x.now) c.node-node.ensures.image ∙ c.loop-k.invariant.0 in
    let first = rw (image, c.node-node.ensures.number) at c.first_child-first.ensures.value in
    let count = rw (image, c.node-node.ensures.number) at c.child_count.ensures.value in
    (children_fit (accepted _ c.args.self.now.accepted) _ (omega (arith, c.loop-k-test.true, c.node_count-k-end.ensures.value)) first count (omega (arith, c.well_formed)))

pub loop-k-preserved : goal.loop-k-preserved
loop-k-preserved c =
    let image = ap (λ x. x.now) c.node-node.ensures.image ∙ c.loop-k.invariant.0 in
    let first = rw (image, c.node-node.ensures.number) at c.first_child-first.ensures.value in
    let count = rw (image, c.node-node.ensures.number) at c.child_count.ensures.value in
    (c.loop-k.invariant.0, c.loop-k.invariant.1, c.loop-k.invariant.2, lengths_more (accepted _ c.args.self.now.accepted) _ (omega (arith, c.loop-k-test.true, c.node_count-k-end.ensures.value)) c.loop-k.invariant.3 first count (rw (image, c.node-node.ensures.number, c.loop-k.invariant.1) at c.child_rows-rows.ensures) (filled_by (children_fit (accepted _ c.args.self.now.accepted) _ (omega (arith, c.loop-k-test.true, c.node_count-k-end.ensures.value)) first count (omega (arith, c.well_formed))) (c.fill.ensures.after (λ y e. e))))
