-- The nine tests of the tree, in the definition's order.
-- The definition's reads are the results, and each branch answers one of its tests.
use borrow.Author.Tests.{eq-eqb, ne_eqb, le-leb, lt-leb}
use Rattle.image.specs.Faults.{fault12}
use Rattle.validate.proofs.tree.fault_12.Goals as goal

pub returns-then-not-allows : goal.returns-then-not-allows
unfolding fault12
returns-then-not-allows c = let allowed = rw (c.children.ensures, c.code.ensures.value, c.child_count.ensures.value) at c.allows.ensures in rw (← allowed, c.if-not-allows.true)

pub returns-then-first-walk : goal.returns-then-first-walk
unfolding fault12
returns-then-first-walk c = let allowed = rw (c.children.ensures, c.code.ensures.value, c.child_count.ensures.value) at c.allows.ensures in rw (← allowed, c.if-not-allows.false, ← c.first_child-first.ensures.value, ← c.args.walk.walks.children_before.value, ne_eqb _ _ c.if-first-walk.true)

pub returns-then-first-node : goal.returns-then-first-node
unfolding fault12
returns-then-first-node c = let allowed = rw (c.children.ensures, c.code.ensures.value, c.child_count.ensures.value) at c.allows.ensures in rw (← allowed, c.if-not-allows.false, ← c.first_child-first.ensures.value, ← c.args.walk.walks.children_before.value, eq-eqb _ _ c.if-first-walk.false, le-leb _ _ c.if-first-node.true)

pub returns-then-total_wrong : goal.returns-then-total_wrong
unfolding fault12
returns-then-total_wrong c = let allowed = rw (c.children.ensures, c.code.ensures.value, c.child_count.ensures.value) at c.allows.ensures in let total = rw c.node_count.ensures.value at c.total_wrong.ensures in rw (← allowed, c.if-not-allows.false, ← c.first_child-first.ensures.value, ← c.args.walk.walks.children_before.value, eq-eqb _ _ c.if-first-walk.false, lt-leb _ _ c.if-first-node.false, ← c.args.walk.walks.children_in_all, ← total, c.if-total_wrong.true)

pub returns-then-walk-node : goal.returns-then-walk-node
unfolding fault12
returns-then-walk-node c = let allowed = rw (c.children.ensures, c.code.ensures.value, c.child_count.ensures.value) at c.allows.ensures in let total = rw c.node_count.ensures.value at c.total_wrong.ensures in rw (← allowed, c.if-not-allows.false, ← c.first_child-first.ensures.value, ← c.args.walk.walks.children_before.value, eq-eqb _ _ c.if-first-walk.false, lt-leb _ _ c.if-first-node.false, ← c.args.walk.walks.children_in_all, ← total, c.if-total_wrong.false, ← c.args.walk.walks.levels, le-leb _ _ c.if-walk-node.true)

pub returns-then-ids_fall : goal.returns-then-ids_fall
unfolding fault12
returns-then-ids_fall c = let allowed = rw (c.children.ensures, c.code.ensures.value, c.child_count.ensures.value) at c.allows.ensures in let total = rw c.node_count.ensures.value at c.total_wrong.ensures in rw (← allowed, c.if-not-allows.false, ← c.first_child-first.ensures.value, ← c.args.walk.walks.children_before.value, eq-eqb _ _ c.if-first-walk.false, lt-leb _ _ c.if-first-node.false, ← c.args.walk.walks.children_in_all, ← total, c.if-total_wrong.false, ← c.args.walk.walks.levels, lt-leb _ _ c.if-walk-node.false, ← c.ids_fall.ensures, c.if-ids_fall.true)

pub returns-then-id_alone : goal.returns-then-id_alone
unfolding fault12
returns-then-id_alone c = let allowed = rw (c.children.ensures, c.code.ensures.value, c.child_count.ensures.value) at c.allows.ensures in let total = rw c.node_count.ensures.value at c.total_wrong.ensures in rw (← allowed, c.if-not-allows.false, ← c.first_child-first.ensures.value, ← c.args.walk.walks.children_before.value, eq-eqb _ _ c.if-first-walk.false, lt-leb _ _ c.if-first-node.false, ← c.args.walk.walks.children_in_all, ← total, c.if-total_wrong.false, ← c.args.walk.walks.levels, lt-leb _ _ c.if-walk-node.false, ← c.ids_fall.ensures, c.if-ids_fall.false, ← c.id_alone.ensures, c.if-id_alone.true)

pub returns-then-map_broken : goal.returns-then-map_broken
unfolding fault12
returns-then-map_broken c = let allowed = rw (c.children.ensures, c.code.ensures.value, c.child_count.ensures.value) at c.allows.ensures in let total = rw c.node_count.ensures.value at c.total_wrong.ensures in rw (← allowed, c.if-not-allows.false, ← c.first_child-first.ensures.value, ← c.args.walk.walks.children_before.value, eq-eqb _ _ c.if-first-walk.false, lt-leb _ _ c.if-first-node.false, ← c.args.walk.walks.children_in_all, ← total, c.if-total_wrong.false, ← c.args.walk.walks.levels, lt-leb _ _ c.if-walk-node.false, ← c.ids_fall.ensures, c.if-ids_fall.false, ← c.id_alone.ensures, c.if-id_alone.false, ← c.map_broken.ensures, c.if-map_broken.true)

pub returns : goal.returns
unfolding fault12
returns c = let allowed = rw (c.children.ensures, c.code.ensures.value, c.child_count.ensures.value) at c.allows.ensures in let total = rw c.node_count.ensures.value at c.total_wrong.ensures in rw (← allowed, c.if-not-allows.false, ← c.first_child-first.ensures.value, ← c.args.walk.walks.children_before.value, eq-eqb _ _ c.if-first-walk.false, lt-leb _ _ c.if-first-node.false, ← c.args.walk.walks.children_in_all, ← total, c.if-total_wrong.false, ← c.args.walk.walks.levels, lt-leb _ _ c.if-walk-node.false, ← c.ids_fall.ensures, c.if-ids_fall.false, ← c.id_alone.ensures, c.if-id_alone.false, ← c.map_broken.ensures, c.if-map_broken.false, ← c.runs_broken.ensures)
