-- `all_nodes` answers whether each node passes the test.
-- A turn tests one node.
use mathlib.Core.Path.{sym, ◌∙◌}
use native.Mathlib.Nat.{zero-add}
use Rattle.image.proofs.Loops.{every_more, every_fails, every_done}
use Rattle.image.proofs.record.all_nodes.Goals as goal

pub returns-then-not-test : goal.returns-then-not-test
returns-then-not-test g c = λ p h.
    let lt = rw c.node_count-k-end.ensures.value at c.loop-k-test.true in
    every_fails _ _ _ _ lt (c.loop-k.invariant p h) (rw zero-add (sym (h _ _ lt c.test.ensures) ∙ c.if-not-test.true))

pub loop-k-preserved : goal.loop-k-preserved
loop-k-preserved g c = λ p h.
    let lt = rw c.node_count-k-end.ensures.value at c.loop-k-test.true in
    every_more _ _ _ _ lt (c.loop-k.invariant p h) (rw zero-add (sym (h _ _ lt c.test.ensures) ∙ c.if-not-test.false))

pub returns : goal.returns
returns g c = λ p h. every_done _ _ _ _ (rw c.node_count-k-end.ensures.value at c.loop-k-test.false) (c.loop-k.invariant p h)
