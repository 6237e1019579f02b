-- `Node::any_kept` answers whether a row that is not null passes the test.
-- A null row passes none; of another the test tells.
use mathlib.Core.Path.{sym, ◌∙◌}
use native.Mathlib.Nat.{zero-add}
use Rattle.image.proofs.Loops.{any_more, any_found, any_done}
use Rattle.image.proofs.record.Node.any_kept.Goals as goal
use Rattle.image.proofs.record.Node.any_kept.Goals.{else-is_kept-via-then-is_kept+else-test, else-is_kept-via-else-is_kept}

pub returns-then-test : goal.returns-then-test
returns-then-test g c = λ p h. rw (← c.length-i-end.ensures.value) (any_found _ _ _ _ c.loop-i-test.true (c.loop-i.invariant p h) (rw zero-add (sym (h.kept _ _ (rw c.length-i-end.ensures.value at c.loop-i-test.true) (sym c.is_kept.ensures ∙ c.if-is_kept.true) c.test.ensures) ∙ c.if-test.true)))

pub loop-i-preserved : goal.loop-i-preserved
loop-i-preserved g c = λ p h. any_more _ _ _ _ c.loop-i-test.true (c.loop-i.invariant p h) (rw zero-add (elim c.else-is_kept.branch [ else-is_kept-via-then-is_kept+else-test w ↦ sym (h.kept _ _ (rw c.length-i-end.ensures.value at c.loop-i-test.true) (sym c.is_kept.ensures ∙ w.if-is_kept.true) w.test.ensures) ∙ w.if-test.false | else-is_kept-via-else-is_kept w ↦ h.null _ (sym c.is_kept.ensures ∙ w.if-is_kept.false) ]))

pub returns : goal.returns
returns g c = λ p h. rw (← c.length-i-end.ensures.value) (any_done _ _ _ _ c.loop-i-test.false (c.loop-i.invariant p h))
