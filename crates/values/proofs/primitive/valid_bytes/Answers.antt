-- `valid_bytes` compares the elements whose bit is set.
-- The loop keeps that the elements from number h on decide.
use mathlib.Core.Path.{sym, ◌∙◌}
use native.Mathlib.Nat.{zero-add}
use Rattle.values.proofs.Steps.{left_more, left_fails, left_done}
use borrow.Author.Tests.{not-true, not-false}
use Rattle.values.proofs.ValidElements.{part_test, passed_over, by_its_bytes}
use Rattle.values.proofs.primitive.valid_bytes.Goals as goal
use Rattle.values.proofs.primitive.valid_bytes.Goals.{then-bits-h-eq1+else-ne, else-bits-h-eq1}

pub returns-then-ne : goal.returns-then-ne
returns-then-ne c =
    left_fails _ _ _ _ _ c.loop-h-test.true c.loop-h.invariant
    (rw zero-add (by_its_bytes _ _ _ _ _ c.if-bits-h-eq1.true (part_test _ _ _ _ _ c.loop-h-test.true c.requires.1 c.requires.2) ∙ not-true _ (sym c.if-ne.ensures)))

pub loop-h-preserved : goal.loop-h-preserved
loop-h-preserved c =
    left_more _ _ _ _ _ c.loop-h-test.true c.loop-h.invariant
    (elim c.if-bits-h-eq1.branch [
      | then-bits-h-eq1+else-ne w ↦ rw zero-add (by_its_bytes _ _ _ _ _ w.if-bits-h-eq1.true (part_test _ _ _ _ _ c.loop-h-test.true c.requires.1 c.requires.2) ∙ not-false _ (sym w.if-ne.ensures))
      | else-bits-h-eq1 w ↦ rw zero-add (passed_over _ _ _ _ _ w.if-bits-h-eq1.false)
    ])

pub returns : goal.returns
returns c = left_done _ _ _ _ _ c.loop-h-test.false c.loop-h.invariant
