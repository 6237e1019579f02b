-- `utf8::parts::cut` meets its contract.
-- The loop keeps that the search goes on from the place reached; the measure is how many places are left.
use mathlib.Core.Path.{ap, sym, ◌∙◌}
use mathlib.Core.Bool.{not}
use Rattle.image.proofs.Loops.{first_more, first_found, first_done}
use Rattle.utf8.specs.Cuts.{begins}
use Rattle.utf8.proofs.parts.cut.Goals as goal

pub returns-then-not-is_tail-clause-place : goal.returns-then-not-is_tail-clause-place
unfolding begins
returns-then-not-is_tail-clause-place c = first_found _ _ _ _ c.loop-k-test.true c.loop-k.invariant (ap not (sym c.is_tail.ensures ∙ c.if-not-is_tail.true))

pub loop-k-preserved : goal.loop-k-preserved
unfolding begins
loop-k-preserved c = first_more _ _ _ _ c.loop-k-test.true c.loop-k.invariant (ap not (sym c.is_tail.ensures ∙ c.if-not-is_tail.false))

pub returns-clause-place : goal.returns-clause-place
returns-clause-place c = first_done _ _ _ _ c.loop-k-test.false c.loop-k.invariant
