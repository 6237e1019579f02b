-- `rows_agree` compares row by row.
-- The loop keeps that what is left to look at gives the answer; the measure is how much is left.
use mathlib.Core.Path.{sym, ◌∙◌}
use Rattle.values.proofs.Steps.{left_more, left_fails, left_done}
use Rattle.digits.proofs.Chunk.rows_agree.Goals as goal

pub returns-then-not-row_agrees : goal.returns-then-not-row_agrees
returns-then-not-row_agrees g c = left_fails _ _ _ _ _ c.loop-k-test.true c.loop-k.invariant (sym c.row_agrees.ensures ∙ c.if-not-row_agrees.true)

pub loop-k-preserved : goal.loop-k-preserved
loop-k-preserved g c = left_more _ _ _ _ _ c.loop-k-test.true c.loop-k.invariant (sym c.row_agrees.ensures ∙ c.if-not-row_agrees.false)

pub returns : goal.returns
returns g c = left_done _ _ _ _ _ c.loop-k-test.false c.loop-k.invariant
