-- The answer is the first range that exceeds its table, or the rows of both.
-- By rewriting with what the callees give.
use Rattle.answers.specs.Answers.{bounds_of}
use Rattle.api.proofs.rows_within.Goals as goal

pub returns-then-out_of_range : goal.returns-then-out_of_range
unfolding bounds_of
returns-then-out_of_range c = rw (← c.out_of_range.ensures, c.if-out_of_range.true)

pub returns-then-out_of_range-2 : goal.returns-then-out_of_range-2
unfolding bounds_of
returns-then-out_of_range-2 c = rw (← c.out_of_range.ensures, c.if-out_of_range.false, ← c.out_of_range-2.ensures, c.if-out_of_range-2.true)

pub returns : goal.returns
unfolding bounds_of
returns c = rw (← c.out_of_range.ensures, c.if-out_of_range.false, ← c.out_of_range-2.ensures, c.if-out_of_range-2.false)
