-- The answer is whether the start and the count together exceed the length.
-- By the two tests, in numbers.
use mathlib.Core.Path.{◌∙◌}
use borrow.Author.Tests.{lt-ltb}
use Rattle.api.proofs.Answers.{start_beyond, count_beyond}
use Rattle.api.proofs.out_of_range.Goals as goal

pub returns-then-rows-start : goal.returns-then-rows-start
returns-then-rows-start c = lt-ltb _ _ c.if-rows-start.true ∙ start_beyond _ _ _ _ (rw (c.root.ensures.image, c.root.ensures.number) at c.length-rows.ensures.value) c.if-rows-start.true

pub returns-else-rows-start : goal.returns-else-rows-start
returns-else-rows-start c = count_beyond _ _ _ _ (rw (c.root.ensures.image, c.root.ensures.number) at c.length-rows.ensures.value) c.if-rows-start.false
