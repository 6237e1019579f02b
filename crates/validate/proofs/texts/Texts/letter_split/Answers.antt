-- `letter_split` tells whether a row's text starts with a tail.
-- The loop keeps what is left of the test.
use mathlib.Core.Path.{◌∙◌}
use Rattle.image.proofs.Loops.{any_more, any_found, any_done}
use Rattle.validate.proofs.TextRows.{split, not_split}
use Rattle.validate.proofs.texts.Texts.letter_split.Goals as goal
use Rattle.validate.proofs.texts.Texts.letter_split.Goals.{else-start-end-via-then-start-end+else-is_tail, else-start-end-via-else-start-end}

pub returns-then-is_tail : goal.returns-then-is_tail
returns-then-is_tail c = rw (← c.length-i-end.ensures.value) (any_found _ _ _ _ c.loop-i-test.true c.loop-i.invariant (split _ _ _ _ c.text_start-start.ensures.value c.if-start-end.true c.is_tail.ensures ∙ c.if-is_tail.true))

pub loop-i-preserved : goal.loop-i-preserved
loop-i-preserved c = any_more _ _ _ _ c.loop-i-test.true c.loop-i.invariant (elim c.else-start-end.branch [ else-start-end-via-then-start-end+else-is_tail w ↦ split _ _ _ _ c.text_start-start.ensures.value w.if-start-end.true w.is_tail.ensures ∙ w.if-is_tail.false | else-start-end-via-else-start-end w ↦ not_split _ _ _ _ c.text_start-start.ensures.value w.if-start-end.false ])

pub returns : goal.returns
returns c = rw (← c.length-i-end.ensures.value) (any_done _ _ _ _ c.loop-i-test.false c.loop-i.invariant)
