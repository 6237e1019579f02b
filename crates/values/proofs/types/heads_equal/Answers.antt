-- The answer is whether code, p1, p2 and child count are the same, in turn.
-- What was read stands for the numbers of the definition.
use Rattle.image.specs.Types.{heads_agree}
use Rattle.image.proofs.Compare.{is_eq, is_ne}
use Rattle.values.proofs.types.heads_equal.Goals as goal

pub returns-then-code : goal.returns-then-code
unfolding heads_agree
returns-then-code c = rw (is_ne c.code.ensures.value c.code-2.ensures.value c.if-code.true)

pub returns-then-p1 : goal.returns-then-p1
unfolding heads_agree
returns-then-p1 c = rw (is_eq c.code.ensures.value c.code-2.ensures.value c.if-code.false, is_ne c.p1.ensures.value c.p1-2.ensures.value c.if-p1.true)

pub returns-then-p2 : goal.returns-then-p2
unfolding heads_agree
returns-then-p2 c = rw (is_eq c.code.ensures.value c.code-2.ensures.value c.if-code.false, is_eq c.p1.ensures.value c.p1-2.ensures.value c.if-p1.false, is_ne c.p2.ensures.value c.p2-2.ensures.value c.if-p2.true)

pub returns : goal.returns
unfolding heads_agree
returns c = rw (is_eq c.code.ensures.value c.code-2.ensures.value c.if-code.false, is_eq c.p1.ensures.value c.p1-2.ensures.value c.if-p1.false, is_eq c.p2.ensures.value c.p2-2.ensures.value c.if-p2.false, ← c.child_count.ensures.value, ← c.child_count-2.ensures.value)
