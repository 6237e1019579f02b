-- The side is that of the second byte.
-- By the byte.
use borrow.Author.Tests.{ne_eqb}
use Rattle.session.specs.Frames.{side_in}
use Rattle.session.proofs.frame.side_in.Goals as goal

pub returns-in-0 : goal.returns-in-0
unfolding side_in
returns-in-0 c = rw (← c.byte.ensures.value, c.in-0.is)

pub returns-in-1 : goal.returns-in-1
unfolding side_in
returns-in-1 c = rw (← c.byte.ensures.value, c.in-1.is)

pub returns-in_default : goal.returns-in_default
unfolding side_in
returns-in_default c = rw (← c.byte.ensures.value, ne_eqb _ _ c.in_default.in_default-own.rest.0.1, ne_eqb _ _ c.in_default.in_default-own.rest.1)
