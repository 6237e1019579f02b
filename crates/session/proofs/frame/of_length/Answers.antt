-- The answer is whether the frame has so many bytes.
-- By the test.
use borrow.Author.Tests.{eq-eqb, ne_eqb}
use Rattle.session.specs.Frames.{of_length}
use Rattle.session.proofs.frame.of_length.Goals as goal

pub returns-then-frame-n : goal.returns-then-frame-n
unfolding of_length
returns-then-frame-n c = rw (ne_eqb _ _ c.if-frame-n.true)

pub returns : goal.returns
unfolding of_length
returns c = rw (eq-eqb _ _ c.if-frame-n.false)
