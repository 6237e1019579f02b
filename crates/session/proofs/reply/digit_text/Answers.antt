-- The character of a digit.
-- By the two ways of the test.
use Rattle.session.specs.Replies.{digit_text}
use borrow.Author.Tests.{lt-ltb, le-ltb}
use Rattle.session.proofs.reply.digit_text.Goals as goal

pub returns-then-x-lt10 : goal.returns-then-x-lt10
unfolding digit_text
returns-then-x-lt10 c = rw (lt-ltb _ _ c.if-x-lt10.true)

pub returns-else-x-lt10 : goal.returns-else-x-lt10
unfolding digit_text
returns-else-x-lt10 c = rw (le-ltb _ _ c.if-x-lt10.false)
