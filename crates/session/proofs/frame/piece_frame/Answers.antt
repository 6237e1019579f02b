-- A piece frame is refused by 3 where it has no bytes after the first.
-- By the two ways of the test.
use Rattle.session.specs.Frames.{piece_frame}
use Rattle.session.proofs.Fronts.{after_first}
use borrow.Author.Tests.{lt-ltb, le-ltb}
use Rattle.session.proofs.frame.piece_frame.Goals as goal

pub returns-then-frame-lt2 : goal.returns-then-frame-lt2
unfolding piece_frame
returns-then-frame-lt2 c = rw (lt-ltb _ _ c.if-frame-lt2.true)

pub returns : goal.returns
unfolding piece_frame
returns c = rw (le-ltb _ _ c.if-frame-lt2.false, after_first c.args.frame.now)
