-- The bytes that a line stands for stand in the frame.
-- The loop keeps that they are those in the frame so far, with what is found from there on.
use Rattle.session.proofs.Lines.{Decoded}
use lib.ListN.{length}
use Rattle.session.proofs.line.decode.Given as goal

abbrev pub invariant-loop-left : goal.invariant-loop-left
invariant-loop-left l = Decoded l.line l.bytes l.left l.n

abbrev pub decreases-loop-left : goal.decreases-loop-left
decreases-loop-left l = length l.left
