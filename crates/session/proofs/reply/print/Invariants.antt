-- The characters of bytes and a line feed stand at the front of the text.
-- The loop keeps that the text begins with the characters of the bytes so far.
use Rattle.session.proofs.Texts.{Printed}
use Rattle.session.proofs.reply.print.Given as goal

abbrev pub invariant-loop-k : goal.invariant-loop-k
invariant-loop-k l = Printed l.bytes l.initial.text l.text l.k
