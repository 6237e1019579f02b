-- The characters of bytes and a line feed stand at the front of the text.
-- The loop keeps that the text begins with the characters of the bytes so far.
use Rattle.session.proofs.Texts.{Printed, printed_none, printed_more, printed_done}
use mathlib.Core.Path.{◌≡◌}
use lib.ListN.{length}
use native.Mathlib.Omega.{arith}
use Rattle.session.proofs.reply.print.Goals as goal

pub loop-k-init : goal.loop-k-init
loop-k-init c = printed_none _ _

pub loop-k-preserved : goal.loop-k-preserved
loop-k-preserved c = printed_more _ _ _ _ c.loop-k.invariant _ _ c.loop-k-test.true (omega (arith, c.requires)) c.digit_text.ensures c.digit_text-in-loop-k.ensures

pub returns : goal.returns
returns c =
    let all : c.loop-k.k ≡ length c.args.bytes.now = omega (arith, c.loop-k.invariant.within, c.loop-k-test.false) in
    let done : Printed c.args.bytes.now c.args.text.now c.loop-k.text (length c.args.bytes.now) = rw all at c.loop-k.invariant in
    let both = printed_done _ _ _ _ done (omega arith) (omega (arith, c.requires)) in
    record { value = both.0; text_after = both.1 }
