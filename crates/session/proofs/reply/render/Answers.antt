-- The line that a reply is printed as stands at the front of the text.
-- From what the calls give; a reply has at most 65 bytes.
use Rattle.session.proofs.Texts.{reply_few}
use Rattle.session.specs.Replies.{reply_line}
use native.Mathlib.Omega.{arith}
use Rattle.session.proofs.reply.render.Goals as goal

pub print-requires : goal.print-requires
print-requires c = rw (c.reply_bytes.ensures) (reply_few c.args.reply c.args.out.now (omega arith))

pub returns : goal.returns
unfolding reply_line
returns c = rw (← c.reply_bytes.ensures) (record { value = c.print.ensures.value; text_after = c.print.ensures.text_after })
