-- One line: its bytes are decoded, and the frame that they are is obeyed.
-- From what the calls give.
use mathlib.Core.Path.{refl}
use Rattle.std.proofs.lemmas.Result.{err_from_is_err_and}
use Rattle.session.specs.Steps.{after_frame, after_line}
use Rattle.session.proofs.Lines.{decoded_lent}
use Rattle.session.proofs.step.Session.step.Goals as goal

pub returns-in_err-frame : goal.returns-in_err-frame
unfolding after_line after_frame
returns-in_err-frame c =
    let p = err_from_is_err_and c.from_residual.result c.from_residual.ensures.1 in
    rw (p.1, p.2, ← decoded_lent c.args.line.now c.decode.result c.decode.ensures, ← c.parse.ensures, c.in_err-frame.was) refl

pub returns : goal.returns
unfolding after_line after_frame
returns c = rw (← decoded_lent c.args.line.now c.decode.result c.decode.ensures, ← c.parse.ensures, c.in_ok-frame.was) c.obey.ensures
