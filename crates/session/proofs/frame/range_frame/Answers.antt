-- The frame is a comparison of the ranges that it names.
-- By the definitions of the steps.
use Rattle.std.proofs.lemmas.Result.{err_from_is_err_and}
use Rattle.session.specs.Frames.{range_frame}
use Rattle.session.proofs.frame.range_frame.Goals as goal

pub returns-in_err-of_length : goal.returns-in_err-of_length
unfolding range_frame
returns-in_err-of_length c =
    let p = err_from_is_err_and c.from_residual.result c.from_residual.ensures.1 in
    rw (p.1, p.2, ← c.of_length.ensures, c.in_err-of_length.was)

pub returns : goal.returns
unfolding range_frame
returns c = rw (← c.of_length.ensures, c.in_ok-of_length.was, ← c.le.ensures.value, ← c.le-2.ensures.value, ← c.le-3.ensures.value)
