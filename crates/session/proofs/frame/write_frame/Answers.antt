-- The frame is a write of the rows that it names.
-- By the definitions of the steps.
use Rattle.std.proofs.lemmas.Result.{err_from_is_err_and}
use Rattle.session.specs.Frames.{write_frame}
use Rattle.session.proofs.frame.write_frame.Goals as goal

pub returns-in_err-of_length : goal.returns-in_err-of_length
unfolding write_frame
returns-in_err-of_length c =
    let p = err_from_is_err_and c.from_residual.result c.from_residual.ensures.1 in
    rw (p.1, p.2, ← c.of_length.ensures, c.in_err-of_length.was)

pub returns-in_err-side : goal.returns-in_err-side
unfolding write_frame
returns-in_err-side c =
    let p = err_from_is_err_and c.from_residual-in_err-side.result c.from_residual-in_err-side.ensures.1 in
    rw (p.1, p.2, ← c.of_length.ensures, c.in_ok-of_length.was, ← c.side_in.ensures, c.in_err-side.was)

pub returns : goal.returns
unfolding write_frame
returns c = rw (← c.of_length.ensures, c.in_ok-of_length.was, ← c.side_in.ensures, c.in_ok-side.was, ← c.le.ensures.value, ← c.le-2.ensures.value)
