-- The answer is what the two images are.
-- By rewriting with what the callees give.
use Rattle.std.proofs.lemmas.Result.{err_from_is_err_and}
use Rattle.answers.specs.Answers.{paired_of}
use Rattle.api.proofs.paired.Goals as goal

pub returns-in_err-check_side : goal.returns-in_err-check_side
unfolding paired_of
returns-in_err-check_side c =
    let p = err_from_is_err_and c.from_residual.result c.from_residual.ensures.1 in
    rw (p.1, p.2, ← c.check_side.ensures, c.in_err-check_side.was)

pub returns-in_err-check_side-2 : goal.returns-in_err-check_side-2
unfolding paired_of
returns-in_err-check_side-2 c =
    let p = err_from_is_err_and c.from_residual-in_err-check_side-2.result c.from_residual-in_err-check_side-2.ensures.1 in
    rw (p.1, p.2, ← c.check_side.ensures, c.in_ok-check_side.was, ← c.check_side-2.ensures, c.in_err-check_side-2.was)

pub returns-then-not-same_types : goal.returns-then-not-same_types
unfolding paired_of
returns-then-not-same_types c = rw (← c.check_side.ensures, c.in_ok-check_side.was, ← c.check_side-2.ensures, c.in_ok-check_side-2.was, ← c.same_types.ensures, c.if-not-same_types.true)

pub returns : goal.returns
unfolding paired_of
returns c = rw (← c.check_side.ensures, c.in_ok-check_side.was, ← c.check_side-2.ensures, c.in_ok-check_side-2.was, ← c.same_types.ensures, c.if-not-same_types.false)
