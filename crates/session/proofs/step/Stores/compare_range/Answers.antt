-- Ranges of both sides compared: 42 where one is open, else the reply to the comparison.
-- By whether each side is closed, from what the calls give.
use Rattle.session.proofs.Sides.{left_refused, right_refused, both_lent}
use Rattle.session.specs.Steps.{range_reply}
use Rattle.std.proofs.lemmas.Result.{err_from_is_err_and}
use Rattle.session.proofs.step.Stores.compare_range.Goals as goal

pub returns-in_err-accepted : goal.returns-in_err-accepted
unfolding range_reply
returns-in_err-accepted c =
    let p = err_from_is_err_and c.from_residual.result c.from_residual.ensures.1 in
    rw (p.1, p.2) (left_refused c.args.self.now c.accepted.ensures c.in_err-accepted.was _)

pub returns-in_err-accepted-2 : goal.returns-in_err-accepted-2
unfolding range_reply
returns-in_err-accepted-2 c =
    let p = err_from_is_err_and c.from_residual-in_err-accepted-2.result c.from_residual-in_err-accepted-2.ensures.1 in
    rw (p.1, p.2) (right_refused c.args.self.now c.accepted.ensures c.in_ok-accepted.was c.accepted-2.ensures c.in_err-accepted-2.was _)

pub returns-in_err-equal : goal.returns-in_err-equal
unfolding range_reply
returns-in_err-equal c =
    let p = err_from_is_err_and c.from_residual-in_err-equal.result c.from_residual-in_err-equal.ensures.1 in
    let lent = both_lent c.args.self.now c.accepted.ensures c.in_ok-accepted.was c.accepted-2.ensures c.in_ok-accepted-2.was in
    rw (p.1, p.2, ← lent.0, ← lent.1, ← c.compare_range.ensures, c.in_err-equal.was) (lent.2 _)

pub returns : goal.returns
unfolding range_reply
returns c =
    let both = both_lent c.args.self.now c.accepted.ensures c.in_ok-accepted.was c.accepted-2.ensures c.in_ok-accepted-2.was in
    rw (← both.0, ← both.1, ← c.compare_range.ensures, c.in_ok-equal.was) (both.2 _)
