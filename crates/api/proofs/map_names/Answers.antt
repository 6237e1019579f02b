-- The answer is that of the query: the check's refusal, or whether the Maps have their names.
-- By rewriting with what the callees give.
use Rattle.std.proofs.lemmas.Result.{err_from_is_err_and}
use Rattle.answers.specs.Answers.{map_names_answer}
use Rattle.api.proofs.map_names.Goals as goal

pub returns-in_err-check : goal.returns-in_err-check
unfolding map_names_answer
returns-in_err-check c =
    let p = err_from_is_err_and c.from_residual.result c.from_residual.ensures.1 in
    rw (p.1, p.2, ← c.check.ensures, c.in_err-check.was)

pub returns : goal.returns
unfolding map_names_answer
returns c = rw (← c.check.ensures, c.in_ok-check.was, ← c.maps_named.ensures)
