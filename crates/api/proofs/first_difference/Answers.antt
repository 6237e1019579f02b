-- The answer is the search's: a refusal, or the row where the ranges differ, if there is one.
-- By rewriting with what the callees give.
use mathlib.Core.Path.{sym, ◌∙◌}
use Rattle.std.proofs.lemmas.Result.{err_from_is_err_and}
use Rattle.answers.specs.Answers.{difference_answer}
use Rattle.api.proofs.Answers.{range_sides, rows_given, rows_refused}
use Rattle.api.proofs.first_difference.Goals as goal

pub returns-in_err-paired : goal.returns-in_err-paired
unfolding difference_answer
returns-in_err-paired c =
    let p = err_from_is_err_and c.from_residual.result c.from_residual.ensures.1 in
    rw (p.1, p.2, ← c.paired.ensures, c.in_err-paired.was)

pub returns-in_err-rows : goal.returns-in_err-rows
unfolding difference_answer
returns-in_err-rows c =
    let p = err_from_is_err_and c.from_residual-in_err-rows.result c.from_residual-in_err-rows.ensures.1 in
    rw (p.1, p.2, ← c.paired.ensures, c.in_ok-paired.was, rows_refused _ _ (sym c.rows_within.ensures ∙ c.in_err-rows.was))

pub first_difference-requires : goal.first_difference-requires
first_difference-requires c =
    let both = rows_given _ _ (sym c.rows_within.ensures ∙ c.in_ok-rows.was) in
    rw both.1 (range_sides _ _ _ _ _ (sym c.paired.ensures ∙ c.in_ok-paired.was) both.0)

pub returns : goal.returns
unfolding difference_answer
returns c =
    let both = rows_given _ _ (sym c.rows_within.ensures ∙ c.in_ok-rows.was) in
    let found = rw both.1 at c.first_difference.ensures in
    rw (← c.paired.ensures, c.in_ok-paired.was, both.0, ← found)
