-- The answer is the range comparison's: a refusal, or whether the rows are equal.
-- By rewriting with what the callees give.
use mathlib.Core.Path.{sym, ◌∙◌}
use Rattle.std.proofs.lemmas.Result.{err_from_is_err_and}
use Rattle.answers.specs.Answers.{compare_range_answer}
use Rattle.equal.proofs.Types.{table_answer}
use Rattle.api.proofs.Answers.{range_sides, rows_given, rows_refused}
use Rattle.api.proofs.compare_range.Goals as goal

pub returns-in_err-paired : goal.returns-in_err-paired
unfolding compare_range_answer
returns-in_err-paired c =
    let p = err_from_is_err_and c.from_residual.result c.from_residual.ensures.1 in
    rw (p.1, p.2, ← c.paired.ensures, c.in_err-paired.was)

pub returns-in_err-rows : goal.returns-in_err-rows
unfolding compare_range_answer
returns-in_err-rows c =
    let p = err_from_is_err_and c.from_residual-in_err-rows.result c.from_residual-in_err-rows.ensures.1 in
    rw (p.1, p.2, ← c.paired.ensures, c.in_ok-paired.was, rows_refused _ _ (sym c.rows_within.ensures ∙ c.in_err-rows.was))

pub rows_equal-requires : goal.rows_equal-requires
rows_equal-requires c =
    let both = rows_given _ _ (sym c.rows_within.ensures ∙ c.in_ok-rows.was) in
    rw both.1 (range_sides _ _ _ _ _ (sym c.paired.ensures ∙ c.in_ok-paired.was) both.0)

pub returns : goal.returns
unfolding compare_range_answer
returns c =
    let both = rows_given _ _ (sym c.rows_within.ensures ∙ c.in_ok-rows.was) in
    let same = rw both.1 at c.rows_equal.ensures in
    rw (← c.paired.ensures, c.in_ok-paired.was, both.0, ← table_answer _ _ _ _ _, ← same)
