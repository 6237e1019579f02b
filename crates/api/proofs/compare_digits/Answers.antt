-- The answer is that of the comparison at fewer digits: a refusal, or whether the rows agree.
-- By rewriting with what the callees give.
use mathlib.Core.Path.{sym, ◌∙◌}
use Rattle.std.proofs.lemmas.Result.{err_from_is_err_and}
use Rattle.answers.specs.Answers.{digits_answer}
use Rattle.api.proofs.Answers.{range_sides, rows_given, rows_refused}
use Rattle.api.proofs.compare_digits.Goals as goal

pub returns-in_err-paired : goal.returns-in_err-paired
unfolding digits_answer
returns-in_err-paired c =
    let p = err_from_is_err_and c.from_residual.result c.from_residual.ensures.1 in
    rw (p.1, p.2, ← c.paired.ensures, c.in_err-paired.was)

pub returns-then-not_digits : goal.returns-then-not_digits
unfolding digits_answer
returns-then-not_digits c = rw (← c.paired.ensures, c.in_ok-paired.was, ← c.not_digits.ensures, c.if-not_digits.true)

pub returns-in_err-rows : goal.returns-in_err-rows
unfolding digits_answer
returns-in_err-rows c =
    let p = err_from_is_err_and c.from_residual-in_err-rows.result c.from_residual-in_err-rows.ensures.1 in
    rw (p.1, p.2, ← c.paired.ensures, c.in_ok-paired.was, ← c.not_digits.ensures, c.if-not_digits.false, rows_refused _ _ (sym c.rows_within.ensures ∙ c.in_err-rows.was))

pub digits_equal-requires : goal.digits_equal-requires
digits_equal-requires c =
    let both = rows_given _ _ (sym c.rows_within.ensures ∙ c.in_ok-rows.was) in
    rw both.1
    (record {
      sides = range_sides _ _ _ _ _ (sym c.paired.ensures ∙ c.in_ok-paired.was) both.0;
      digits_fit = sym c.not_digits.ensures ∙ c.if-not_digits.false;
    })

pub returns : goal.returns
unfolding digits_answer
returns c =
    let both = rows_given _ _ (sym c.rows_within.ensures ∙ c.in_ok-rows.was) in
    let same = rw both.1 at c.digits_equal.ensures in
    rw (← c.paired.ensures, c.in_ok-paired.was, ← c.not_digits.ensures, c.if-not_digits.false, both.0, ← same)
