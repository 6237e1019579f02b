-- The answer and the buffer are those of a table that is built: a refusal that changes nothing, or the image at the front.
-- By the laws of the call's answers from what the callees give.
use mathlib.Core.Path.{sym, ◌∙◌}
use Rattle.std.proofs.lemmas.Result.{err_from_is_err_and}
use Rattle.api.proofs.Builds.{build_refused, build_unreadable, build_rows}
use Rattle.api.proofs.build.Goals as goal

pub returns-in_err-check : goal.returns-in_err-check
returns-in_err-check c =
    let p = err_from_is_err_and c.from_residual.result c.from_residual.ensures.1 in
    let both = build_refused _ _ _ _ (sym c.check.ensures ∙ c.in_err-check.was) in
    rw (p.1, p.2) (record { value = both.0; out_after = both.1 })

pub returns-then-not-is_readable : goal.returns-then-not-is_readable
returns-then-not-is_readable c = let both = build_unreadable _ _ _ _ (sym c.check.ensures ∙ c.in_ok-check.was) (sym c.is_readable.ensures ∙ c.if-not-is_readable.true) in record { value = both.0; out_after = both.1 }

pub returns : goal.returns
returns c = let both = build_rows _ _ _ _ (sym c.check.ensures ∙ c.in_ok-check.was) (sym c.is_readable.ensures ∙ c.if-not-is_readable.false) (c.build.ensures.value, c.build.ensures.out_after) in record { value = both.0; out_after = both.1 }
