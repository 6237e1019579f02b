-- The answer and the buffer are the write's: a refusal that changes nothing, or the range's bytes at the front.
-- By the laws of a write's answers from what the callees give.
use mathlib.Core.Path.{sym, ◌∙◌}
use Rattle.std.proofs.lemmas.Result.{err_from_is_err_and}
use Rattle.accepted.proofs.Columns.{none_remembered}
use Rattle.api.proofs.Writes.{table_side, write_refused, write_out_of_range, write_too_long, write_fits, write_bytes}
use Rattle.api.proofs.write.Goals as goal

pub returns-in_err-check : goal.returns-in_err-check
returns-in_err-check c =
    let p = err_from_is_err_and c.from_residual.result c.from_residual.ensures.1 in
    let both = write_refused _ _ _ _ (sym c.check.ensures ∙ c.in_err-check.was) in
    rw (p.1, p.2) (record { value = both.0; out_after = both.1 })

pub returns-then-out_of_range : goal.returns-then-out_of_range
returns-then-out_of_range c = let both = write_out_of_range _ _ _ _ (sym c.check.ensures ∙ c.in_ok-check.was) (sym c.out_of_range.ensures ∙ c.if-out_of_range.true) in record { value = both.0; out_after = both.1 }

pub measure_rows-requires : goal.measure_rows-requires
measure_rows-requires c = rw c.root-root.ensures.number (record { side = table_side _ _ _ (sym c.check.ensures ∙ c.in_ok-check.was) (sym c.out_of_range.ensures ∙ c.if-out_of_range.false); remembered = none_remembered _ })

pub returns-in_default : goal.returns-in_default
returns-in_default c =
    let measured = rw c.root-root.ensures.number at c.measure_rows.ensures.value in
    let both = write_too_long _ _ _ _ (sym c.check.ensures ∙ c.in_ok-check.was) (sym c.out_of_range.ensures ∙ c.if-out_of_range.false) (sym measured ∙ c.in_default.is) in
    record { value = both.0; out_after = both.1 }

pub write_rows-requires : goal.write_rows-requires
write_rows-requires c =
    let measured = rw c.root-root.ensures.number at c.measure_rows.ensures in
    rw c.root-root.ensures.number
    (record {
      side = table_side _ _ _ (sym c.check.ensures ∙ c.in_ok-check.was) (sym c.out_of_range.ensures ∙ c.if-out_of_range.false);
      remembered = measured.remembered_after;
      fits = write_fits _ _ _ _ (sym c.check.ensures ∙ c.in_ok-check.was) (sym measured.value ∙ c.in-Some.is);
    })

pub returns : goal.returns
returns c =
    let measured = rw c.root-root.ensures.number at c.measure_rows.ensures.value in
    let put = rw c.root-root.ensures.number at c.write_rows.ensures.put in
    let both = write_bytes _ _ _ _ (sym c.check.ensures ∙ c.in_ok-check.was) (sym c.out_of_range.ensures ∙ c.if-out_of_range.false) (sym measured ∙ c.in-Some.is) put.at (c.out-1.given.1.1 (sym put.lent) ∙ put.bytes) in
    record { value = both.0; out_after = both.1 }
