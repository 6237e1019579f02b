-- The bytes that a line stands for stand in the frame.
-- The loop keeps that they are those in the frame so far, with what is found in what is left.
use mathlib.Core.Path.{sym, ◌∙◌}
use Rattle.session.proofs.Lines.{decoded_none, decoded_no_high, decoded_no_low, decoded_full, decoded_more, decoded_odd, decoded_nothing, decoded_bytes, none_decoded, two_left, digit_found, no_digit}
use borrow.Author.Rules.{rules}
use borrow.Author.Tests.{eqb-true, eqb-false}
use Rattle.session.proofs.line.decode.Goals.{then-n-eq0-via-then-n-eq0, then-n-eq0-via-else-n-eq0+then-not-is_empty}
use Rattle.session.proofs.line.decode.Goals as goal

pub loop-left-init : goal.loop-left-init
loop-left-init c = decoded_none _ _ (search rules)

pub returns-in_err-digit : goal.returns-in_err-digit
returns-in_err-digit c =
    rw c.from_residual.ensures (none_decoded _ (decoded_no_high _ _ _ _ c.loop-left.invariant _ _ _ (two_left _ c.in-len2-up.len_at_least) (no_digit _ (sym c.digit.ensures ∙ c.in_err-digit.was))))

pub returns-in_err-byte : goal.returns-in_err-byte
returns-in_err-byte c =
    rw c.from_residual-in_err-byte.ensures (none_decoded _ (decoded_no_low _ _ _ _ c.loop-left.invariant _ _ _ (two_left _ c.in-len2-up.len_at_least) (no_digit _ (sym c.digit-in-len2-up.ensures ∙ c.in_err-byte.was))))

pub returns-then-n-eq-LONGEST_FRAME : goal.returns-then-n-eq-LONGEST_FRAME
returns-then-n-eq-LONGEST_FRAME c =
    let high = digit_found _ _ (sym c.digit.ensures ∙ c.in_ok-digit.was) in
    let low = digit_found _ _ (sym c.digit-in-len2-up.ensures ∙ c.in_ok-byte.was) in
    none_decoded _ (decoded_full _ _ _ _ c.loop-left.invariant _ _ _ (two_left _ c.in-len2-up.len_at_least) _ _ (record { first_is = high.0; second_is = low.0; high_small = high.1; low_small = low.1 }) c.if-n-eq-LONGEST_FRAME.true)

pub loop-left-preserved : goal.loop-left-preserved
loop-left-preserved c =
    let high = digit_found _ _ (sym c.digit.ensures ∙ c.in_ok-digit.was) in
    let low = digit_found _ _ (sym c.digit-in-len2-up.ensures ∙ c.in_ok-byte.was) in
    decoded_more _ _ _ _ c.loop-left.invariant _ _ _ (two_left _ c.in-len2-up.len_at_least) _ _ (record { first_is = high.0; second_is = low.0; high_small = high.1; low_small = low.1 }) _ c.if-n-eq-LONGEST_FRAME.false c.after_byte-left.ensures

pub returns-then-n-eq0 : goal.returns-then-n-eq0
returns-then-n-eq0 c =
    none_decoded _
    (elim c.then-n-eq0.branch [
      | then-n-eq0-via-then-n-eq0 w ↦ decoded_nothing _ _ _ _ c.loop-left.invariant c.in_default.len_below w.if-n-eq0.true
      | then-n-eq0-via-else-n-eq0+then-not-is_empty w ↦ decoded_odd _ _ _ _ c.loop-left.invariant c.in_default.len_below (eqb-false _ _ (sym w.is_empty.ensures ∙ w.if-not-is_empty.true))
    ])

pub returns : goal.returns
returns c = decoded_bytes _ _ _ _ c.loop-left.invariant (eqb-true _ _ (sym c.is_empty.ensures ∙ c.if-not-is_empty.false)) c.if-n-eq0.false
