-- The first byte says what the bytes ask for.
-- Each arm of the match is the definition's.
use Rattle.session.specs.Frames.{by_kind, close_frame, empty_frame}
use Rattle.std.proofs.lemmas.Result.{err_from_is_err_and}
use borrow.Author.Tests.{ne_eqb}
use Rattle.session.proofs.frame.by_kind.Goals as goal

pub returns-in-1 : goal.returns-in-1
unfolding by_kind
returns-in-1 c = rw (← c.byte.ensures.value, c.in-1.is) c.piece_frame.ensures

pub returns-in-2 : goal.returns-in-2
unfolding by_kind
returns-in-2 c = rw (← c.byte.ensures.value, c.in-2.is) c.piece_frame-in-2.ensures

pub returns-in-4 : goal.returns-in-4
unfolding by_kind
returns-in-4 c = rw (← c.byte.ensures.value, c.in-4.is) c.compare_frame.ensures

pub returns-in-5 : goal.returns-in-5
unfolding by_kind
returns-in-5 c = rw (← c.byte.ensures.value, c.in-5.is) c.range_frame.ensures

pub returns-in-6 : goal.returns-in-6
unfolding by_kind
returns-in-6 c = rw (← c.byte.ensures.value, c.in-6.is) c.write_frame.ensures

pub returns-in_err-only_side-in-3 : goal.returns-in_err-only_side-in-3
unfolding by_kind close_frame empty_frame
returns-in_err-only_side-in-3 c =
    let p = err_from_is_err_and c.from_residual.result c.from_residual.ensures.1 in
    rw (← c.byte.ensures.value, c.in-3.is, p.1, p.2, ← c.only_side.ensures, c.in_err-only_side-in-3.was)

pub returns-in_ok-only_side-in-3 : goal.returns-in_ok-only_side-in-3
unfolding by_kind close_frame empty_frame
returns-in_ok-only_side-in-3 c = rw (← c.byte.ensures.value, c.in-3.is, ← c.only_side.ensures, c.in_ok-only_side-in-3.was)

pub returns-in_err-only_side-in-7 : goal.returns-in_err-only_side-in-7
unfolding by_kind close_frame empty_frame
returns-in_err-only_side-in-7 c =
    let p = err_from_is_err_and c.from_residual-in_err-only_side-in-7.result c.from_residual-in_err-only_side-in-7.ensures.1 in
    rw (← c.byte.ensures.value, c.in-7.is, p.1, p.2, ← c.only_side-in-7.ensures, c.in_err-only_side-in-7.was)

pub returns-in_ok-only_side-in-7 : goal.returns-in_ok-only_side-in-7
unfolding by_kind close_frame empty_frame
returns-in_ok-only_side-in-7 c = rw (← c.byte.ensures.value, c.in-7.is, ← c.only_side-in-7.ensures, c.in_ok-only_side-in-7.was)

pub returns-in_default : goal.returns-in_default
unfolding by_kind
returns-in_default c = rw (← c.byte.ensures.value, ne_eqb _ _ c.in_default.in_default-own.rest.0.0.0.0.0.0.1, ne_eqb _ _ c.in_default.in_default-own.rest.0.0.0.0.0.1, ne_eqb _ _ c.in_default.in_default-own.rest.0.0.0.0.1, ne_eqb _ _ c.in_default.in_default-own.rest.0.0.0.1, ne_eqb _ _ c.in_default.in_default-own.rest.0.0.1, ne_eqb _ _ c.in_default.in_default-own.rest.0.1, ne_eqb _ _ c.in_default.in_default-own.rest.1)
