-- `utf8::ascii::has_high` meets its contract: blocks of 256 bytes, then of 16, then the last 16.
-- Both loops keep that what is left to look at gives the answer.
use mathlib.Core.Path.{sym, ap, ◌∙◌}
use native.Mathlib.Omega.{arith}
use Prim.Native.Nat.{◌-◌}
use lib.ListN.{length}
use Rattle.std.specs.Slice.Iter.{chunks_exact_rest}
use Rattle.std.proofs.Common.{length-append}
use Rattle.std.proofs.lemmas.List.{take_rest}
use Rattle.utf8.specs.Ascii.{any_high}
use Rattle.utf8.proofs.Ends.{ahead_more, ahead_found, ahead_last}
use Rattle.utf8.proofs.ascii.has_high.Goals as goal

pub returns-then-high_among : goal.returns-then-high_among
returns-then-high_among c = ahead_found _ _ _ c.loop-block.invariant.4 c.in-Some.ensures.steps.1.0 (sym c.high_among.ensures ∙ c.if-high_among.true)

pub loop-block-preserved : goal.loop-block-preserved
loop-block-preserved c =
    let step = c.in-Some.ensures.steps in
    let long = ap length step.1.0 ∙ length-append c.in-Some.block.now (chunks_exact_rest c.next.new.self) in
    (rw step.0 c.loop-block.invariant.0, tt, step.0 ∙ c.loop-block.invariant.2, omega (arith, long, step.1.1, c.loop-block.invariant.2, c.loop-block.invariant.3), ahead_more _ _ _ c.loop-block.invariant.4 step.1.0 (sym c.high_among.ensures ∙ c.if-high_among.false))

pub returns-then-high_among-2 : goal.returns-then-high_among-2
returns-then-high_among-2 c = ahead_found _ _ _ c.loop-block-2.invariant.3 c.in-Some-block.ensures.steps.1.0 (sym c.high_among-in-loop-block-2.ensures ∙ c.if-high_among-2.true)

pub loop-block-2-preserved : goal.loop-block-2-preserved
loop-block-2-preserved c =
    let step = c.in-Some-block.ensures.steps in
    (rw step.0 c.loop-block-2.invariant.0, tt, step.0 ∙ c.loop-block-2.invariant.2, ahead_more _ _ _ c.loop-block-2.invariant.3 step.1.0 (sym c.high_among-in-loop-block-2.ensures ∙ c.if-high_among-2.false))

pub returns : goal.returns
returns c =
    let few = c.in-None-block.ensures.steps.1.0 in
    c.high_among-2.ensures
    ∙ ap any_high (take_rest c.args.text.now (length c.args.text.now - 16))
    ∙ ahead_last _ 16 c.loop-block-2.invariant.3 (omega (arith, few, c.loop-block-2.invariant.2)) c.if-text-lt-SMALL_BLOCK.false
