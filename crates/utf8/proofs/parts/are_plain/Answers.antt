-- `utf8::parts::are_plain` meets its contract.
-- Each loop keeps its test of the walks that were passed.
use mathlib.Core.Path.{◌≡◌, sym, ◌∙◌}
use mathlib.Core.Bool.{false}
use native.Mathlib.Omega.{arith}
use Rattle.std.specs.List.{list_all}
use Rattle.std.proofs.lemmas.List.{take_all}
use Rattle.utf8.specs.Walks.{between, plain}
use Rattle.utf8.proofs.parts.are_plain.Goals as goal

pub returns-then-not-all_between : goal.returns-then-not-all_between
unfolding plain
returns-then-not-all_between c =
    let e = rw (take_all c.loop-walk.walk-index c.args.walks (omega (arith, c.well_formed, c.loop-walk-test.false))) at c.loop-walk.invariant in
    let none : list_all between c.args.walks ≡ false = sym e ∙ c.if-not-all_between.true in
    rw none

pub returns : goal.returns
unfolding plain
returns c =
    let e = rw (take_all c.loop-walk.walk-index c.args.walks (omega (arith, c.well_formed, c.loop-walk-test.false))) at c.loop-walk.invariant in
    let f = rw (take_all c.loop-walk-2.walk-index c.args.walks (omega (arith, c.well_formed, c.loop-walk-2-test.false))) at c.loop-walk-2.invariant in
    rw (← e, ← f, c.if-not-all_between.false)
