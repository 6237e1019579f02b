-- `utf8::walk::Walk::ends_well` meets its contract.
-- The loop keeps that the walk goes on from the state reached.
use mathlib.Core.Path.{ap}
use Prim.Native.Nat.{ℕ}
use lib.Dec.{eqb}
use Rattle.utf8.specs.Walks.{ends_well}
use Rattle.utf8.proofs.Steps.{walked_more, walked_done}
use Rattle.utf8.proofs.walk.Walk.ends_well.Goals as goal

pub loop-b-preserved : goal.loop-b-preserved
loop-b-preserved c = walked_more _ _ c.loop-b-test.true c.loop-b.invariant c.next-state.ensures

pub returns : goal.returns
unfolding ends_well
returns c = ap (λ (q : ℕ). eqb q 0) (walked_done _ _ c.loop-b-test.false c.loop-b.invariant)
