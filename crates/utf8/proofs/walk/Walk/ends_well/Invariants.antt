-- `utf8::walk::Walk::ends_well` meets its contract.
-- The loop keeps that the walk goes on from the state reached.
use Rattle.utf8.proofs.Steps.{Walked}
use Rattle.utf8.proofs.walk.Walk.ends_well.Given as goal

abbrev pub invariant-loop-b : goal.invariant-loop-b
invariant-loop-b l = Walked l.b-items l.self.state l.b-index l.state
