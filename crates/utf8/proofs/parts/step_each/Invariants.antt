-- `utf8::parts::step_each` meets its contract.
-- The loop keeps which walks have been given for which.
use Rattle.utf8.specs.Walks.{Further}
use Rattle.utf8.proofs.Walks.{Upto}
use Rattle.utf8.proofs.parts.step_each.Given as goal

abbrev pub invariant-loop-k : goal.invariant-loop-k
invariant-loop-k l = Upto (Further 1) l.walks l.moved l.k
