-- `utf8::parts::pass_each` meets its contract.
-- The loop keeps which walks have been given for which.
use Rattle.utf8.specs.Walks.{Passed}
use Rattle.utf8.proofs.Walks.{Upto}
use Rattle.utf8.proofs.parts.pass_each.Given as goal

abbrev pub invariant-loop-k : goal.invariant-loop-k
invariant-loop-k l = Upto (Passed l.n) l.walks l.moved l.k
