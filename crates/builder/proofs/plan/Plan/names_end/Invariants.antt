-- `names_end` answers where the names end.
-- The loop keeps where the name of node k would stand, and that it is near.
use Rattle.builder.proofs.Planning.{Names}
use Rattle.builder.proofs.plan.Plan.names_end.Given as goal

abbrev pub invariant-loop-k : goal.invariant-loop-k
invariant-loop-k l = Names l.self.image.now l.end l.k
