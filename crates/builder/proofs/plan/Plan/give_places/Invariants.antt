-- `Plan::give_places` gives the places of the parts and answers the size of the image.
-- The loop keeps the places up to part q; a refusal needs no table.
use Rattle.builder.proofs.Planning.{Planning}
use Rattle.builder.proofs.plan.Plan.give_places.Given as goal

abbrev pub invariant-loop-q : goal.invariant-loop-q
invariant-loop-q l = Planning l.fn.self.image.now l.fn.self.lengths l.fn.self.spans l.places l.place l.q
