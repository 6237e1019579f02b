-- `Plan::give_lengths` gives the length of each node.
-- The loop keeps the lengths of the children of the nodes before node k.
use mathlib.Core.Path.{◌≡◌}
use Rattle.builder.specs.Plan.{LengthsTo}
use Rattle.builder.proofs.plan.Plan.give_lengths.Given as goal

abbrev pub invariant-loop-k : goal.invariant-loop-k
invariant-loop-k l = (l.self.image.now ≡ l.fn.self.image.now) × (l.self.spans ≡ l.fn.self.spans) × (l.self.places ≡ l.fn.self.places) × LengthsTo l.fn.self.image.now l.count l.fn.self.spans l.self.lengths l.k
