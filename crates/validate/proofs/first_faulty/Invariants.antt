-- The first node that has a fault of the number.
-- The loop keeps that the nodes from k on decide, and that the walk is at node k.
use mathlib.Core.Path.{◌≡◌}
use Rattle.image.specs.Ranges.{first}
use Rattle.image.specs.Faults.{fault}
use Rattle.image.proofs.Loops.{Rest}
use Rattle.validate.proofs.first_faulty.Given as goal

abbrev pub invariant-loop-k : goal.invariant-loop-k
invariant-loop-k l = Rest (first (fault l.number l.start.node.image.now)) 0 l.k-end l.k × (l.walk.node.image ≡ l.start.node.image) × (l.walk.node.number ≡ l.k)
