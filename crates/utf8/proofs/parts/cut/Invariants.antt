-- `utf8::parts::cut` meets its contract.
-- The loop keeps that the search goes on from the place reached.
use Rattle.image.specs.Ranges.{first}
use Rattle.image.proofs.Loops.{Rest}
use Rattle.utf8.specs.Cuts.{begins}
use Rattle.utf8.proofs.parts.cut.Given as goal

abbrev pub invariant-loop-k : goal.invariant-loop-k
invariant-loop-k l = Rest (first (begins l.text)) l.at 3 l.k
