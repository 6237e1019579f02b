-- The answer is whether the name is those bytes.
-- Another length is a no; else the loop keeps that the bytes from byte k on decide.
use Rattle.image.specs.Ranges.{every}
use Rattle.image.proofs.Loops.{Rest}
use Rattle.image.proofs.NameBytes.{same_at}
use Rattle.image.proofs.record.Node.name_is.Given as goal

abbrev pub invariant-loop-k : goal.invariant-loop-k
invariant-loop-k l = Rest (every (same_at l.self.image.now l.other l.place l.at)) 0 l.n l.k
