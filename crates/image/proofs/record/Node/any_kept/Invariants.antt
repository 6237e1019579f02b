-- `Node::any_kept` answers whether a row that is not null passes the test.
-- The loop keeps that the rows from row i on decide.
use mathlib.Core.Bool.{Bool}
use Prim.Native.Nat.{ℕ}
use Rattle.image.specs.Ranges.{any}
use Rattle.image.specs.Reads.{TellsKept}
use Rattle.image.proofs.Loops.{Rest}
use Rattle.image.proofs.record.Node.any_kept.Given as goal

abbrev pub invariant-loop-i : goal.invariant-loop-i
invariant-loop-i g l = (p : ℕ → Bool) → TellsKept l.self.image.now l.self.number (λ i b. g.F.Fn.post l.test (i, tt) b) p → Rest (any p) 0 l.i-end l.i
