-- `Rows::each_block` answers whether all pairs pass, block by block.
-- The loop keeps that the pairs behind the blocks so far decide.
use mathlib.Core.Bool.{Bool}
use Prim.Native.Nat.{ℕ, ◌*◌}
use Rattle.values.specs.Pair.{TellsParts}
use Rattle.values.proofs.Steps.{Left}
use Rattle.values.proofs.pair.Rows.each_block.Given as goal

abbrev pub invariant-loop-h : goal.invariant-loop-h
invariant-loop-h g l = (p : ℕ → ℕ → Bool) → TellsParts (λ r b. g.F.Fn.post l.test (r, tt) b) l.self g.row.N p → Left p l.self.left l.self.right l.self.count (g.row.N * l.h)
