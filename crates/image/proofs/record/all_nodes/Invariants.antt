-- `all_nodes` answers whether each node passes the test.
-- The loop keeps that the nodes from node k on decide.
use mathlib.Core.Bool.{Bool}
use Prim.Native.Nat.{ℕ}
use Rattle.image.specs.Ranges.{every, Tells}
use Rattle.image.specs.Record.{node_count}
use Rattle.image.proofs.Loops.{Rest}
use Rattle.image.proofs.record.all_nodes.Given as goal

abbrev pub invariant-loop-k : goal.invariant-loop-k
invariant-loop-k g l = (p : ℕ → Bool) → Tells (λ k b. g.F.Fn.post l.test (k, tt) b) (node_count l.image) p → Rest (every p) 0 (node_count l.image) l.k
