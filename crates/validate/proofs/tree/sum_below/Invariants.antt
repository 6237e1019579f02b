-- `sum_below` gives the sum of the counts of the numbers below n.
-- The loop keeps that what is added so far is the sum below k.
use Prim.Native.Nat.{ℕ, ◌*◌, ◌≤◌}
use Rattle.image.specs.Ranges.{sum_to}
use Rattle.validate.specs.Walks.{Total, Counts}
use Rattle.validate.proofs.tree.sum_below.Given as goal

abbrev pub invariant-loop-k : goal.invariant-loop-k
invariant-loop-k g l = (l.sum ≤ 4294967295 * l.k) × ((f : ℕ → ℕ) → Counts (λ k r. g.F.Fn.post l.count (k, tt) r) l.n f → Total (sum_to f l.k) l.k l.sum)
