-- The row is the first that is unequal, or the count.
-- The invariant: the first k rows are equal; a block that is not has the row.
use Prim.Native.Nat.{◌-◌}
use Rattle.values.proofs.Steps.{Passed}
use Rattle.difference.proofs.Search.{same_rows}
use Prim.Native.Nat.{◌-◌}
use Rattle.difference.proofs.first_difference.Given as goal

abbrev pub invariant-loop-k : goal.invariant-loop-k
invariant-loop-k l = Passed (same_rows l.a l.b) l.rows.left l.rows.right l.rows.count l.k

abbrev pub decreases-loop-k : goal.decreases-loop-k
decreases-loop-k l = l.n - l.k
