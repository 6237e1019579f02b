-- The row is the first that is unequal.
-- The invariant: it lies from low on and before high; each turn halves the space between them.
use Prim.Native.Nat.{◌-◌}
use Rattle.difference.proofs.Search.{Between, same_rows}
use Prim.Native.Nat.{◌-◌}
use Rattle.difference.proofs.first_unequal_row.Given as goal

abbrev pub invariant-loop-high : goal.invariant-loop-high
invariant-loop-high l = Between (same_rows l.a l.b) l.rows.left l.rows.right l.rows.count l.low l.high

abbrev pub decreases-loop-high : goal.decreases-loop-high
decreases-loop-high l = l.high - l.low
