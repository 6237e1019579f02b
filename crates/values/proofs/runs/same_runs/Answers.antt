-- `values::runs::same_runs` meets its contract.
-- Both sides have as many runs from the first to the last element, and the ends of those before the last are the same.
use Rattle.values.proofs.SameRuns.{left_order, left_few, right_order, together}
use native.Mathlib.Omega.{arith}
use Rattle.values.proofs.runs.same_runs.Goals as goal

pub overflow_sub-m : goal.overflow_sub-m
overflow_sub-m c = left_order c.requires c.run_of.ensures

pub overflow_sub-run_of : goal.overflow_sub-run_of
overflow_sub-run_of c = right_order c.requires c.run_of.ensures c.run_of-2.ensures

pub overflow_add-result : goal.overflow_add-result
overflow_add-result c = omega (arith, left_few c.requires c.run_of.ensures)

pub returns : goal.returns
returns c = record { some = omega arith; together = together c.requires c.run_of.ensures c.run_of-2.ensures c.if-run_of-j.false (c.if-rows.false) (c.ends_same.ensures (c.if-not-ends_same.false)) }
