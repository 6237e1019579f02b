-- `next_run` steps by the current run's end.
use native.Mathlib.Omega.{arith}
use Rattle.accepted.proofs.RunSteps.{step_stays, step_leaves}
use Rattle.accepted.proofs.runs.next_run.Goals as goal

pub returns-then-j-end : goal.returns-then-j-end
returns-then-j-end c = step_stays _ _ _ (omega (arith, c.if-j-end.true))

pub returns-else-j-end : goal.returns-else-j-end
returns-else-j-end c = step_leaves _ _ _ (omega (arith, c.if-j-end.false))
