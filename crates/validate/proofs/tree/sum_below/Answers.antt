-- `sum_below` gives the sum of the counts of the numbers below n.
-- A turn adds one count more.
use native.Mathlib.Omega.{arith}
use Rattle.validate.proofs.Parents.{sum_none, sum_next, sum_all}
use Rattle.validate.proofs.tree.sum_below.Goals as goal

pub loop-k-init : goal.loop-k-init
loop-k-init g c = (omega arith, λ f h. sum_none f)

pub loop-k-preserved : goal.loop-k-preserved
loop-k-preserved g c = (omega (arith, c.loop-k.invariant.0), λ f h. sum_next f _ (c.loop-k.invariant.1 f h) (h _ _ c.loop-k-test.true c.count.ensures))

pub returns : goal.returns
returns g c = λ f h. sum_all f _ _ (c.loop-k.invariant.1 f h) (omega arith)
