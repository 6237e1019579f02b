-- `utf8::parts::step_each` meets its contract.
-- The loop keeps which walks have been given for which.
use native.Mathlib.Omega.{arith}
use Rattle.utf8.proofs.Walks.{upto_all}
use Rattle.utf8.proofs.parts.step_each.Goals as goal

pub returns : goal.returns
returns c = upto_all _ (omega (arith, c.well_formed)) c.loop-k.invariant
