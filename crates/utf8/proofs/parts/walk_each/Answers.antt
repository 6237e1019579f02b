-- `utf8::parts::walk_each` meets its contract.
-- The loop keeps that each walk is as many bytes further as it has turned.
use native.Mathlib.Omega.{arith}
use Rattle.utf8.proofs.Walks.{each_none, each_then, each_after}
use Rattle.utf8.proofs.parts.walk_each.Goals as goal

pub loop-init : goal.loop-init
loop-init c = each_none _

pub step_each-moved-requires : goal.step_each-moved-requires
step_each-moved-requires c = each_after _ _ _ (omega arith) c.requires c.loop.invariant

pub loop-preserved : goal.loop-preserved
loop-preserved c = each_then _ _ _ _ _ c.loop.invariant c.step_each-moved.ensures
