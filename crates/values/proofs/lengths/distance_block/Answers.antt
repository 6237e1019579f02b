-- `distance_block` compares distances with no way out.
-- The loop keeps that the answer so far is that of the first h pairs.
use Rattle.values.proofs.Distances.{distance_more}
use Rattle.values.proofs.Steps.{all_none}
use Rattle.values.proofs.lengths.distance_block.Goals as goal

pub loop-h-init : goal.loop-h-init
loop-h-init g c = all_none _ _ _

pub loop-h-preserved : goal.loop-h-preserved
loop-h-preserved g c = distance_more _ _ _ _ _ _ _ _ _ _ c.loop-h.invariant c.load-u.ensures c.load-v.ensures
