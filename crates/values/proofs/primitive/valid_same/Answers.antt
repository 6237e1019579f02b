-- `valid_same` compares the elements whose bit is set.
-- The loop keeps that the answer so far is that of the first h pairs.
use Rattle.values.proofs.ValidElements.{more_pairs, valid_test}
use Rattle.values.proofs.Steps.{all_none}
use Rattle.values.proofs.primitive.valid_same.Goals as goal

pub loop-h-init : goal.loop-h-init
loop-h-init g c = all_none _ _ _

pub loop-h-preserved : goal.loop-h-preserved
loop-h-preserved g c = more_pairs _ _ c.loop-h.invariant (valid_test _ _ _ _ _ c.number_same.ensures)
