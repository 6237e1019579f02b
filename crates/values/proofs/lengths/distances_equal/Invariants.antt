-- `distances_equal` compares distances block by block.
-- The loop keeps that the pairs behind the blocks so far decide.
use Rattle.values.proofs.Steps.{Left}
use Rattle.values.specs.Pairs.{same_distance}
use Prim.Native.Nat.{◌*◌}
use Rattle.values.proofs.lengths.distances_equal.Given as goal

abbrev pub invariant-loop-h : goal.invariant-loop-h
invariant-loop-h g l = Left (same_distance l.left.bytes.now l.left.place l.right.bytes.now l.right.place g.row.W l.left.base l.right.base) l.left.first l.right.first l.n (64 * l.h)
