-- `distance_block` compares distances with no way out.
-- The loop keeps that the answer so far is that of the first h pairs.
use Rattle.values.specs.Pairs.{all, same_distance}
use mathlib.Core.Path.{◌≡◌}
use Prim.Native.Nat.{◌+◌}
use Rattle.values.proofs.lengths.distance_block.Given as goal

abbrev pub invariant-loop-h : goal.invariant-loop-h
invariant-loop-h g l = l.same ≡ all (same_distance l.left.bytes.now l.left.place l.right.bytes.now l.right.place g.row.W l.left.base l.right.base) (l.left.first + l.k) (l.right.first + l.k) l.h
