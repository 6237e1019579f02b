-- `image::bytes::by_bytes` meets its contract.
-- The loop keeps that what is left to look at gives the answer; the measure is how much is left.
use Rattle.image.specs.Bytes.{number_at}
use Rattle.image.specs.Reads.{Read}
use Prim.Native.Nat.{◌+◌, ◌-◌, ◌*◌}
use Rattle.image.proofs.bytes.by_bytes.Given as goal

abbrev pub invariant-loop-k : goal.invariant-loop-k
invariant-loop-k l = Read (number_at (l.w - l.k) l.s (l.i + l.k)) (8 * (l.w - l.k)) l.x
