-- `load` gives the number of the W bytes at a place.
-- The loop keeps that what is read so far is the number of the bytes from place k on.
use Rattle.image.specs.Bytes.{number_at}
use Rattle.image.specs.Reads.{Read}
use Prim.Native.Nat.{◌+◌, ◌-◌, ◌*◌}
use Rattle.image.proofs.bytes.load.Given as goal

abbrev pub invariant-loop-k : goal.invariant-loop-k
invariant-loop-k g l = Read (number_at (g.row.W - l.k) l.s (l.i + l.k)) (8 * (g.row.W - l.k)) l.x
