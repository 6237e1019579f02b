-- `copy_bytes` puts bytes over a part of a buffer that is as long.
-- The loop keeps that the bytes from byte k on, put after those that were put, give the whole.
use Rattle.rows.proofs.Over.{BytesToPut}
use lib.ListN.{length}
use Rattle.rows.proofs.output.copy_bytes.Given as goal

abbrev pub invariant-loop-k : goal.invariant-loop-k
invariant-loop-k l = BytesToPut l.bytes 0 (length l.bytes) l.fn.part 0 l.part l.k
