-- `put_number` puts the bytes of a number over the buffer.
-- The loop keeps that the bytes of what is left of the number, put after those that were put, give the whole.
use mathlib.Core.Path.{◌≡◌}
use Rattle.rows.proofs.Over.{NumberToPut}
use Rattle.rows.proofs.output.Output.put_number.Given as goal

abbrev pub invariant-loop-k : goal.invariant-loop-k
invariant-loop-k l = (l.self.bytes.ghost_name ≡ l.fn.self.bytes.ghost_name) × NumberToPut l.w l.x l.fn.self.bytes.now l.at l.self.bytes.now l.rest l.k
