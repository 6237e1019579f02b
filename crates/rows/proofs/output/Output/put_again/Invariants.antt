-- `put_again` puts bytes of the buffer over it once more, behind them.
-- The loop keeps that the bytes from byte k on, put after those that were put, give the whole; what is read stands before.
use mathlib.Core.Path.{◌≡◌}
use Rattle.rows.proofs.Over.{BytesToPut}
use Rattle.rows.proofs.output.Output.put_again.Given as goal

abbrev pub invariant-loop-k : goal.invariant-loop-k
invariant-loop-k l = (l.self.bytes.ghost_name ≡ l.fn.self.bytes.ghost_name) × BytesToPut l.fn.self.bytes.now l.from l.n l.fn.self.bytes.now l.at l.self.bytes.now l.k
