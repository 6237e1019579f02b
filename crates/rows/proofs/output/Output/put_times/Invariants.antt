-- `put_times` puts bytes of the buffer so many times behind them.
-- The loop keeps how many times they stand before the place that is reached, and how many times they are still to be put.
use mathlib.Core.Path.{◌≡◌}
use Rattle.image.specs.Bytes.{bytes_at}
use Rattle.rows.proofs.Repeats.{Repeating}
use Rattle.rows.proofs.output.Output.put_times.Given as goal

abbrev pub invariant-loop-left : goal.invariant-loop-left
invariant-loop-left l = (l.self.bytes.ghost_name ≡ l.fn.self.bytes.ghost_name) × Repeating (bytes_at l.fn.self.bytes.now l.from l.n) l.n l.times l.fn.self.bytes.now l.fn.self.at l.from l.self.bytes.now l.self.at l.there l.left

abbrev pub decreases-loop-left : goal.decreases-loop-left
decreases-loop-left l = l.left
