-- `put_times` puts bytes of the buffer so many times behind them.
-- The loop keeps how many times they stand before the place that is reached, and how many times they are still to be put.
use mathlib.Core.Path.{refl, ◌∙◌}
use native.Mathlib.Omega.{arith}
use Rattle.rows.proofs.Over.{put_reached}
use Rattle.rows.proofs.Repeats.{repeating_start, again_requires, again_more, again_done}
use Rattle.rows.proofs.output.Output.put_times.Goals as goal

pub loop-left-init : goal.loop-left-init
loop-left-init c = (refl, repeating_start c.requires.behind.0 c.requires.behind.1)

pub put_again-requires : goal.put_again-requires
put_again-requires c = again_requires c.loop-left.invariant.1 c.min-m.ensures

pub loop-left-preserved : goal.loop-left-preserved
loop-left-preserved c = (c.put_again.ensures.lent ∙ c.loop-left.invariant.0, again_more c.loop-left.invariant.1 c.min-m.ensures (put_reached _ _ c.put_again.ensures, c.put_again.ensures.bytes))

pub returns : goal.returns
returns c = let both = again_done c.loop-left.invariant.1 (omega (arith, c.loop-left-test.false)) in record { lent = c.loop-left.invariant.0; long = c.loop-left.invariant.1.put.long; at = both.0; bytes = both.1 }
