-- `run_of` finds the run of an element.
-- The loop keeps that the runs below low end at or before the element, and those from high on above it.
use mathlib.Core.Path.{refl}
use Rattle.accepted.proofs.RunEnds.{end_is, bisect_up, bisect_down, bisect_done}
use Rattle.accepted.proofs.runs.run_of.Goals as goal

pub loop-low-preserved-then-at-j : goal.loop-low-preserved-then-at-j
loop-low-preserved-then-at-j c = bisect_up c.requires c.loop-low.invariant refl c.loop-low-test.true (end_is c.ends-ends.ensures _ c.at.ensures) c.if-at-j.true

pub loop-low-preserved : goal.loop-low-preserved
loop-low-preserved c = bisect_down c.requires c.loop-low.invariant refl c.loop-low-test.true (end_is c.ends-ends.ensures _ c.at.ensures) c.if-at-j.false

pub returns : goal.returns
returns c = bisect_done c.requires c.loop-low.invariant c.loop-low-test.false
