-- `run_of` finds the run of an element.
-- The loop keeps that the runs below low end at or before the element, and those from high on above it.
use Rattle.accepted.proofs.RunEnds.{Bisect}
use Prim.Native.Nat.{◌-◌}
use Rattle.accepted.proofs.runs.run_of.Given as goal

abbrev pub invariant-loop-low : goal.invariant-loop-low
invariant-loop-low l = Bisect l.node.image.now l.node.number l.j l.low l.high

abbrev pub decreases-loop-low : goal.decreases-loop-low
decreases-loop-low l = l.high - l.low
