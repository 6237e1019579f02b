-- The end of the last level that is not too deep.
-- The loop keeps the end of level d, which is at most the number of nodes.
use mathlib.Core.Path.{◌≡◌}
use Prim.Native.Nat.{◌^◌}
use Rattle.image.specs.Faults.{level_end}
use Prim.Native.Nat.{◌<◌}
use Rattle.validate.proofs.tree.level_end.Given as goal

abbrev pub invariant-loop-d : goal.invariant-loop-d
invariant-loop-d l = (l.end ≡ level_end l.image l.d) × (l.end < 2 ^ 16)
