-- The measure, and what the loop keeps.
use Rattle.image.specs.Record.{first_child, child_count}
use Rattle.values.proofs.Steps.{Left}
use Rattle.values.proofs.Levels.{child_agrees}
use Prim.Native.Nat.{◌-◌}
use Rattle.values.proofs.types.+types_equal.Given as goal

abbrev pub decreases-types_equal : goal.decreases-types_equal
decreases-types_equal l = l.depth

abbrev pub invariant-loop-k : goal.invariant-loop-k
invariant-loop-k l =
    Left (child_agrees (l.depth - 1) l.counted l.map l.pair.left.image.now l.pair.right.image.now)
    (first_child l.pair.left.image.now l.pair.left.number) (first_child l.pair.right.image.now l.pair.right.number) (child_count l.pair.left.image.now l.pair.left.number) l.k
