-- How many nodes are not too deep: level by level, at most all of them.
use mathlib.Core.Path.{◌≡◌, refl}
use mathlib.Core.List.{List}
use native.Mathlib.Numerals.{add-one}
use native.Mathlib.Nat.{min-le_right}
use Prim.Native.Nat.{min}
use Rattle.image.specs.Record.{node_count, child_start}
use Rattle.image.specs.Faults.{level_end}
use Prim.Native.Nat.{ℕ, ◌+◌, ◌≤◌}
use native.Mathlib.Omega.{arith}
use Rattle.validate.proofs.tree.level_end.Goals as goal

level-more : (s : List ℕ) (d : ℕ) {end n a r : ℕ} → end ≡ level_end s d → n ≡ node_count s → a ≡ child_start s end → r ≡ min a n → r ≡ level_end s (d + 1)
unfolding level_end
level-more s d p q e h = rw (add-one d, ← p, ← q, ← e) h

at_most : (a n r : ℕ) → r ≡ min a n → r ≤ n
at_most a n r e = rw e (min-le_right a n)

pub loop-d-init : goal.loop-d-init
unfolding level_end
loop-d-init c = (refl, omega arith)

pub loop-d-preserved : goal.loop-d-preserved
loop-d-preserved c = (level-more _ _ c.loop-d.invariant.0 c.node_count-n.ensures.value c.child_start.ensures.value c.min-end.ensures, omega (arith, at_most _ _ _ c.min-end.ensures, c.node_count-n.ensures.small))
