-- The row is the first that is unequal.
-- The invariant: it lies from low on and before high; each turn halves the space between them.
use mathlib.Core.Path.{◌∙◌}
use Rattle.equal.proofs.Nulls.{sides_left, sides_right}
use Rattle.values.proofs.FirstUnequal.{unequal_told}
use Rattle.difference.proofs.Search.{between_up, between_down, between_none, first_row, rows_said, rows_between, nulls_between}
use native.Mathlib.Omega.{arith}
use Rattle.difference.proofs.first_unequal_row.Goals as goal
use Rattle.difference.proofs.first_unequal_row.Goals.{in-Some, in_default}

pub first_unequal_null-requires : goal.first_unequal_null-requires
first_unequal_null-requires c = record { left = omega (arith, sides_left c.requires.sides); right = omega (arith, sides_right c.requires.sides) }

pub loop-high-init : goal.loop-high-init
loop-high-init c =
    let roots = c.roots.ensures in
    let null = rw (roots.left_image, roots.left_root, roots.right_image, roots.right_root) at c.first_unequal_null.ensures in
    elim c.match-first_unequal_null.branch [ in-Some w ↦ let told = unequal_told _ _ _ _ null w.in-Some.is in rw w.high-is (nulls_between c.requires.sides told.0 told.1) | in_default w ↦ rw w.high-is (rows_between _ _ _ _ _ c.requires.unequal) ]

pub part-requires : goal.part-requires
part-requires c = omega (arith, c.loop-high.invariant.below, c.loop-high.invariant.within, sides_left c.requires.sides, sides_right c.requires.sides)

pub loop-high-preserved-then-rows_equal : goal.loop-high-preserved-then-rows_equal
loop-high-preserved-then-rows_equal c =
    let same = rw c.part.ensures at c.rows_equal.ensures in
    between_up _ _ _ _ c.loop-high.invariant (omega (arith, c.loop-high-test.true)) (omega (arith, c.loop-high-test.true)) (rows_said _ _ _ _ _ same c.if-rows_equal.true)

pub loop-high-preserved : goal.loop-high-preserved
loop-high-preserved c =
    let same = rw c.part.ensures at c.rows_equal.ensures in
    between_down _ _ _ _ c.loop-high.invariant (omega (arith, c.loop-high-test.true)) (omega (arith, c.loop-high-test.true)) (rows_said _ _ _ _ _ same c.if-rows_equal.false)

pub returns : goal.returns
returns c = between_none _ _ _ _ c.loop-high.invariant (omega (arith, c.loop-high-test.false)) ∙ first_row _ _ _ _ _
