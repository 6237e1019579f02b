-- The row is the first that is unequal, or the count.
-- The invariant: the first k rows are equal; a block that is not has the row.
use mathlib.Core.Path.{sym, ◌∙◌}
use Rattle.equal.proofs.Nulls.{sides_left, sides_right}
use Rattle.values.proofs.Steps.{passed_none, passed_more}
use Rattle.difference.proofs.Search.{block_within, all_rows_lem, rows_said, rows_nowhere, row_inside, row_found, sides_inside}
use native.Mathlib.Omega.{arith}
use Rattle.difference.proofs.first_difference.Goals as goal

pub loop-k-init : goal.loop-k-init
loop-k-init c = passed_none _ _ _ _

pub part-part-requires : goal.part-part-requires
part-part-requires c = omega (arith, c.loop-k-test.true, sides_left c.requires, sides_right c.requires)

pub first_unequal_row-requires : goal.first_unequal_row-requires
first_unequal_row-requires c =
    let same = rw c.part-part.ensures at c.rows_equal.ensures in
    rw c.part-part.ensures (record { sides = sides_inside c.requires _ _ (omega (arith, c.loop-k-test.true, c.block.ensures)); unequal = sym (all_rows_lem _ _ _ _ _) ∙ rows_said _ _ _ _ _ same (c.if-not-rows_equal.true) })

pub overflow_add-result : goal.overflow_add-result
overflow_add-result c =
    let same = rw c.part-part.ensures at c.rows_equal.ensures in
    let found = rw c.part-part.ensures at c.first_unequal_row.ensures in
    omega (arith, c.loop-k-test.true, c.block.ensures, sides_left c.requires, row_inside _ _ _ _ _ (block_within _ _ c.block.ensures) c.loop-k.invariant (rows_said _ _ _ _ _ same (c.if-not-rows_equal.true)) found)

pub returns-then-not-rows_equal : goal.returns-then-not-rows_equal
returns-then-not-rows_equal c =
    let same = rw c.part-part.ensures at c.rows_equal.ensures in
    let found = rw c.part-part.ensures at c.first_unequal_row.ensures in
    row_found _ _ _ _ _ (block_within _ _ c.block.ensures) c.loop-k.invariant (rows_said _ _ _ _ _ same (c.if-not-rows_equal.true)) found

pub loop-k-preserved : goal.loop-k-preserved
loop-k-preserved c =
    let same = rw c.part-part.ensures at c.rows_equal.ensures in
    rw c.part-part.ensures (passed_more _ _ _ _ _ _ (block_within _ _ c.block.ensures) c.loop-k.invariant (rows_said _ _ _ _ _ same (c.if-not-rows_equal.false)))

pub returns : goal.returns
returns c = rows_nowhere _ _ _ _ _ _ c.loop-k-test.false c.loop-k.invariant
