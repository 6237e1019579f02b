-- The answer is whether the rows of views are equal in turn, where their null masks agree.
-- The loop keeps that the rows from row k on decide; a turn passes over a null row or compares two views.
use mathlib.Core.Path.{sym, ◌∙◌}
use native.Mathlib.Omega.{arith}
use Rattle.image.specs.Row.{view_row}
use Rattle.values.proofs.Steps.{left_more, left_fails, left_done, by_rows, row_test}
use Rattle.accepted.proofs.Nodes.{side_small}
use Rattle.values.proofs.MaskedRows.{masked_row_lem, null_rows}
use Rattle.values.proofs.Views.{row_views, row_are}
use Rattle.values.proofs.byte_view.masked_views_equal.Goals as goal
use Rattle.values.proofs.byte_view.masked_views_equal.Goals.{then-is_kept+else-not-view_equal, else-is_kept}

pub overflow_add-i : goal.overflow_add-i
overflow_add-i c = omega (arith, c.loop-k-test.true, side_small _ _ _ _ c.requires.left)

pub overflow_add-j : goal.overflow_add-j
overflow_add-j c = omega (arith, c.loop-k-test.true, side_small _ _ _ _ c.requires.right)

pub is_kept-requires : goal.is_kept-requires
is_kept-requires c = (c.bitmap-bitmap.ensures, omega (arith, c.loop-k-test.true, side_small _ _ _ _ c.requires.left))

pub view-requires : goal.view-requires
view-requires c = rw c.new-left.ensures (row_views c.requires c.loop-k-test.true (sym c.is_kept.ensures ∙ c.if-is_kept.true)).left

pub view-requires-then-is_kept : goal.view-requires-then-is_kept
view-requires-then-is_kept c = rw c.new-right.ensures (row_views c.requires c.loop-k-test.true (sym c.is_kept.ensures ∙ c.if-is_kept.true)).right

pub returns-then-not-view_equal : goal.returns-then-not-view_equal
returns-then-not-view_equal c =
    let answer = rw (c.view.ensures.node, c.view.ensures.place, c.view-then-is_kept.ensures.node, c.view-then-is_kept.ensures.place, c.new-left.ensures, c.new-right.ensures) at c.view_equal.ensures in
    left_fails _ _ _ _ _ c.loop-k-test.true c.loop-k.invariant (row_are c.requires c.loop-k-test.true (sym c.is_kept.ensures ∙ c.if-is_kept.true) answer ∙ c.if-not-view_equal.true) ∙ by_rows _ _ _ _ _

pub loop-k-preserved : goal.loop-k-preserved
loop-k-preserved c =
    left_more _ _ _ _ _ c.loop-k-test.true c.loop-k.invariant
    (elim c.if-is_kept.branch [
      | then-is_kept+else-not-view_equal w ↦
          (let answer = rw (w.view.ensures.node, w.view.ensures.place, w.view-then-is_kept.ensures.node, w.view-then-is_kept.ensures.place, c.new-left.ensures, c.new-right.ensures) at w.view_equal.ensures in
          row_are c.requires c.loop-k-test.true (sym c.is_kept.ensures ∙ w.if-is_kept.true) answer ∙ w.if-not-view_equal.false)
      | else-is_kept w ↦ row_test _ _ _ _ (null_rows (masked_row_lem c.requires c.loop-k-test.true) view_row (sym c.is_kept.ensures ∙ w.if-is_kept.false))
    ])

pub returns : goal.returns
returns c = left_done _ _ _ _ _ c.loop-k-test.false c.loop-k.invariant ∙ by_rows _ _ _ _ _
