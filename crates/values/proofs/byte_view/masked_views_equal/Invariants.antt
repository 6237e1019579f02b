-- The answer is whether the rows of views are equal in turn, where their null masks agree.
-- The loop keeps that the rows from row k on decide; a turn passes over a null row or compares two views.
use Rattle.image.specs.Row.{view_row}
use Rattle.values.specs.Pairs.{same_row, masked_row}
use Rattle.values.proofs.Steps.{Left}
use Rattle.values.proofs.byte_view.masked_views_equal.Given as goal

abbrev pub invariant-loop-k : goal.invariant-loop-k
invariant-loop-k l = Left (same_row (masked_row view_row l.pair.left.image.now l.pair.left.number) (masked_row view_row l.pair.right.image.now l.pair.right.number)) l.rows.left l.rows.right l.rows.count l.k
