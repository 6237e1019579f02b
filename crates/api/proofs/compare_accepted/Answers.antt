-- The answer is whether the tables are equal.
-- By the laws of the answers from what the callees give.
use mathlib.Core.Path.{sym, ◌∙◌}
use Rattle.api.proofs.Answers.{whole_sides, compare_no, compare_rows}
use Rattle.api.proofs.compare_accepted.Goals as goal

pub rows_equal-requires : goal.rows_equal-requires
rows_equal-requires c = whole_sides _ _ _ c.requires (sym c.base_equal.ensures ∙ c.if-base_equal.true) (rw (c.root.ensures.image, c.root.ensures.number) at c.length-rows.ensures.value)

pub returns-then-base_equal : goal.returns-then-base_equal
returns-then-base_equal c = compare_rows _ _ (sym c.base_equal.ensures ∙ c.if-base_equal.true) (rw (c.root.ensures.image, c.root.ensures.number) at c.length-rows.ensures.value) c.rows_equal.ensures

pub returns-else-base_equal : goal.returns-else-base_equal
returns-else-base_equal c = c.if-base_equal.false ∙ compare_no _ _ (sym c.base_equal.ensures ∙ c.if-base_equal.false)
