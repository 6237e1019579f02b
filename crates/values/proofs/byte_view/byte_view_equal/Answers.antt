-- The answer is whether the rows of views are equal in turn.
-- Elements without nulls are compared as the rows that read them.
use mathlib.Core.Path.{◌∙◌}
use Rattle.image.specs.Row.{view_row}
use Rattle.values.proofs.MaskedRows.{elements_masked, elements_rows}
use Rattle.values.proofs.byte_view.byte_view_equal.Goals as goal

pub masked_views_equal-requires : goal.masked_views_equal-requires
masked_views_equal-requires c = rw (c.offset.ensures.value, c.offset-2.ensures.value) (elements_masked c.requires.parts c.requires.layout)

pub returns : goal.returns
returns c = c.masked_views_equal.ensures ∙ rw (c.offset.ensures.value, c.offset-2.ensures.value) (elements_rows c.requires.parts view_row)
