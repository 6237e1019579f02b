-- Booleans without nulls are equal.
-- A range of rows is equal exactly where none is the first unequal one.
use mathlib.Core.Path.{◌∙◌}
use Rattle.values.proofs.FirstUnequal.{unequal_rows, says_none}
use Rattle.values.proofs.boolean.boolean_equal.Goals as goal

pub returns : goal.returns
returns c = says_none c.is_none.ensures ∙ unequal_rows _ _ _ _ _ c.first_unequal_boolean.ensures
