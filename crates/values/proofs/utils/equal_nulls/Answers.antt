-- Two null masks agree exactly where no pair of rows is the first unequal one.
-- The law of the first unequal pair.
use mathlib.Core.Path.{◌∙◌}
use Rattle.values.proofs.FirstUnequal.{unequal_nowhere, says_none}
use Rattle.values.proofs.utils.equal_nulls.Goals as goal

pub returns : goal.returns
returns c = says_none c.is_none.ensures ∙ rw c.first_unequal_null.ensures (unequal_nowhere _ _ _ _)
