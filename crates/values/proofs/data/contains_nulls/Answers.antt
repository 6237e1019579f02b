-- One of n rows is null exactly where fewer than n lead that are not.
-- The law of Leading.
use mathlib.Core.Path.{ap}
use mathlib.Core.Bool.{not}
use Rattle.values.proofs.Leads.{leading_whole}
use Rattle.values.proofs.data.contains_nulls.Goals as goal

pub returns : goal.returns
returns c = ap not (leading_whole _ _ _ _ c.valid_rows.ensures)
