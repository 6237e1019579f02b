-- How many rows are not null up to the first that is: all without a bitmap, else the set bits.
-- The laws of Masks.
use Rattle.values.proofs.Masks.{rows_none, rows_bits}
use Rattle.values.proofs.data.valid_rows.Goals as goal

pub returns-in-None : goal.returns-in-None
returns-in-None c = rows_none c.args.node _ _ c.in-None.ensures

pub returns-in-Some : goal.returns-in-Some
returns-in-Some c = rows_bits c.args.node _ _ c.in-Some.ensures c.leading_set.ensures
