-- `is_null` tells whether a row is null.
-- By the depth, and then by the row's bit, if there is a bitmap.
use Rattle.rows.proofs.RowParts.{ended_null, bit_null}
use Rattle.rows.proofs.value.is_null.Goals as goal

pub returns-then-depth-eq0 : goal.returns-then-depth-eq0
returns-then-depth-eq0 c = ended_null _ _ _ _ c.if-depth-eq0.true

pub returns : goal.returns
returns c = bit_null _ _ _ _ c.if-depth-eq0.false c.is_kept.ensures
