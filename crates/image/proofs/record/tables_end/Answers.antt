-- `image::record::tables_end` meets its contract.
-- The definition is rewritten by what the calls ensure and by the tests on the way.
use Rattle.image.specs.Record.{tables_end}
use Rattle.image.proofs.record.tables_end.Goals as goal

pub returns : goal.returns
unfolding tables_end
returns c = rw (← c.buffer_total.ensures.value) c.entry_place.ensures
