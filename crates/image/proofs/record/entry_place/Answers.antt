-- `image::record::entry_place` meets its contract.
-- The definition is rewritten by what the calls ensure and by the tests on the way.
use Rattle.image.specs.Record.{entry_place}
use native.Mathlib.Omega.{arith}
use Rattle.image.proofs.record.entry_place.Goals as goal

pub returns : goal.returns
unfolding entry_place
returns c = record { value = rw (← c.node_count.ensures.value, ← c.record_place.ensures.value); small = omega (arith, c.record_place.ensures.small) }
