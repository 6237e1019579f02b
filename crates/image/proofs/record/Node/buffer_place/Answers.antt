-- `image::record::Node::buffer_place` meets its contract.
-- The definition is rewritten by what the calls ensure and by the tests on the way.
use Rattle.image.specs.Record.{buffer_place}
use Rattle.image.proofs.record.Node.buffer_place.Goals as goal

pub returns : goal.returns
unfolding buffer_place
returns c = rw (← c.node_entry.ensures.value) c.le.ensures
