-- `image::record::Node::buffer_length` meets its contract.
-- The definition is rewritten by what the calls ensure and by the tests on the way.
use Rattle.image.specs.Record.{buffer_length}
use Rattle.image.proofs.record.Node.buffer_length.Goals as goal

pub returns : goal.returns
unfolding buffer_length
returns c = rw (← c.node_entry.ensures.value) c.le.ensures
