-- `image::record::Node::has_bitmap` meets its contract.
-- The definition is rewritten by what the calls ensure and by the tests on the way.
use Rattle.image.specs.Record.{has_bitmap}
use Rattle.image.proofs.record.Node.has_bitmap.Goals as goal

pub returns : goal.returns
unfolding has_bitmap
returns c = rw (← c.flags.ensures.value)
