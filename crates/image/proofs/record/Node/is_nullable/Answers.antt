-- `image::record::Node::is_nullable` meets its contract.
-- The definition is rewritten by what the calls ensure and by the tests on the way.
use Rattle.image.specs.Record.{nullable}
use Rattle.image.proofs.record.Node.is_nullable.Goals as goal

pub returns : goal.returns
unfolding nullable
returns c = rw (← c.flags.ensures.value)
