-- `image::record::Node::elements` meets its contract.
-- The definition is rewritten by what the calls ensure and by the tests on the way.
use Rattle.image.specs.Record.{elements_of}
use native.Mathlib.Omega.{arith}
use Rattle.image.proofs.record.Node.elements.Goals as goal

pub returns : goal.returns
unfolding elements_of
returns c = record { value = rw (← c.length.ensures.value, ← c.offset.ensures.value); small = omega arith }
