-- `image::record::Node::record_place` meets its contract.
-- The definition is rewritten by what the calls ensure and by the tests on the way.
use mathlib.Core.Path.{refl}
use Rattle.image.specs.Record.{record_place}
use native.Mathlib.Omega.{arith}
use Rattle.image.proofs.record.Node.record_place.Goals as goal

pub returns : goal.returns
unfolding record_place
returns c = record { value = refl; small = omega arith }
