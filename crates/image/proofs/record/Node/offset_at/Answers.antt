-- `Node::offset_at` reads a number of the first buffer.
use Rattle.image.specs.Element.{element_at, element_place}
use Rattle.image.proofs.record.Node.offset_at.Goals as goal

pub returns : goal.returns
unfolding element_at element_place
returns c = rw (← c.element_width.ensures, ← c.numbers.ensures.place.value, ← c.numbers.ensures.width, ← c.numbers.ensures.bytes) c.at.ensures.value
