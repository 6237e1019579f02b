-- `Node::element_width` is what the code and p1 say.
use Rattle.image.specs.Element.{element_width}
use Rattle.image.proofs.record.Node.element_width.Goals as goal

pub returns : goal.returns
unfolding element_width
returns c = rw (← c.code.ensures.value, ← c.p1.ensures.value) c.width.ensures
