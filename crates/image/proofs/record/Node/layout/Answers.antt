-- `layout` gives the layout of the node's code.
use Rattle.image.proofs.record.Node.layout.Goals as goal

pub returns : goal.returns
returns c = rw c.code.ensures.value at c.layout.ensures
