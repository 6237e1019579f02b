-- What counts for a node's children is what the definition says.
-- By what the callee gives; the tests of the code are the definition's.
use Rattle.image.specs.Types.{unlabelled, counted_for}
use Rattle.image.proofs.labels.Counted.below.Goals as goal

pub returns : goal.returns
unfolding counted_for unlabelled
returns c = rw (← c.is_union.ensures)
