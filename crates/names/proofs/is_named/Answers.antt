-- The answer is whether the node's name is the whole slice.
-- By what the callee gives; a slice is all of its bytes.
use Rattle.names.proofs.Wholes.{whole}
use Rattle.names.proofs.is_named.Goals as goal

pub returns : goal.returns
returns c = rw (whole) at c.name_is.ensures
