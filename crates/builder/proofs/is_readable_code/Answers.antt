-- `is_readable_code` answers whether rows of a node's code are read back.
-- By the tests of the code.
use Rattle.image.specs.Parse.{readable_code}
use Rattle.builder.proofs.is_readable_code.Goals as goal

pub returns : goal.returns
unfolding readable_code
returns c = rw (← c.code-code.ensures.value)
