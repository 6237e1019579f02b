-- `is_outside` compares the part's end with the image's length.
-- The sum of two numbers below 2 ^ 32 does not wrap.
use borrow.Author.Rules.{rules}
use Rattle.image.specs.Faults.{outside}
use Rattle.validate.proofs.names.is_outside.Goals as goal

pub returns : goal.returns
unfolding outside
returns c = search rules
