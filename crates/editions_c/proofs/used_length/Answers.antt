-- The length that is lent is the buffer's, or the most that can be answered.
-- By the contract of the smaller of the two.
use Rattle.editions_c.specs.Outputs.{most}
use Rattle.editions_c.proofs.used_length.Goals as goal

pub returns : goal.returns
unfolding most
returns c = c.min.ensures
