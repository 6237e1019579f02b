-- The number is that of the check's answer.
-- By the contracts of the check and of the number.
use Rattle.answers.proofs.Values.{checked_small}
use Rattle.editions_c.proofs.editions_check.Goals as goal

pub pack-requires : goal.pack-requires
pack-requires c = checked_small c.check.result

pub returns : goal.returns
returns c = rw (← c.check.ensures) c.pack.ensures
