-- The number is that of the comparison's answer.
-- By the contracts of the comparison and of the number.
use Rattle.answers.proofs.Values.{compared_small}
use Rattle.editions_c.proofs.editions_compare.Goals as goal

pub pack-requires : goal.pack-requires
pack-requires c = compared_small c.compare.result

pub returns : goal.returns
returns c = rw (← c.compare.ensures) c.pack.ensures
