-- The number is that of the range comparison's answer.
-- By the contracts of the comparison and of the number.
use Rattle.answers.proofs.Values.{ranges_compared_small}
use Rattle.calls_c.proofs.editions_compare_range.Goals as goal

pub pack-requires : goal.pack-requires
pack-requires c = ranges_compared_small c.compare_range.result

pub returns : goal.returns
returns c = rw (← c.compare_range.ensures) c.pack.ensures
