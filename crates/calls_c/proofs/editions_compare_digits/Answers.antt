-- The number is that of the answer of the comparison at fewer digits.
-- By the contracts of the comparison and of the number.
use Rattle.answers.proofs.Values.{digits_small}
use Rattle.calls_c.proofs.editions_compare_digits.Goals as goal

pub pack-requires : goal.pack-requires
pack-requires c = digits_small c.compare_digits.result

pub returns : goal.returns
returns c = rw (← c.compare_digits.ensures) c.pack.ensures
