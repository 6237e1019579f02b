-- The number is that of the first unequal row.
-- By the contracts of the search and of the number; a row below a count of 32 bits fits.
use Rattle.answers.proofs.Values.{difference_small}
use native.Mathlib.Omega.{arith}
use Rattle.calls_c.proofs.editions_first_difference.Goals as goal

pub pack-requires : goal.pack-requires
pack-requires c = difference_small _ _ _ _ _ c.first_difference.ensures (omega arith)

pub returns : goal.returns
returns c = rw (← c.first_difference.ensures) c.pack.ensures
