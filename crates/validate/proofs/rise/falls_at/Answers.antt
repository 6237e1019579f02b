-- `falls_at` tells whether a number falls against the one before it.
-- Both are read, and the test without a sum is the definition's.
use Rattle.image.proofs.Numbers.{packed_few}
use Rattle.validate.specs.Numbers.{number_in, falls}
use Rattle.validate.proofs.Rises.{falls_by}
use native.Mathlib.Omega.{arith}
use Rattle.validate.proofs.rise.falls_at.Goals as goal

pub overflow_add-k : goal.overflow_add-k
overflow_add-k c = omega (arith, packed_few c.requires.0)

pub returns : goal.returns
unfolding falls number_in
returns c = rw (← c.inside-low.ensures.value, ← c.inside-high.ensures.value) (falls_by _ _ _ c.requires.1)
