-- `two` gives the number of the two bytes at a place.
-- The two bytes, written out, are the number's.
use Rattle.image.proofs.Numbers.{number_two}
use native.Mathlib.Omega.{arith}
use Rattle.image.proofs.bytes.two.Goals as goal

pub returns : goal.returns
returns c = rw number_two (omega (arith, c.from_le_bytes.ensures))
