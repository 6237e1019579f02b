-- `eight` gives the number of the eight bytes at a place.
-- The eight bytes, written out, are the number's.
use Rattle.image.proofs.Numbers.{number_eight}
use native.Mathlib.Omega.{arith}
use Rattle.image.proofs.bytes.eight.Goals as goal

pub returns : goal.returns
returns c = rw number_eight (omega (arith, c.from_le_bytes.ensures))
