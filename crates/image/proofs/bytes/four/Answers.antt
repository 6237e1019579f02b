-- `four` gives the number of the four bytes at a place.
-- The four bytes, written out, are the number's.
use Rattle.image.proofs.Numbers.{number_four}
use native.Mathlib.Omega.{arith}
use Rattle.image.proofs.bytes.four.Goals as goal

pub returns : goal.returns
returns c = rw number_four (omega (arith, c.from_le_bytes.ensures))
