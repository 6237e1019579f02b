-- `image::bytes::bit` meets its contract.
-- The definition is rewritten by what the calls ensure and by the tests on the way.
use Rattle.image.proofs.Numbers.{bit_past}
use Rattle.image.specs.Bytes.{bit_at}
use native.Mathlib.Omega.{arith}
use Rattle.image.proofs.bytes.bit.Goals as goal

pub returns-in_default : goal.returns-in_default
returns-in_default c = bit_past c.args.s.now c.args.place c.args.j (omega (arith, c.in_default.ensures, c.well_formed))

pub returns : goal.returns
unfolding bit_at
returns c = rw (c.from.ensures, c.byte.ensures.value, c.in-Some.ensures.1)
