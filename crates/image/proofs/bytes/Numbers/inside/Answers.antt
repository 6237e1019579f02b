-- `Numbers::inside` gives number j of those that lie side by side inside.
-- The last byte of number j is the last of the first j + 1 numbers; a width that is none of the others is 1.
use native.Mathlib.Omega.{arith}
use Rattle.image.proofs.Numbers.{packed_last, width_some, width_one, read_as}
use Rattle.image.proofs.bytes.Numbers.inside.Goals as goal

pub load-requires-in_default : goal.load-requires-in_default
load-requires-in_default c = (omega arith, omega (arith, packed_last c.args.j c.requires, width_some c.args.self.width c.requires.width))

pub returns-in_default : goal.returns-in_default
returns-in_default c = read_as _ _ (width_one c.requires.width (λ e. omega (arith, e)) (λ e. omega (arith, e)) (λ e. omega (arith, e))) c.load-in_default.ensures
