-- What eight bytes and the one after them make, shifted.
-- The two parts do not overlap; laws of Words.
use Rattle.values.proofs.Words.{joined_whole, joined_split, joined_fits}
use native.Mathlib.Omega.{arith}
use Rattle.values.proofs.bits.joined.Goals as goal

pub returns-then-shift-eq0 : goal.returns-then-shift-eq0
returns-then-shift-eq0 c = joined_whole _ _ _ (omega (arith, c.ranges.low)) c.if-shift-eq0.true

pub overflow_add-result : goal.overflow_add-result
overflow_add-result c = omega (arith, joined_fits c.args.low c.from.result c.args.shift (omega (arith, c.ranges.low)) c.requires)

pub returns : goal.returns
returns c = rw c.from.ensures (joined_split _ _ _ (omega (arith, c.ranges.low)) c.requires)
