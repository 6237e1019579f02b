-- `set_bit` puts the byte with the bit over the old one.
-- The bits of the byte from this one on are 0, so that the bit is added.
use Prim.Native.Nat.{◌/◌}
use Rattle.rows.proofs.Over.{over_one}
use Rattle.fill.proofs.BitsSet.{bit_added}
use Rattle.fill.proofs.put.set_bit.Goals as goal

pub returns : goal.returns
returns c = rw (bit_added _ c.args.j c.requires.j_bound) (over_one c.args.bits.now (c.args.j / 8) _ c.requires.j_in_bounds)
