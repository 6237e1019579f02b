-- `put_fixed` gives a node a value of a fixed width.
-- Its bit is set, and its bytes stand behind those of the rows before.
use borrow.Author.Rules.{rules}
use mathlib.Core.Path.{refl, ◌∙◌}
use native.Mathlib.Omega.{arith}
use Rattle.rows.proofs.Over.{part_over}
use Rattle.fill.proofs.Bytes.{bit_there, bit_over}
use Rattle.fill.proofs.Parts.{state_sized}
use Rattle.fill.proofs.Events.{node_small, bit_requires, count_requires, fixed_filled}
use Rattle.fill.proofs.put.Filling.put_fixed.Goals as goal

pub spot_of-spot-requires : goal.spot_of-spot-requires
spot_of-spot-requires c = node_small c.requires.getting

pub set_bit-requires : goal.set_bit-requires
set_bit-requires c = let both = bit_there _ _ _ (bit_requires c.requires.getting c.spot_of-spot.ensures (rw c.requires.layout)) in record { j_in_bounds = both.0; j_bound = both.1 }

pub count_row-requires : goal.count_row-requires
count_row-requires c = count_requires c.requires.getting c.spot_of-spot.ensures

pub returns : goal.returns
returns c = record { same = search rules; filled = fixed_filled c.requires.getting c.spot_of-spot.ensures c.requires.layout c.requires.width (state_sized c.args.self.now (omega (arith, c.well_formed))) _ refl (bit_over _ _ _ c.set_bit.ensures) (c.count_row.ensures.out ∙ part_over _ _ _ c.copy_bytes.ensures.after) (c.count_row.ensures.rows, c.count_row.ensures.spans) }
