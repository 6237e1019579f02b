-- `put_boolean` gives a node a Boolean.
-- The bit of the bitmap is set, and that of the value where it is 1.
use borrow.Author.Rules.{rules}
use mathlib.Core.Path.{◌≡◌, ◌∙◌}
use native.Mathlib.Omega.{arith}
use Rattle.fill.proofs.Bytes.{bit_there, bit_over}
use Rattle.fill.proofs.Parts.{state_sized}
use Rattle.fill.proofs.Events.{node_small, bit_requires, count_requires, value_requires, true_filled, false_filled}
use Rattle.fill.proofs.put.Filling.put_boolean.Goals as goal

pub spot_of-spot-requires : goal.spot_of-spot-requires
spot_of-spot-requires c = node_small c.requires.getting

pub set_bit-requires : goal.set_bit-requires
set_bit-requires c = let both = bit_there _ _ _ (bit_requires c.requires.getting c.spot_of-spot.ensures (rw c.requires.layout)) in record { j_in_bounds = both.0; j_bound = both.1 }

pub count_row-requires : goal.count_row-requires
count_row-requires c = count_requires c.requires.getting c.spot_of-spot.ensures

pub set_bit-requires-then-x-eq1 : goal.set_bit-requires-then-x-eq1
set_bit-requires-then-x-eq1 c = let both = bit_there _ _ _ (value_requires c.requires.getting c.spot_of-spot.ensures c.requires.layout (c.count_row.ensures.out ∙ bit_over _ _ _ c.set_bit.ensures)) in record { j_in_bounds = both.0; j_bound = both.1 }

pub returns-then-x-eq1 : goal.returns-then-x-eq1
returns-then-x-eq1 c = record { same = search rules; filled = rw c.if-x-eq1.true (true_filled c.requires.getting c.spot_of-spot.ensures c.requires.layout (state_sized c.args.self.now (omega (arith, c.well_formed))) (c.count_row.ensures.out ∙ bit_over _ _ _ c.set_bit.ensures) (bit_over _ _ _ c.set_bit-then-x-eq1.ensures) (c.count_row.ensures.rows, c.count_row.ensures.spans)) }

pub returns-else-x-eq1 : goal.returns-else-x-eq1
returns-else-x-eq1 c = record { same = search rules; filled = let zero_bit : c.args.x ≡ 0 = omega (arith, c.requires.x_bound, c.if-x-eq1.false) in rw zero_bit (false_filled c.requires.getting c.spot_of-spot.ensures c.requires.layout (state_sized c.args.self.now (omega (arith, c.well_formed))) (c.count_row.ensures.out ∙ bit_over _ _ _ c.set_bit.ensures) (c.count_row.ensures.rows, c.count_row.ensures.spans)) }
