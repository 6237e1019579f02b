-- `put_struct` gives a node a row of a Struct.
-- Its bit is set and its count goes on; the other parts are empty.
use borrow.Author.Rules.{rules}
use mathlib.Core.Path.{◌∙◌}
use native.Mathlib.Omega.{arith}
use Rattle.fill.proofs.Bytes.{bit_there, bit_over}
use Rattle.fill.proofs.Parts.{state_sized}
use Rattle.fill.proofs.Events.{node_small, bit_requires, count_requires, struct_filled}
use Rattle.fill.proofs.put.Filling.put_struct.Goals as goal

pub spot_of-spot-requires : goal.spot_of-spot-requires
spot_of-spot-requires c = node_small c.requires.getting

pub set_bit-requires : goal.set_bit-requires
set_bit-requires c = let both = bit_there _ _ _ (bit_requires c.requires.getting c.spot_of-spot.ensures (rw c.requires.layout)) in record { j_in_bounds = both.0; j_bound = both.1 }

pub count_row-requires : goal.count_row-requires
count_row-requires c = count_requires c.requires.getting c.spot_of-spot.ensures

pub returns : goal.returns
returns c = record { same = search rules; filled = struct_filled c.requires.getting c.spot_of-spot.ensures c.requires.layout (state_sized c.args.self.now (omega (arith, c.well_formed))) (c.count_row.ensures.out ∙ bit_over _ _ _ c.set_bit.ensures) (c.count_row.ensures.rows, c.count_row.ensures.spans) }
