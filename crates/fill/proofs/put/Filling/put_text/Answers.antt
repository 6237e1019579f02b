-- `put_text` gives a node a text.
-- Its bit is set, its end stands behind the offsets, and its bytes behind those of the rows before.
use borrow.Author.Rules.{rules}
use mathlib.Core.Path.{refl, ◌∙◌}
use native.Mathlib.Omega.{arith}
use Rattle.rows.proofs.Over.{part_over}
use Rattle.fill.proofs.Bytes.{bit_there, bit_over}
use Rattle.fill.proofs.Parts.{state_sized}
use Rattle.fill.proofs.Events.{node_small, bit_requires, count_requires, text_end_requires, text_filled}
use Rattle.fill.proofs.put.Filling.put_text.Goals as goal

pub spot_of-spot-requires : goal.spot_of-spot-requires
spot_of-spot-requires c = node_small c.requires.getting

pub set_bit-requires : goal.set_bit-requires
set_bit-requires c = let both = bit_there _ _ _ (bit_requires c.requires.getting c.spot_of-spot.ensures (rw c.requires.layout)) in record { j_in_bounds = both.0; j_bound = both.1 }

pub put_end-requires : goal.put_end-requires
put_end-requires c = let both = text_end_requires c.requires.getting c.spot_of-spot.ensures c.requires.layout (bit_over _ _ _ c.set_bit.ensures) in record { row_bound = both.0; node_in_bounds = both.1 }

pub count_row-requires : goal.count_row-requires
count_row-requires c = count_requires c.requires.getting c.spot_of-spot.ensures

pub returns : goal.returns
returns c = record { same = search rules; filled = text_filled c.requires.getting c.spot_of-spot.ensures c.requires.layout (state_sized c.args.self.now (omega (arith, c.well_formed))) _ refl (bit_over _ _ _ c.set_bit.ensures) c.put_end.ensures (c.count_row.ensures.out ∙ part_over _ _ _ c.copy_bytes.ensures.after) (c.count_row.ensures.rows, c.count_row.ensures.spans) }
