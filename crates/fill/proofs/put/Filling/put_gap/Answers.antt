-- `put_gap` gives a node the row under a null.
-- Nothing is put but the end of an empty text or list.
use borrow.Author.Rules.{rules}
use mathlib.Core.Path.{◌∙◌}
use native.Mathlib.Omega.{arith}
use Rattle.fill.proofs.Parts.{state_sized}
use Rattle.fill.proofs.Events.{node_small, count_requires, end_requires, has_told, has_not, gap_ended, gap_plain}
use Rattle.fill.proofs.put.Filling.put_gap.Goals.{then-has_offsets, else-has_offsets}
use Rattle.fill.proofs.put.Filling.put_gap.Goals as goal

pub spot_of-spot-requires : goal.spot_of-spot-requires
spot_of-spot-requires c = node_small c.requires

pub put_end-requires : goal.put_end-requires
put_end-requires c = let both = end_requires c.requires c.spot_of-spot.ensures (has_told c.args.node.image.now c.args.node.number c.has_offsets.ensures c.layout.ensures c.if-has_offsets.true) in record { row_bound = both.0; node_in_bounds = both.1 }

pub count_row-requires : goal.count_row-requires
count_row-requires c = count_requires c.requires c.spot_of-spot.ensures

pub returns : goal.returns
returns c = record { same = search rules; filled = elim c.if-has_offsets.branch [ then-has_offsets w ↦ gap_ended c.requires c.spot_of-spot.ensures (state_sized c.args.self.now (omega (arith, c.well_formed))) (has_told c.args.node.image.now c.args.node.number c.has_offsets.ensures c.layout.ensures w.if-has_offsets.true) (rw w.self-is at c.count_row.ensures.out ∙ w.put_end.ensures) (rw w.self-is at c.count_row.ensures.rows, rw w.self-is at c.count_row.ensures.spans) | else-has_offsets w ↦ gap_plain c.requires c.spot_of-spot.ensures (state_sized c.args.self.now (omega (arith, c.well_formed))) (has_not c.args.node.image.now c.args.node.number c.has_offsets.ensures c.layout.ensures w.if-has_offsets.false) (rw w.self-is at c.count_row.ensures.out) (rw w.self-is at c.count_row.ensures.rows, rw w.self-is at c.count_row.ensures.spans) ] }
