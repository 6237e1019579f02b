-- `put_records` puts the records of all nodes.
-- The loop keeps the records that are still to be put, and where the next name would stand.
use mathlib.Core.Path.{refl, ◌∙◌}
use Rattle.laws.proofs.Accepted.{accepted}
use Rattle.rows.proofs.Over.{pieces_start, pieces_place, pieces_done}
use Rattle.builder.proofs.Fields.{piece_fits, piece_put}
use Rattle.builder.proofs.Planning.{names_start, names_more}
use native.Mathlib.Omega.{arith}
use Rattle.builder.proofs.plan.Plan.put_records.Goals as goal

pub loop-k-init : goal.loop-k-init
loop-k-init c = (refl, (pieces_start _ _ _ c.requires, names_start _ (accepted _ c.args.self.now.accepted).tables c.tables_end-name.ensures.value))

pub put_record-requires : goal.put_record-requires
put_record-requires c = record { node = omega (arith, c.loop-k-test.true, c.node_count-k-end.ensures.value); name = c.loop-k.invariant.1.1.start; fits = piece_fits c.loop-k.invariant.1.0 (omega (arith, c.loop-k-test.true, c.node_count-k-end.ensures.value)) }

pub loop-k-preserved : goal.loop-k-preserved
loop-k-preserved c = (c.put_record.ensures.lent ∙ c.loop-k.invariant.0, (piece_put c.loop-k.invariant.1.0 (omega (arith, c.loop-k-test.true, c.node_count-k-end.ensures.value)) (c.put_record.ensures.at, c.put_record.ensures.bytes), names_more c.loop-k.invariant.1.1 (rw (c.node.ensures.image, c.node.ensures.number) at c.name_length-name.ensures)))

pub returns : goal.returns
returns c = record { lent = c.loop-k.invariant.0; long = c.loop-k.invariant.1.0.put.long; at = pieces_place c.loop-k.invariant.1.0 (omega (arith, c.loop-k-test.false, c.node_count-k-end.ensures.value)); bytes = pieces_done c.loop-k.invariant.1.0 (omega (arith, c.loop-k-test.false, c.node_count-k-end.ensures.value)) }
