-- `put_names` puts the names of all nodes.
-- The loop keeps the names that are still to be put.
use mathlib.Core.Path.{◌∙◌}
use Rattle.laws.proofs.Accepted.{accepted}
use Rattle.rows.proofs.Over.{pieces_place, pieces_done}
use Rattle.builder.proofs.Fields.{piece_fits, piece_put}
use native.Mathlib.Omega.{arith}
use Rattle.builder.proofs.plan.Plan.put_names.Goals as goal

pub put_name-requires : goal.put_name-requires
put_name-requires c = rw (c.node.ensures.image, c.node.ensures.number) (record { named = ((accepted _ c.args.self.now.accepted).node c.loop-k.k (omega (arith, c.loop-k-test.true, c.node_count-k-end.ensures.value))).named; fits = piece_fits c.loop-k.invariant.1 (omega (arith, c.loop-k-test.true, c.node_count-k-end.ensures.value)) })

pub loop-k-preserved : goal.loop-k-preserved
loop-k-preserved c =
    let name = rw (c.node.ensures.image, c.node.ensures.number) at c.put_name.ensures in
    (c.put_name.ensures.lent ∙ c.loop-k.invariant.0, piece_put c.loop-k.invariant.1 (omega (arith, c.loop-k-test.true, c.node_count-k-end.ensures.value)) (name.at, name.bytes))

pub returns : goal.returns
returns c = record { lent = c.loop-k.invariant.0; long = c.loop-k.invariant.1.put.long; at = pieces_place c.loop-k.invariant.1 (omega (arith, c.loop-k-test.false, c.node_count-k-end.ensures.value)); bytes = pieces_done c.loop-k.invariant.1 (omega (arith, c.loop-k-test.false, c.node_count-k-end.ensures.value)) }
