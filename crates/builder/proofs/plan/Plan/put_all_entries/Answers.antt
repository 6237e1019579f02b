-- `put_all_entries` puts the entries of all nodes.
-- The loop keeps the entries that are still to be put.
use mathlib.Core.Path.{◌∙◌}
use Rattle.rows.proofs.Over.{pieces_place, pieces_done}
use Rattle.builder.proofs.Fields.{piece_fits, piece_put}
use native.Mathlib.Omega.{arith}
use Rattle.builder.proofs.plan.Plan.put_all_entries.Goals as goal

pub put_entries-requires : goal.put_entries-requires
put_entries-requires c = record { node = omega (arith, c.loop-k-test.true, c.node_count-k-end.ensures.value); fits = piece_fits c.loop-k.invariant.1 (omega (arith, c.loop-k-test.true, c.node_count-k-end.ensures.value)) }

pub loop-k-preserved : goal.loop-k-preserved
loop-k-preserved c = (c.put_entries.ensures.lent ∙ c.loop-k.invariant.0, piece_put c.loop-k.invariant.1 (omega (arith, c.loop-k-test.true, c.node_count-k-end.ensures.value)) (c.put_entries.ensures.at, c.put_entries.ensures.bytes))

pub returns : goal.returns
returns c = record { lent = c.loop-k.invariant.0; long = c.loop-k.invariant.1.put.long; at = pieces_place c.loop-k.invariant.1 (omega (arith, c.loop-k-test.false, c.node_count-k-end.ensures.value)); bytes = pieces_done c.loop-k.invariant.1 (omega (arith, c.loop-k-test.false, c.node_count-k-end.ensures.value)) }
