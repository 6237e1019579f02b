-- `put_entries` puts the entries of a node.
-- The loop keeps the entries that are still to be put.
use mathlib.Core.Path.{refl, ◌∙◌}
use Rattle.builder.proofs.Fronts.{few_buffers}
use Rattle.laws.proofs.Accepted.{accepted}
use Rattle.rows.proofs.Over.{pieces_start, pieces_fit, pieces_more, pieces_place, pieces_done}
use Rattle.builder.specs.Front.{entries_from}
use native.Mathlib.Omega.{arith}
use Rattle.builder.proofs.plan.Plan.put_entries.Goals as goal

pub loop-j-init : goal.loop-j-init
unfolding entries_from
loop-j-init c = (refl, pieces_start _ _ _ c.requires.fits)

pub put_entry-requires : goal.put_entry-requires
put_entry-requires c =
    let n = rw (c.node.ensures.image, c.node.ensures.number) at c.buffer_count-n.ensures.value in
    record { part = omega (arith, c.requires.node, few_buffers _ (accepted _ c.args.self.now.accepted) c.args.self.now.coded _ c.requires.node, c.loop-j-test.true, n); fits = pieces_fit c.loop-j.invariant.1 (omega (arith, c.loop-j-test.true, n)) }

pub loop-j-preserved : goal.loop-j-preserved
loop-j-preserved c =
    let n = rw (c.node.ensures.image, c.node.ensures.number) at c.buffer_count-n.ensures.value in
    (c.put_entry.ensures.lent ∙ c.loop-j.invariant.0, pieces_more c.loop-j.invariant.1 (omega (arith, c.loop-j-test.true, n)) c.put_entry.ensures.bytes c.put_entry.ensures.at)

pub returns : goal.returns
unfolding entries_from
returns c =
    let n = rw (c.node.ensures.image, c.node.ensures.number) at c.buffer_count-n.ensures.value in
    record { lent = c.loop-j.invariant.0; long = c.loop-j.invariant.1.put.long; at = pieces_place c.loop-j.invariant.1 (omega (arith, c.loop-j-test.false, n)); bytes = pieces_done c.loop-j.invariant.1 (omega (arith, c.loop-j-test.false, n)) }
