-- `names_end` answers where the names end.
-- The loop keeps where the name of node k would stand, and that it is near.
use Rattle.laws.proofs.Accepted.{accepted}
use Rattle.builder.proofs.Planning.{names_start, names_more}
use Rattle.builder.proofs.plan.Plan.names_end.Goals as goal

pub loop-k-init : goal.loop-k-init
loop-k-init c = names_start _ (accepted _ c.args.self.now.accepted).tables c.tables_end-end.ensures.value

pub loop-k-preserved : goal.loop-k-preserved
loop-k-preserved c = names_more c.loop-k.invariant (rw (c.node.ensures.image, c.node.ensures.number) at c.name_length-end.ensures)
