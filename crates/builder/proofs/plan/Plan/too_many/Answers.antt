-- `too_many` answers whether a node has too many rows.
-- The lengths that are lent are those of the nodes.
use native.Mathlib.Omega.{arith}
use lib.Dec.{ltb}
use Rattle.image.specs.Record.{most_elements}
use Rattle.builder.proofs.Planning.{any_listed}
use Rattle.builder.specs.Plan.{too_many}
use Rattle.builder.proofs.plan.Plan.too_many.Goals as goal

pub returns : goal.returns
unfolding too_many
returns c = rw (c.any_above.ensures, c.node_count.ensures.value) (any_listed (ltb most_elements) c.args.self.now.lengths 0 _ (omega (arith, c.args.self.now.few)))
