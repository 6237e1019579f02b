-- `child_start` gives the sum of the child counts before a node, and 1.
use borrow.Author.Rules.{rules}
use native.Mathlib.Omega.{arith}
use Rattle.image.specs.Record.{child_start, child_count}
use Rattle.validate.proofs.tree.child_start.Goals as goal

pub overflow_add-result : goal.overflow_add-result
overflow_add-result c = omega (arith, (c.sum_below.ensures (child_count c.args.image.now) (λ k r lt p. search rules)).small)

pub returns : goal.returns
unfolding child_start
returns c =
    let t = c.sum_below.ensures (child_count c.args.image.now) (λ k r lt p. search rules) in
    record { value = rw t.value; small = omega (arith, t.small) }
