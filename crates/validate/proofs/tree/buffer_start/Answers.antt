-- `buffer_start` gives the sum of the buffer counts before a node.
use borrow.Author.Rules.{rules}
use native.Mathlib.Omega.{arith}
use Rattle.image.specs.Record.{buffer_start, buffer_count}
use Rattle.validate.proofs.tree.buffer_start.Goals as goal

pub returns : goal.returns
unfolding buffer_start
returns c =
    let t = c.sum_below.ensures (buffer_count c.args.image.now) (λ k r lt p. search rules) in
    record { value = t.value; small = omega (arith, t.small) }
