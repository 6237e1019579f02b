-- The answer is whether rows of each node's code are read back.
-- By what the callee gives of each node.
use borrow.Author.Rules.{rules}
use Rattle.image.specs.Parse.{readable_code, readable}
use Rattle.builder.proofs.is_readable.Goals as goal

pub returns : goal.returns
unfolding readable
returns c = c.all_nodes.ensures (readable_code c.args.image.now) (λ k b lt p. search rules)
