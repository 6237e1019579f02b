-- The answer is whether each node that is a Map has its names.
-- By what the callee gives of each node.
use borrow.Author.Rules.{rules}
use Rattle.image.specs.MapNames.{map_named, maps_named}
use Rattle.names.proofs.maps_named.Goals as goal

pub returns : goal.returns
unfolding maps_named
returns c = c.all_nodes.ensures (map_named c.args.image.now) (λ k b lt p. search rules)
