-- The parent tells whether the node is a union's child.
-- No other node's children hold the node.
use mathlib.Core.Path.{◌∙◌}
use borrow.Author.Tests.{le-ltb}
use Rattle.validate.proofs.Parents.{no_parent, by_parent}
use Rattle.validate.proofs.tree.Walk.is_under_union.Goals as goal

pub returns-then-self : goal.returns-then-self
returns-then-self c =
    let code = rw (c.other.ensures.image, c.other.ensures.number) at c.code.ensures.value in
    rw (c.is_union.ensures, code) (by_parent c.args.self.walks.above c.if-self.true)

pub returns-else-self : goal.returns-else-self
returns-else-self c = le-ltb _ _ c.if-self.false ∙ no_parent c.args.self.walks.above c.if-self.false
