-- `part_size` answers the bytes of a part.
-- The part of the node says which of the three it is.
use borrow.Author.Tests.{ne_eqb}
use Rattle.laws.proofs.Accepted.{accepted}
use Rattle.builder.specs.Plan.{size_of, part_size}
use Rattle.builder.proofs.Sizes.{width_most}
use native.Mathlib.Omega.{arith}
use Rattle.builder.proofs.plan.Plan.part_size.Goals as goal

pub returns-in-0 : goal.returns-in-0
unfolding part_size size_of
returns-in-0 c =
    let code = rw (c.node-node.ensures.image, c.node-node.ensures.number) at c.code-code.ensures.value in
    rw (c.in-0.is, ← code) c.bitmap_size.ensures

pub first_size-requires : goal.first_size-requires
first_size-requires c = (rw (c.element_width.ensures, c.node-node.ensures.image, c.node-node.ensures.number) (width_most _ _ ((accepted _ c.args.self.now.accepted).node _ (omega (arith, c.requires.part))).known), c.requires.few)

pub returns-in-1 : goal.returns-in-1
unfolding part_size size_of
returns-in-1 c =
    let code = rw (c.node-node.ensures.image, c.node-node.ensures.number) at c.code-code.ensures.value in
    let width = rw (c.node-node.ensures.image, c.node-node.ensures.number) at c.element_width.ensures in
    rw (c.in-1.is, ← code, ← width) c.first_size.ensures

pub returns-in_default : goal.returns-in_default
unfolding part_size size_of
returns-in_default c =
    let code = rw (c.node-node.ensures.image, c.node-node.ensures.number) at c.code-code.ensures.value in
    rw (ne_eqb _ _ c.in_default.in_default-own.rest.0.1, ne_eqb _ _ c.in_default.in_default-own.rest.1, ← code) c.second_size.ensures
