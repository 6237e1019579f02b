-- `Node::children_by_id` enters each child by its type id.
use mathlib.Core.Path.{◌∙◌}
use native.Mathlib.Omega.{arith}
use Rattle.image.proofs.ChildTable.{filled_none, filled_more, filled_all}
use Rattle.image.proofs.record.Node.children_by_id.Goals as goal

pub loop-c-init : goal.loop-c-init
loop-c-init c = rw c.child_count-c.ensures.value (filled_none _ _ _)

pub loop-c-preserved : goal.loop-c-preserved
loop-c-preserved c =
    let read = rw (c.other-child.ensures.image, c.other-child.ensures.number, c.first_child-first.ensures.value) at c.type_id.ensures in
    let most = rw c.child_count-c.ensures.value at c.loop-c.auto.c in
    filled_more _ _ _ _ _ _ _ c.loop-c-test.true most c.loop-c.invariant (c.from-id.ensures ∙ read.value) (omega (arith, c.from-id.ensures)) (rw c.first_child-first.ensures.value at c.other-child.ensures.number)
    (omega (arith, c.other-child.ensures.number, c.first_child-first.ensures.small, c.child_count-c.ensures.small, c.loop-c.auto.c))

pub returns : goal.returns
returns c = filled_all _ _ _ _ c.loop-c-test.false c.loop-c.invariant
