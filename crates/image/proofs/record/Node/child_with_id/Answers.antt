-- `Node::child_with_id` finds the child that has the type id.
-- A turn looks at one child, by its type id.
use native.Mathlib.Omega.{arith}
use Rattle.image.proofs.Loops.{first_more, first_found, first_done}
use Rattle.image.proofs.ChildTable.{has_it, has_not, named_some, named_none}
use Rattle.image.proofs.record.Node.child_with_id.Goals as goal

pub returns-then-type_id-id : goal.returns-then-type_id-id
returns-then-type_id-id c =
    let read = rw (c.other-child.ensures.image, c.other-child.ensures.number, c.first_child-first.ensures.value) at c.type_id.ensures in
    let lt = rw c.child_count-c-end.ensures.value at c.loop-c-test.true in
    named_some _ _ _ _ (rw c.first_child-first.ensures.value at c.other-child.ensures.number) lt (omega (arith, c.other-child.ensures.number, c.first_child-first.ensures.small, c.child_count-c-end.ensures.small, c.loop-c-test.true))
    (first_found _ _ _ _ lt c.loop-c.invariant (has_it _ _ _ read c.if-type_id-id.true))

pub loop-c-preserved : goal.loop-c-preserved
loop-c-preserved c =
    let read = rw (c.other-child.ensures.image, c.other-child.ensures.number, c.first_child-first.ensures.value) at c.type_id.ensures in
    first_more _ _ _ _ (rw c.child_count-c-end.ensures.value at c.loop-c-test.true) c.loop-c.invariant (has_not _ _ _ read c.if-type_id-id.false)

pub returns : goal.returns
returns c = named_none _ _ _ (first_done _ _ _ _ (rw c.child_count-c-end.ensures.value at c.loop-c-test.false) c.loop-c.invariant)
