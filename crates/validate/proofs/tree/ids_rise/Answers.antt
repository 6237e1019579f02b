-- `ids_rise` tells whether the type ids of a node's children rise.
-- The loop keeps what is left of the rise; each turn takes one id off, which a test has told to be in its bounds.
use mathlib.Core.Path.{◌∙◌}
use Rattle.image.specs.Faults.{ids_rise}
use Rattle.image.proofs.Loops.{rising_more, rising_below, rising_above, rising_done}
use Rattle.validate.proofs.tree.ids_rise.Goals as goal
use Rattle.validate.proofs.tree.ids_rise.Goals.{then-id-least-via-then-id-least, then-id-least-via-else-id-least+then-id-gt-LARGEST_ID}

pub returns-then-id-least : goal.returns-then-id-least
unfolding ids_rise
returns-then-id-least c =
    let read = rw (c.child.ensures.image, c.child.ensures.number) at c.type_id.ensures.value in
    rw (← c.child_count-c-end.ensures.value)
    (elim c.then-id-least.branch [
      | then-id-least-via-then-id-least w ↦ rising_below _ _ _ _ _ _ _ _ _ c.loop-c-test.true c.loop-c.invariant (c.from-id.ensures ∙ read) w.if-id-least.true
      | then-id-least-via-else-id-least+then-id-gt-LARGEST_ID w ↦ rising_above _ _ _ _ _ _ _ _ _ c.loop-c-test.true c.loop-c.invariant (c.from-id.ensures ∙ read) w.if-id-least.false w.if-id-gt-LARGEST_ID.true
    ])

pub loop-c-preserved : goal.loop-c-preserved
loop-c-preserved c =
    let read = rw (c.child.ensures.image, c.child.ensures.number) at c.type_id.ensures.value in
    rising_more _ _ _ _ _ _ _ _ _ c.loop-c-test.true c.loop-c.invariant (c.from-id.ensures ∙ read) c.if-id-least.false c.if-id-gt-LARGEST_ID.false

pub returns : goal.returns
unfolding ids_rise
returns c = rw (← c.child_count-c-end.ensures.value) (rising_done _ _ _ _ _ _ _ _ c.loop-c-test.false c.loop-c.invariant)
