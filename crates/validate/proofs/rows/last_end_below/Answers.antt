-- `last_end_below` tells whether the last run end lies below e, or there is none where e is not 0.
-- The last run end is read as the definition reads it.
use mathlib.Core.Path.{◌∙◌}
use native.Mathlib.Nat.{add-zero}
use Rattle.image.proofs.RunEnds.{ends_at}
use borrow.Author.Tests.{eq-eqb, ne_eqb}
use Rattle.image.specs.Faults.{last_end_below}
use Rattle.validate.proofs.rows.last_end_below.Goals as goal

pub returns-then-count-eq0 : goal.returns-then-count-eq0
unfolding last_end_below
returns-then-count-eq0 c =
    let rows = rw (c.child.ensures.image, c.child.ensures.number, add-zero) at c.length-count.ensures.value in
    rw (← rows, eq-eqb _ _ c.if-count-eq0.true, ← c.elements-e.ensures.value)

pub returns : goal.returns
unfolding last_end_below
returns c =
    let end = rw c.ends.ensures.bytes at c.at.ensures.value ∙ ends_at _ _ _ _ c.ends.ensures in
    let rows = rw (c.child.ensures.image, c.child.ensures.number, add-zero) at c.length-count.ensures.value in
    rw (← rows, ne_eqb _ _ c.if-count-eq0.false, ← c.elements-e.ensures.value, ← end)
