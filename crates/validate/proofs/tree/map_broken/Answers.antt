-- The test of a Map's child by its code and its count.
-- The definition's reads are the results, and each branch answers one of its tests.
use native.Mathlib.Nat.{add-zero}
use borrow.Author.Tests.{eq-eqb, ne_eqb}
use Rattle.image.specs.Faults.{map_entries}
use Rattle.validate.proofs.tree.map_broken.Goals as goal

pub returns-then-code-ne-STRUCT : goal.returns-then-code-ne-STRUCT
unfolding map_entries
returns-then-code-ne-STRUCT c =
    let code = rw (c.child-entries.ensures.image, c.child-entries.ensures.number, add-zero) at c.code-then-code-eq-MAP.ensures.value in
    rw (← c.code.ensures.value, eq-eqb _ _ c.if-code-eq-MAP.true, ← code, ne_eqb _ _ c.if-code-ne-STRUCT.true)

pub returns-else-code-ne-STRUCT : goal.returns-else-code-ne-STRUCT
unfolding map_entries
returns-else-code-ne-STRUCT c =
    let code = rw (c.child-entries.ensures.image, c.child-entries.ensures.number, add-zero) at c.code-then-code-eq-MAP.ensures.value in
    let count = rw (c.child-entries.ensures.image, c.child-entries.ensures.number, add-zero) at c.child_count.ensures.value in
    rw (← c.code.ensures.value, eq-eqb _ _ c.if-code-eq-MAP.true, ← code, eq-eqb _ _ c.if-code-ne-STRUCT.false, ← count)
