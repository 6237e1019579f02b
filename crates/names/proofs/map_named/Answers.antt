-- The answer is whether a Map's entries, key and value have their names, in turn.
-- By what the callees give; the fixed bytes are those of the three texts.
use native.Mathlib.Nat.{add-zero}
use borrow.Author.Tests.{eq-eqb, ne_eqb}
use Rattle.image.specs.Bytes.{ascii}
use Rattle.image.specs.MapNames.{named, map_named}
use Rattle.names.proofs.map_named.Goals as goal

pub returns-then-code-ne-MAP : goal.returns-then-code-ne-MAP
unfolding map_named named ascii
returns-then-code-ne-MAP c = rw (← c.code.ensures.value, ne_eqb _ 42 c.if-code-ne-MAP.true)

pub returns-then-not-is_named : goal.returns-then-not-is_named
unfolding map_named named ascii
returns-then-not-is_named c =
    let entries = rw (c.child-entries.ensures.image, c.child-entries.ensures.number, add-zero) at c.is_named.ensures in
    rw (← c.code.ensures.value, eq-eqb _ 42 c.if-code-ne-MAP.false, ← entries, c.if-not-is_named.true)

pub returns-then-not-is_named-2 : goal.returns-then-not-is_named-2
unfolding map_named named ascii
returns-then-not-is_named-2 c =
    let entries = rw (c.child-entries.ensures.image, c.child-entries.ensures.number, add-zero) at c.is_named.ensures in
    let key = rw (c.child.ensures.image, c.child.ensures.number, c.child-entries.ensures.image, c.child-entries.ensures.number, add-zero, add-zero) at c.is_named-2.ensures in
    rw (← c.code.ensures.value, eq-eqb _ 42 c.if-code-ne-MAP.false, ← entries, c.if-not-is_named.false, ← key, c.if-not-is_named-2.true)

pub returns : goal.returns
unfolding map_named named ascii
returns c =
    let entries = rw (c.child-entries.ensures.image, c.child-entries.ensures.number, add-zero) at c.is_named.ensures in
    let key = rw (c.child.ensures.image, c.child.ensures.number, c.child-entries.ensures.image, c.child-entries.ensures.number, add-zero, add-zero) at c.is_named-2.ensures in
    let value = rw (c.child-2.ensures.image, c.child-2.ensures.number, c.child-entries.ensures.image, c.child-entries.ensures.number, add-zero) at c.is_named-3.ensures in
    rw (← c.code.ensures.value, eq-eqb _ 42 c.if-code-ne-MAP.false, ← entries, c.if-not-is_named.false, ← key, c.if-not-is_named-2.false, ← value)
