-- The test of run ends by their code and their bitmap.
-- The definition's reads are the results, and each branch answers one of its tests.
use mathlib.Core.Path.{sym}
use mathlib.Core.Bool.{not-not}
use native.Mathlib.Nat.{add-zero}
use borrow.Author.Tests.{eq-eqb, le-leb, lt-leb}
use Rattle.image.specs.Faults.{run_ends}
use Rattle.validate.proofs.tree.runs_broken.Goals as goal

pub returns-then-c-lt-INT16 : goal.returns-then-c-lt-INT16
unfolding run_ends
returns-then-c-lt-INT16 c =
    let code = rw (c.child-ends.ensures.image, c.child-ends.ensures.number, add-zero) at c.code-c.ensures.value in
    rw (← c.code.ensures.value, eq-eqb _ _ c.if-code-ne-RUN_END_ENCODED.false, ← code, lt-leb _ _ c.if-c-lt-INT16.true)

pub returns-then-c-gt-INT64 : goal.returns-then-c-gt-INT64
unfolding run_ends
returns-then-c-gt-INT64 c =
    let code = rw (c.child-ends.ensures.image, c.child-ends.ensures.number, add-zero) at c.code-c.ensures.value in
    rw (← c.code.ensures.value, eq-eqb _ _ c.if-code-ne-RUN_END_ENCODED.false, ← code, le-leb _ _ c.if-c-lt-INT16.false, lt-leb _ _ c.if-c-gt-INT64.true)

pub returns : goal.returns
unfolding run_ends
returns c =
    let code = rw (c.child-ends.ensures.image, c.child-ends.ensures.number, add-zero) at c.code-c.ensures.value in
    let bitmap = rw (c.child-ends.ensures.image, c.child-ends.ensures.number, add-zero) at c.has_bitmap.ensures in
    rw (← c.code.ensures.value, eq-eqb _ _ c.if-code-ne-RUN_END_ENCODED.false, ← code, le-leb _ _ c.if-c-lt-INT16.false, le-leb _ _ c.if-c-gt-INT64.false, ← bitmap) (sym (not-not _))
