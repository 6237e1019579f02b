-- `TypeCode::integer_width` gives the width of an integer of a code.
-- The code's tests are the definition's, in its order.
use borrow.Author.Tests.{ne_eqb}
use Rattle.image.specs.TypeCode.{integer_width}
use Rattle.image.proofs.type_code.TypeCode.integer_width.Goals as goal
use Rattle.image.proofs.type_code.TypeCode.integer_width.Goals.{then-code-via-then-code, then-code-via-else-code+then-code-2, then-code-3-via-then-code-3, then-code-3-via-else-code-3+then-code-4, then-code-5-via-then-code-5, then-code-5-via-else-code-5+then-code-6}

pub returns-then-code : goal.returns-then-code
unfolding integer_width
returns-then-code c =
    elim c.then-code.branch [ then-code-via-then-code w ↦ rw w.if-code.true | then-code-via-else-code+then-code-2 w ↦ rw w.if-code-2.true ]

pub returns-then-code-3 : goal.returns-then-code-3
unfolding integer_width
returns-then-code-3 c =
    elim c.then-code-3.branch [ then-code-3-via-then-code-3 w ↦ rw w.if-code-3.true | then-code-3-via-else-code-3+then-code-4 w ↦ rw w.if-code-4.true ]

pub returns-then-code-5 : goal.returns-then-code-5
unfolding integer_width
returns-then-code-5 c =
    elim c.then-code-5.branch [ then-code-5-via-then-code-5 w ↦ rw w.if-code-5.true | then-code-5-via-else-code-5+then-code-6 w ↦ rw w.if-code-6.true ]

pub returns : goal.returns
unfolding integer_width
returns c =
    rw (ne_eqb _ _ c.if-code.false, ne_eqb _ _ c.if-code-2.false, ne_eqb _ _ c.if-code-3.false, ne_eqb _ _ c.if-code-4.false, ne_eqb _ _ c.if-code-5.false, ne_eqb _ _ c.if-code-6.false)
