-- `ends_nonzero` tells whether a byte is not zero.
-- The first number and the last cover all bytes.
use mathlib.Core.Path.{ap, ◌∙◌}
use mathlib.Core.Bool.{not}
use borrow.Author.Tests.{ne_eqb}
use Rattle.validate.proofs.Padding.{front_nonzero, back_nonzero}
use Rattle.validate.proofs.rows.ends_nonzero.Goals as goal

pub returns-then-load-ne0 : goal.returns-then-load-ne0
returns-then-load-ne0 g c = ap not (ne_eqb _ 0 c.if-load-ne0.true) ∙ front_nonzero _ _ c.requires.1 c.load.ensures.value c.if-load-ne0.true

pub returns-else-load-ne0 : goal.returns-else-load-ne0
returns-else-load-ne0 g c = back_nonzero _ _ c.requires.1 c.load.ensures.value c.requires.2 c.if-load-ne0.false c.load-else-load-ne0.ensures.value
