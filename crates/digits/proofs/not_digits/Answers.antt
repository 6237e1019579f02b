-- `not_digits` tells whether the comparison at fewer digits is refused by 22.
-- By the tests on the way.
use mathlib.Core.Path.{ap, ◌∙◌}
use mathlib.Core.Bool.{not}
use borrow.Author.Tests.{eq-eqb}
use Rattle.digits.proofs.Agreeing.{too_many_lem, is_decimal32, else_decimal64}
use Rattle.digits.proofs.not_digits.Goals as goal

pub returns-then-digits-gt-MOST_DIGITS : goal.returns-then-digits-gt-MOST_DIGITS
returns-then-digits-gt-MOST_DIGITS c = too_many_lem _ _ c.if-digits-gt-MOST_DIGITS.true

pub returns-then-root-ne-DECIMAL32 : goal.returns-then-root-ne-DECIMAL32
returns-then-root-ne-DECIMAL32 c = else_decimal64 _ _ c.if-digits-gt-MOST_DIGITS.false (rw (c.root.ensures.image, c.root.ensures.number) at c.code-root.ensures) c.if-root-ne-DECIMAL32.true

pub returns-else-root-ne-DECIMAL32 : goal.returns-else-root-ne-DECIMAL32
returns-else-root-ne-DECIMAL32 c = ap not (eq-eqb _ _ c.if-root-ne-DECIMAL32.false) ∙ is_decimal32 _ _ c.if-digits-gt-MOST_DIGITS.false (rw (c.root.ensures.image, c.root.ensures.number) at c.code-root.ensures) c.if-root-ne-DECIMAL32.false
