-- The next byte begins past one space, if something follows it.
-- By how many characters are left, and whether the first is a space.
use mathlib.Core.Path.{sym, ◌∙◌}
use native.Mathlib.Omega.{arith}
use borrow.Author.Rules.{rules}
use borrow.Author.Tests.{eqb-true, eqb-false}
use lib.ListN.{length-take, length-drop}
use Rattle.session.proofs.Lines.{next_few, next_space, next_other}
use Rattle.session.proofs.line.after_byte.Goals as goal

pub returns-in-32 : goal.returns-in-32
returns-in-32 c = next_space _ c.in-32.len_at_least (search rules) (omega (arith, eqb-false _ _ (sym c.is_empty.ensures ∙ c.if-not-is_empty.true)))

pub returns-in_default : goal.returns-in_default
returns-in_default c = next_few _ (omega (arith, c.in_default.len_below))

pub returns-in_default-2 : goal.returns-in_default-2
returns-in_default-2 c =
    let none = eqb-true _ _ (sym c.is_empty.ensures ∙ c.if-not-is_empty.false) in
    next_few _ (omega (arith, simp (length-take, length-drop) at none, c.in-32.len_at_least))

pub returns-in_default-3 : goal.returns-in_default-3
returns-in_default-3 c = next_other _ c.in_default.len_at_least (search rules)
