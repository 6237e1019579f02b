-- The number is the answer's: a refusal's parts stand above each other, and a value has 56 bits.
-- By the test, in numbers.
use mathlib.Core.Path.{refl}
use borrow.Author.Tests.{eq-eqb, ne_eqb}
use Rattle.answers.specs.Numbers.{packed}
use native.Mathlib.Omega.{arith}
use Rattle.answers.proofs.numbers.pack.Goals as goal

pub returns-then-n-eq0 : goal.returns-then-n-eq0
unfolding packed
returns-then-n-eq0 g c = rw (← c.answer_numbers-n.ensures, eq-eqb _ _ c.if-n-eq0.true) refl

pub returns : goal.returns
unfolding packed
returns g c = rw (← c.answer_numbers-n.ensures, ne_eqb _ _ c.if-n-eq0.false) (omega arith)
