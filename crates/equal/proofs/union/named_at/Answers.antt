-- `named_at` finds the children that two type ids name.
-- They stand at the place among the children at which the left one was found.
use mathlib.Core.Path.{sym, ◌∙◌}
use native.Mathlib.Omega.{arith}
use Rattle.std.proofs.lemmas.Option.{same_Some}
use Rattle.equal.proofs.Unions.{named_above}
use Rattle.equal.proofs.union.named_at.Goals as goal

pub overflow_sub-result : goal.overflow_sub-result
overflow_sub-result c = omega (arith, c.requires, c.in_ok-child.ensures.found.value, named_above c.args.pair.now.left.image.now c.args.pair.now.left.number c.byte-id.result)

pub returns-clause-named : goal.returns-clause-named
returns-clause-named c =
    record {
      ids = sym c.byte-id.ensures.value ∙ c.if-id-byte.false ∙ c.byte.ensures.value;
      named = rw (← c.byte-id.ensures.value) (record { within = rw (← c.in_ok-child.ensures.found.value) c.in_ok-child.ensures.within; same = rw (c.in_ok-child.ensures.found.value, c.requires) });
    }

pub returns-clause-near : goal.returns-clause-near
returns-clause-near c = λ k e. let same = same_Some _ _ e in omega (arith, same, c.in_ok-child.ensures.found.small)

pub returns-then-id-byte-clause-named : goal.returns-then-id-byte-clause-named
returns-then-id-byte-clause-named c = λ e. absurd (c.if-id-byte.true (c.byte-id.ensures.value ∙ e ∙ sym c.byte.ensures.value))
