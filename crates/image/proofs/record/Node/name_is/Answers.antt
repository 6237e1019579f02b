-- The answer is whether the name is those bytes.
-- Another length is a no; else the loop keeps that the bytes from byte k on decide.
use mathlib.Core.Path.{sym, ◌∙◌}
use native.Mathlib.Omega.{arith}
use native.Mathlib.Nat.{zero-add}
use borrow.Author.Tests.{eq-eqb, ne_eqb}
use Rattle.image.proofs.Loops.{every_more, every_fails, every_done}
use Rattle.image.proofs.NameBytes.{name_differs, name_bytes}
use Rattle.image.proofs.record.Node.name_is.Goals as goal

pub returns-then-name_length-n : goal.returns-then-name_length-n
returns-then-name_length-n c = name_differs _ _ _ _ _ _ c.name_length.ensures.value (λ e. omega (arith, e, c.if-name_length-n.true))

pub returns-then-byte : goal.returns-then-byte
returns-then-byte c =
    every_fails _ _ _ _ c.loop-k-test.true c.loop-k.invariant
    (rw (zero-add) (ne_eqb _ _ (λ e. c.if-byte.true (c.byte.ensures.value ∙ e ∙ sym c.byte-in-loop-k.ensures.value))))
    ∙ name_bytes _ _ _ _ _ _ c.name_length.ensures.value _ (omega (arith, c.if-name_length-n.false)) c.name_place-place.ensures.value

pub loop-k-preserved : goal.loop-k-preserved
loop-k-preserved c = every_more _ _ _ _ c.loop-k-test.true c.loop-k.invariant (rw (zero-add) (eq-eqb _ _ (sym c.byte.ensures.value ∙ c.if-byte.false ∙ c.byte-in-loop-k.ensures.value)))

pub returns : goal.returns
returns c = every_done _ _ _ _ c.loop-k-test.false c.loop-k.invariant ∙ name_bytes _ _ _ _ _ _ c.name_length.ensures.value _ (omega (arith, c.if-name_length-n.false)) c.name_place-place.ensures.value
