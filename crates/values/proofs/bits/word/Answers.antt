-- The 64 bits from a bit on: the eight bytes at the bit's byte, and the byte after them, joined.
-- Every byte of a slice is below 256; the rest is a law of Words.
use mathlib.Core.Path.{refl}
use Rattle.values.proofs.Words.{word_joined}
use native.Mathlib.Omega.{arith}
use Rattle.values.proofs.bits.word.Goals as goal

pub returns-then-this-ne0 : goal.returns-then-this-ne0
returns-then-this-ne0 g c = word_joined _ (λ k. omega (arith, c.type_inv.s k)) _ _ c.load.ensures refl c.joined.ensures

pub returns : goal.returns
returns g c = word_joined _ (λ k. omega (arith, c.type_inv.s k)) _ _ c.le.ensures c.byte.ensures.value c.joined-2.ensures
