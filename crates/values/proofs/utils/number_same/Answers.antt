-- `number_same` compares the bytes of one element.
-- Numbers are equal where all their bytes are; the first and the last number cover the element.
use Rattle.values.proofs.ValidElements.{two_ends}
use Rattle.values.proofs.Octets.{numbers_same}
use native.Mathlib.Omega.{arith}
use Rattle.values.proofs.utils.number_same.Goals as goal

pub returns-then-this-le4 : goal.returns-then-this-le4
returns-then-this-le4 g c = numbers_same _ _ (λ k. omega (arith, c.type_inv.a k)) (λ k. omega (arith, c.type_inv.b k)) g.row.W _ _ c.load.ensures c.load-then-this-le4.ensures

pub returns-then-this-lt8 : goal.returns-then-this-lt8
returns-then-this-lt8 g c =
    two_ends _ _ _ g.row.W 4 (omega (arith, c.if-this-le4.false)) (omega (arith, c.if-this-lt8.true))
    (numbers_same _ _ (λ k. omega (arith, c.type_inv.a k)) (λ k. omega (arith, c.type_inv.b k)) 4 _ _ c.load-then-this-lt8.ensures c.load-then-this-lt8-2.ensures)
    (numbers_same _ _ (λ k. omega (arith, c.type_inv.a k)) (λ k. omega (arith, c.type_inv.b k)) 4 _ _ c.load-then-this-lt8-3.ensures c.load-then-this-lt8-4.ensures)

pub returns : goal.returns
returns g c =
    two_ends _ _ _ g.row.W 8 (omega (arith, c.if-this-lt8.false)) (omega (arith, c.requires.0))
    (numbers_same _ _ (λ k. omega (arith, c.type_inv.a k)) (λ k. omega (arith, c.type_inv.b k)) 8 _ _ c.load-2.ensures c.load-3.ensures)
    (numbers_same _ _ (λ k. omega (arith, c.type_inv.a k)) (λ k. omega (arith, c.type_inv.b k)) 8 _ _ c.load-4.ensures c.load-5.ensures)
