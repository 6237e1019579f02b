-- `by_bytes` gives the number of the w bytes at a place.
-- Each turn reads one byte below those that were read.
use native.Mathlib.Omega.{arith}
use Rattle.image.proofs.Numbers.{read_same, read_past, read_none, read_more, fits_word}
use Rattle.image.proofs.bytes.by_bytes.Goals as goal

pub returns-then-s-i : goal.returns-then-s-i
returns-then-s-i c = read_past _ _ _ c.if-s-i.true

pub loop-k-init : goal.loop-k-init
loop-k-init c = read_none _ _ _

pub overflow_mul-x : goal.overflow_mul-x
overflow_mul-x c = omega (arith, fits_word _ _ _ c.requires c.loop-k-test.true c.loop-k.invariant.small)

pub overflow_add-x : goal.overflow_add-x
overflow_add-x c = omega (arith, c.from.ensures, c.byte.ensures.small, fits_word _ _ _ c.requires c.loop-k-test.true c.loop-k.invariant.small)

pub loop-k-preserved : goal.loop-k-preserved
loop-k-preserved c = read_more _ _ _ _ c.loop-k-test.true c.loop-k.auto.k c.loop-k.invariant (read_same c.from.ensures c.byte.ensures)
