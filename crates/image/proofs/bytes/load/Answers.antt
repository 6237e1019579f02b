-- `load` gives the number of the W bytes at a place.
-- Each turn reads one byte below those that were read.
use Prim.Native.Nat.{◌+◌, ◌-◌}
use native.Mathlib.Omega.{arith}
use Rattle.image.proofs.Numbers.{read_of, read_none, read_more, fits_word}
use Rattle.image.proofs.bytes.load.Goals as goal

pub loop-k-init : goal.loop-k-init
loop-k-init g c = read_none _ _ _

pub overflow_mul-x : goal.overflow_mul-x
overflow_mul-x g c = omega (arith, fits_word _ _ _ c.requires.0 c.loop-k-test.true c.loop-k.invariant.small)

pub overflow_add-x : goal.overflow_add-x
overflow_add-x g c = omega (arith, c.from-in-loop-k.ensures, c.type_inv.s (c.args.i + (c.loop-k.k - 1)), fits_word _ _ _ c.requires.0 c.loop-k-test.true c.loop-k.invariant.small)

pub loop-k-preserved : goal.loop-k-preserved
loop-k-preserved g c = read_more _ _ _ _ c.loop-k-test.true c.loop-k.auto.k c.loop-k.invariant (read_of c.from-in-loop-k.ensures (omega (arith, c.type_inv.s (c.args.i + (c.loop-k.k - 1)))))
