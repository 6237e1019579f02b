-- `run_ends_fall` tells whether the run ends are not positive and strictly rising.
-- The run ends are the numbers a width apart from the first on, up to the largest of their width.
use mathlib.Core.Path.{ap, ◌∙◌}
use mathlib.Core.Bool.{not}
use native.Mathlib.Nat.{add-zero}
use native.Mathlib.Omega.{arith}
use Rattle.validate.proofs.RunEnds.{sign_least, ends_packed, ends_rise}
use Rattle.validate.proofs.rows.run_ends_fall.Goals as goal

pub overflow_sub-top : goal.overflow_sub-top
overflow_sub-top c = omega (arith, sign_least c.ends-ends.result.width c.ends-ends.ensures.some c.ends-ends.ensures.narrow)

pub rise-requires : goal.rise-requires
rise-requires c =
    let rows = rw (c.child.ensures.image, c.child.ensures.number, add-zero) at c.length.ensures.value in
    (rw c.ends-ends.ensures.bytes (ends_packed _ _ _ c.requires c.ends-ends.ensures rows), omega arith)

pub returns : goal.returns
returns c =
    let rows = rw (c.child.ensures.image, c.child.ensures.number, add-zero) at c.length.ensures.value in
    let rise = rw c.ends-ends.ensures.bytes at c.rise.ensures in
    ap not (rise ∙ ends_rise _ _ _ c.ends-ends.ensures c.sign_bit.ensures rows)
