-- `copy_bytes` puts bytes over a part of a buffer that is as long.
-- The loop keeps that the bytes from byte k on, put after those that were put, give the whole.
use mathlib.Core.Path.{◌≡◌, ◌∙◌}
use Prim.Native.Nat.{◌+◌}
use native.Mathlib.Omega.{arith}
use Rattle.rows.proofs.Over.{bytes_start, bytes_more, bytes_done, whole_over}
use Rattle.rows.proofs.output.copy_bytes.Goals as goal

pub loop-k-init : goal.loop-k-init
loop-k-init c = bytes_start (omega (arith, c.requires))

pub loop-k-preserved : goal.loop-k-preserved
loop-k-preserved c =
    let here : 0 + c.loop-k.k ≡ c.loop-k.k = omega arith in
    rw here at (bytes_more c.loop-k.invariant c.loop-k-test.true)

pub returns : goal.returns
returns c = record { len = c.loop-k.invariant.put.put.long; after = bytes_done c.loop-k.invariant c.loop-k-test.false ∙ whole_over _ _ c.requires }
