-- `distances_equal` compares distances block by block.
-- The loop keeps that the pairs behind the blocks so far decide.
use Rattle.values.proofs.Steps.{left_jump, jump_fails}
use mathlib.Core.Path.{◌≡◌, sym, ◌∙◌}
use Prim.Native.Nat.{◌+◌, ◌*◌}
use native.Mathlib.Nat.{add-zero}
use native.Mathlib.Omega.{arith}
use Rattle.values.proofs.lengths.distances_equal.Goals as goal

pub returns-then-not-distance_block : goal.returns-then-not-distance_block
returns-then-not-distance_block g c = rw (add-zero, add-zero) (jump_fails _ _ _ _ _ 64 (omega (arith, c.loop-h-test.true)) c.loop-h.invariant (sym c.distance_block.ensures ∙ c.if-not-distance_block.true))

pub loop-h-preserved : goal.loop-h-preserved
loop-h-preserved g c =
    let next : 64 * (c.loop-h.h + 1) ≡ 64 * c.loop-h.h + 64 = omega arith in
    rw next (left_jump _ _ _ _ _ 64 (omega (arith, c.loop-h-test.true)) (omega (arith, c.loop-h-test.true)) c.loop-h.invariant (sym c.distance_block.ensures ∙ c.if-not-distance_block.false))
