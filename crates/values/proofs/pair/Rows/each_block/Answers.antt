-- `Rows::each_block` answers whether all pairs pass, block by block.
-- The loop keeps that the pairs behind the blocks so far decide.
use mathlib.Core.Path.{sym, ◌∙◌}
use native.Mathlib.Nat.{le_refl}
use native.Mathlib.Omega.{arith}
use Rattle.values.proofs.Steps.{left_jump, jump_fails, block_next, block_inside}
use Rattle.values.proofs.pair.Rows.each_block.Goals as goal

pub returns-then-not-test : goal.returns-then-not-test
returns-then-not-test g c = λ p t.
    let inside = block_inside c.args.self.count g.row.N c.loop-h.h c.loop-h-test.true in
    let told = rw c.part.ensures at c.test.ensures in
    jump_fails _ _ _ _ _ g.row.N (omega (arith, inside)) (c.loop-h.invariant p t) (sym (t _ _ _ inside (le_refl _) told) ∙ c.if-not-test.true)

pub loop-h-preserved : goal.loop-h-preserved
loop-h-preserved g c = λ p t.
    let inside = block_inside c.args.self.count g.row.N c.loop-h.h c.loop-h-test.true in
    let told = rw c.part.ensures at c.test.ensures in
    rw (block_next c.args.self.count g.row.N c.loop-h.h) (left_jump _ _ _ _ _ g.row.N (omega (arith, inside)) (omega (arith, inside)) (c.loop-h.invariant p t) (sym (t _ _ _ inside (le_refl _) told) ∙ c.if-not-test.false))
