-- `any_in_blocks` answers whether one of the numbers below n passes the test.
-- A block is 64 numbers of the range at once.
use mathlib.Core.Path.{◌≡◌, sym, ◌∙◌}
use Prim.Native.Nat.{ℕ, ◌+◌, ◌-◌, ◌*◌, ◌/◌, ◌<◌, ◌≤◌}
use native.Mathlib.Omega.{arith}
use native.Mathlib.Nat.{zero-add}
use Rattle.image.proofs.Loops.{any_empty, any_snoc, any_jump, jump_found, any_more, any_found, any_done}
use Rattle.image.proofs.blocks.any_in_blocks.Goals as goal

-- block b lies below n
inside : (n b : ℕ) → b < n / 64 → 64 ≤ n - 64 * b
inside n b lt = omega arith

pub loop-j-init : goal.loop-j-init
loop-j-init g c = λ p h. any_empty _ _

pub loop-j-preserved : goal.loop-j-preserved
loop-j-preserved g c = λ p h. rw (any_snoc, ← c.loop-j.invariant p h, ← h _ _ (omega arith) c.test-found.ensures)

pub loop-b-preserved : goal.loop-b-preserved
loop-b-preserved g c = λ p h.
    let whole : c.loop-j.j ≡ 64 = omega arith in
    let none = rw whole at (sym (c.loop-j.invariant p h) ∙ c.if-found.false) in
    let next : 64 * (c.loop-b.b + 1) ≡ 64 * c.loop-b.b + 64 = omega arith in
    rw next (any_jump _ _ _ _ 64 (inside _ _ c.loop-b-test.true) (c.loop-b.invariant p h) (rw zero-add none))

pub returns-then-found : goal.returns-then-found
returns-then-found g c = λ p h.
    let whole : c.loop-j.j ≡ 64 = omega arith in
    let some = rw whole at (sym (c.loop-j.invariant p h) ∙ c.if-found.true) in
    jump_found _ _ _ _ 64 (inside _ _ c.loop-b-test.true) (c.loop-b.invariant p h) (rw zero-add some)

pub returns-then-test : goal.returns-then-test
returns-then-test g c = λ p h. any_found _ _ _ _ c.loop-k-test.true (c.loop-k.invariant p h) (rw zero-add (sym (h _ _ c.loop-k-test.true c.test.ensures) ∙ c.if-test.true))

pub loop-k-preserved : goal.loop-k-preserved
loop-k-preserved g c = λ p h. any_more _ _ _ _ c.loop-k-test.true (c.loop-k.invariant p h) (rw zero-add (sym (h _ _ c.loop-k-test.true c.test.ensures) ∙ c.if-test.false))

pub returns : goal.returns
returns g c = λ p h. any_done _ _ _ _ c.loop-k-test.false (c.loop-k.invariant p h)
