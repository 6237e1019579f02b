-- `any_in_blocks` answers whether one of the numbers below n passes the test.
-- Before block b the numbers from 64 b on decide; within a block what was found of its first numbers.
use mathlib.Core.Path.{◌≡◌}
use mathlib.Core.Bool.{Bool}
use Prim.Native.Nat.{ℕ, ◌*◌}
use Rattle.image.specs.Ranges.{any, Tells}
use Rattle.image.proofs.Loops.{Rest}
use Rattle.image.proofs.blocks.any_in_blocks.Given as goal

abbrev pub invariant-loop-b : goal.invariant-loop-b
invariant-loop-b g l = (p : ℕ → Bool) → Tells (λ k b. g.F.Fn.post l.test (k, tt) b) l.n p → Rest (any p) 0 l.n (64 * l.b)

abbrev pub invariant-loop-j : goal.invariant-loop-j
invariant-loop-j g l = (p : ℕ → Bool) → Tells (λ k b. g.F.Fn.post l.test (k, tt) b) l.n p → l.found ≡ any p (64 * l.b) l.j

abbrev pub invariant-loop-k : goal.invariant-loop-k
invariant-loop-k g l = (p : ℕ → Bool) → Tells (λ k b. g.F.Fn.post l.test (k, tt) b) l.n p → Rest (any p) 0 l.n l.k
