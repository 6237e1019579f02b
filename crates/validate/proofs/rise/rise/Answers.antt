-- `rise` tells whether numbers that lie side by side rise.
-- The first, the last and the neighbours decide.
use mathlib.Core.Path.{◌≡◌, refl}
use mathlib.Core.Bool.{true}
use mathlib.Core.List.{List}
use Rattle.image.specs.Ranges.{rises}
use Rattle.image.specs.Bytes.{number_at}
use borrow.Author.Rules.{rules}
use Rattle.validate.specs.Numbers.{number_in, falls}
use Rattle.validate.proofs.Rises.{first_below, last_above, by_falls}
use Prim.Native.Nat.{ℕ, ◌+◌, ◌*◌}
use native.Mathlib.Omega.{arith}
use Rattle.validate.proofs.rise.rise.Goals as goal

numbered : (s : List ℕ) (place w k : ℕ) {x : ℕ} → x ≡ number_at w s (place + k * w) → x ≡ number_in s place w k
unfolding number_in
numbered s place w k e = e

no_number : (step : ℕ) (f : ℕ → ℕ) (top least count : ℕ) → count ≡ 0 → true ≡ rises step f top least 0 count
unfolding rises
no_number step f top least count e = rw e refl

pub returns-then-count-eq0 : goal.returns-then-count-eq0
returns-then-count-eq0 c = no_number _ _ _ _ _ c.if-count-eq0.true

pub returns-then-inside-least : goal.returns-then-inside-least
returns-then-inside-least c = first_below _ _ _ _ _ _ 0 (omega arith) (numbered _ _ _ _ c.inside.ensures.value) c.if-inside-least.true

pub returns-then-top-inside : goal.returns-then-top-inside
returns-then-top-inside c = last_above _ _ _ _ _ _ _ (omega arith) (numbered _ _ _ _ c.inside.ensures.value) c.if-inside-least.false (numbered _ _ _ _ c.inside-2.ensures.value) c.if-top-inside.true

pub returns : goal.returns
returns c =
    let none = c.any_in_blocks.ensures (falls c.args.step (number_in c.args.numbers.bytes.now c.args.numbers.place c.args.numbers.width)) (λ k b lt p. search rules) in
    by_falls _ _ _ _ _ _ _ (omega arith) (numbered _ _ _ _ c.inside.ensures.value) c.if-inside-least.false (numbered _ _ _ _ c.inside-2.ensures.value) c.if-top-inside.false none
