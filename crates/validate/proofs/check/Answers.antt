-- The answer of the image check.
-- The loop keeps that the answer by all numbers is the answer by those from `number` on, and that no node has a lower one.
use mathlib.Core.Path.{◌≡◌, refl, sym, ◌∙◌}
use mathlib.Core.Bool.{cond}
use mathlib.Core.List.{List}
use Prim.Native.Nat.{suc}
use lib.Dec.{ltb}
use borrow.Author.Tests.{lt-ltb, le-ltb}
use Rattle.std.proofs.Common.{Ok, Err}
use Rattle.image.specs.Record.{node_count}
use Rattle.image.specs.Faults.{first_faulty, numbers_end, check_from, check_image}
use Rattle.laws.proofs.NoneBelow.{none_more}
use Prim.Native.Nat.{ℕ, ◌+◌, ◌-◌, ◌<◌, ◌≤◌}
use native.Mathlib.Omega.{arith}
use Rattle.std.specs.Prelude.{Option, None, Some}
use Rattle.validate.specs.Walks.{FirstFaulty}
use Rattle.validate.proofs.check.Invariants.{Left}
use Rattle.validate.proofs.check.Goals as goal

left-all : (s : List ℕ) → Left s 11
left-all s = record { within = omega arith; same = refl }

turn : (s : List ℕ) (number : ℕ) → number < numbers_end
    → check_from (numbers_end - number) number s ≡ cond (ltb (first_faulty number s) (node_count s)) (Err (record { number = number; node = first_faulty number s })) (check_from (numbers_end - (number + 1)) (number + 1) s)
unfolding check_from
turn s number lt =
    let e : numbers_end - number ≡ suc (numbers_end - (number + 1)) = omega arith in
    let x : number + 1 ≡ suc number = omega arith in
    rw (e, x)

module _ {s : List ℕ} {number : ℕ} (l : Left s number) where
  module _ (lt : number < numbers_end) where
    found : {k : ℕ} → FirstFaulty number s (Some k) → Err (record { number = number; node = k }) ≡ check_from (numbers_end - 11) 11 s
    found f = sym (l.same ∙ turn s number lt ∙ rw (← f.0, lt-ltb _ _ f.1))

    left_more : node_count s ≤ first_faulty number s → Left s (number + 1)
    left_more none = record { within = omega arith; same = l.same ∙ turn s number lt ∙ rw (le-ltb _ _ none) }

  accepted : numbers_end ≤ number → Ok tt ≡ check_from (numbers_end - 11) 11 s
  unfolding check_from
  accepted h =
      let e : numbers_end - number ≡ 0 = omega arith in
      sym (l.same ∙ rw e)

-- no node has a fault of the number where none was found
not_found : (number : ℕ) (s : List ℕ) (o : Option ℕ) → FirstFaulty number s o → ((k : ℕ) → o ≡ Some k → ⊥) → node_count s ≤ first_faulty number s
not_found number s None none f = none
not_found number s (Some k) some f = absurd (f k refl)

pub returns-then-fault_10 : goal.returns-then-fault_10
unfolding check_image
returns-then-fault_10 c = rw (← c.fault_10.ensures, c.if-fault_10.true)

pub returns-in-Some : goal.returns-in-Some
unfolding check_image
returns-in-Some c = rw (← c.fault_10.ensures, c.if-fault_10.false) (found c.loop-number.invariant.0 c.loop-number-test.true (rw (c.in-Some.is, c.start-start.ensures.image) at c.first_faulty.ensures))

pub loop-number-preserved : goal.loop-number-preserved
loop-number-preserved c =
    let none = not_found _ _ _ (rw c.start-start.ensures.image at c.first_faulty.ensures) c.in_default.not-Some in
    (left_more c.loop-number.invariant.0 c.loop-number-test.true none, none_more c.loop-number.invariant.1 none, omega arith)

pub returns : goal.returns
unfolding check_image
returns c = rw (← c.fault_10.ensures, c.if-fault_10.false) (accepted c.loop-number.invariant.0 c.loop-number-test.false)
