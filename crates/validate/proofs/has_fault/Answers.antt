-- Each number has its test.
-- Where an arm is taken the number is the arm's, and the definition computes to the arm's test.
use borrow.Author.Tests.{ne_eqb}
use Prim.Native.Nat.{ℕ, suc, ◌≤◌}
use mathlib.Core.Path.{◌≡◌}
use mathlib.Core.List.{[], ◌∷◌}
use native.Mathlib.Omega.{arith}
use Rattle.image.specs.Faults.{fault}
use Rattle.image.proofs.CodeTable.{NoneOf}
use Rattle.validate.proofs.has_fault.Goals as goal

past : {m n : ℕ} → (n ≡ m → ⊥) → m ≤ n → suc m ≤ n
past ne le = omega arith

-- a number from 11 on that has no arm of its own
past-18 : (n : ℕ) → 11 ≤ n → NoneOf (18 ∷ 17 ∷ 16 ∷ 15 ∷ 14 ∷ 13 ∷ 12 ∷ 11 ∷ []) n → 19 ≤ n
past-18 n le none =
    past none.1
    (past none.0.1 (past none.0.0.1 (past none.0.0.0.1 (past none.0.0.0.0.1 (past none.0.0.0.0.0.1 (past none.0.0.0.0.0.0.1 (past none.0.0.0.0.0.0.0.1 le)))))))

pub returns-in-11 : goal.returns-in-11
unfolding fault
returns-in-11 c = rw c.in-11.is c.fault_11.ensures

pub returns-in-12 : goal.returns-in-12
unfolding fault
returns-in-12 c = rw c.in-12.is c.fault_12.ensures

pub returns-in-13 : goal.returns-in-13
unfolding fault
returns-in-13 c = rw c.in-13.is c.fault_13.ensures

pub returns-in-14 : goal.returns-in-14
unfolding fault
returns-in-14 c = rw c.in-14.is c.fault_14.ensures

pub returns-in-15 : goal.returns-in-15
unfolding fault
returns-in-15 c = rw c.in-15.is c.fault_15.ensures

pub returns-in-16 : goal.returns-in-16
unfolding fault
returns-in-16 c = rw c.in-16.is c.fault_16.ensures

pub returns-in-17 : goal.returns-in-17
unfolding fault
returns-in-17 c = rw c.in-17.is c.fault_17.ensures

pub returns-in-18 : goal.returns-in-18
unfolding fault
returns-in-18 c = rw c.in-18.is c.fault_18.ensures

pub returns-in_default : goal.returns-in_default
unfolding fault
returns-in_default c = rw (ne_eqb _ 11 c.in_default.in_default-own.rest.0.0.0.0.0.0.0.1, ne_eqb _ 12 c.in_default.in_default-own.rest.0.0.0.0.0.0.1, ne_eqb _ 13 c.in_default.in_default-own.rest.0.0.0.0.0.1, ne_eqb _ 14 c.in_default.in_default-own.rest.0.0.0.0.1, ne_eqb _ 15 c.in_default.in_default-own.rest.0.0.0.1, ne_eqb _ 16 c.in_default.in_default-own.rest.0.0.1, ne_eqb _ 17 c.in_default.in_default-own.rest.0.1, ne_eqb _ 18 c.in_default.in_default-own.rest.1) c.fault_19.ensures
