-- The answer of the image check.
-- The loop keeps that the answer by all numbers is the answer by those from `number` on, and that no node has a lower one.
use mathlib.Core.Path.{◌≡◌}
use mathlib.Core.List.{List}
use Rattle.image.specs.Faults.{numbers_end, check_from}
use Rattle.laws.specs.Accepted.{NoneBelow}
use Prim.Native.Nat.{ℕ, ◌-◌, ◌≤◌}
use Rattle.validate.proofs.check.Given as goal

-- the answer by all numbers is the answer by those from a number on
pub record Left (s : List ℕ) (number : ℕ) : Type 0 where
  pub within : number ≤ numbers_end
  pub same : check_from (numbers_end - 11) 11 s ≡ check_from (numbers_end - number) number s

abbrev pub invariant-loop-number : goal.invariant-loop-number
invariant-loop-number l = Left l.image l.number × NoneBelow l.number l.image × (11 ≤ l.number)
