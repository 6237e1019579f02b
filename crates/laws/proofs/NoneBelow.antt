-- No fault below a number: from number to number, and below all of them where an image is accepted.
-- The check goes on only past a number whose first faulty node is the end of the nodes.
use mathlib.Core.Path.{◌≡◌, refl}
use mathlib.Core.Bool.{Bool, true, false, cond}
use mathlib.Core.List.{List}
use mathlib.Core.Logic.{◌⊎◌, inl, inr}
use Prim.Native.Nat.{ℕ, zero, suc, ◌+◌, ◌-◌, ◌≤◌, ◌<◌}
use native.Mathlib.Nat.{eq-or-lt_of_le}
use native.Mathlib.Omega.{arith}
use lib.Dec.{ltb}
use borrow.Author.Tests.{ltb-false}
use Rattle.image.specs.declared.answer.Fault.{Fault}
use Rattle.image.specs.Faults.{Checked, fault, fault10, first_faulty, numbers_end, check_from, check_image}
use Rattle.std.proofs.Common.{Ok, Err}
use Rattle.image.specs.Record.{node_count}
use Rattle.image.proofs.Ranges.{from_here, first_before}
use Rattle.laws.specs.Accepted.{NoneBelow}

-- an answer that goes on past a refusal
test_failed : (b : Bool) (f : Fault) (rest : Checked) → cond b (Err f) rest ≡ Ok tt → b ≡ false
test_failed true f rest e = cc
test_failed false f rest e = refl

rest_accepted : (b : Bool) (f : Fault) (rest : Checked) → cond b (Err f) rest ≡ Ok tt → rest ≡ Ok tt
rest_accepted true f rest e = cc
rest_accepted false f rest e = e

none_faulty : (left number : ℕ) (s : List ℕ) → check_from left number s ≡ Ok tt
    → (m : ℕ) → number ≤ m → m < number + left → ltb (first_faulty m s) (node_count s) ≡ false
unfolding check_from
none_faulty zero number s e m le lt = absurd (omega arith)
none_faulty (suc left) number s e m le lt =
    from_here (λ m. ltb (first_faulty m s) (node_count s) ≡ false) number (test_failed _ _ _ e) m le
    (λ later. none_faulty left (suc number) s (rest_accepted (ltb (first_faulty number s) (node_count s)) _ _ e) m later (omega arith))

-- before any number but 10
pub none_yet : {s : List ℕ} → fault10 s ≡ false → NoneBelow 11 s
none_yet e = record { image = e; nodes = λ m low high k lt. absurd (omega arith) }

-- a number that no node has
pub none_more : {number : ℕ} {s : List ℕ} → NoneBelow number s → node_count s ≤ first_faulty number s → NoneBelow (number + 1) s
unfolding first_faulty
none_more {number} {s} b le = record { image = b.image; nodes = λ m low high k lt. cases m low (eq-or-lt_of_le {n = m} {m = number} (omega arith)) k lt }
  where
    cases : (m : ℕ) → 11 ≤ m → (m ≡ number) ⊎ (m < number) → (k : ℕ) → k < node_count s → fault m s k ≡ false
    cases m low (inl e) k lt = rw e (first_before (fault number s) 0 (node_count s) k (omega arith) (omega arith))
    cases m low (inr before) k lt = b.nodes m low before k lt

-- a lower number
pub none_fewer : {number : ℕ} {s : List ℕ} (m : ℕ) → m ≤ number → NoneBelow number s → NoneBelow m s
none_fewer m le b = record { image = b.image; nodes = λ n low high k lt. b.nodes n low (omega arith) k lt }

-- an accepted image has no fault at all
pub accepted_none : (s : List ℕ) → check_image s ≡ Ok tt → NoneBelow numbers_end s
unfolding check_image first_faulty
accepted_none s accepted = record {
  image = test_failed _ _ _ accepted;
  nodes = λ m low high k lt.
      let h : node_count s ≤ first_faulty m s = ltb-false _ _ (none_faulty (numbers_end - 11) 11 s (rest_accepted (fault10 s) _ _ accepted) m low (omega arith)) in
      first_before (fault m s) 0 (node_count s) k (omega arith) (omega arith);
}
