-- The first node that has a fault of the number.
-- A turn asks one node, and walks on to the next.
use mathlib.Core.Path.{◌≡◌, sym, ap, ◌∙◌}
use mathlib.Core.Bool.{Bool}
use mathlib.Core.List.{List}
use Prim.Native.Nat.{ℕ, ◌+◌}
use native.Mathlib.Nat.{zero-add}
use native.Mathlib.Omega.{arith}
use Rattle.image.specs.Faults.{fault, first_faulty}
use Rattle.image.proofs.Loops.{first_more, first_found, first_done}
use Rattle.validate.proofs.first_faulty.Goals as goal

at-node : (number : ℕ) (s : List ℕ) (node : ℕ) {r b : Bool} → r ≡ fault number s node → r ≡ b → fault number s (0 + node) ≡ b
at-node number s node e q = rw (zero-add node, ← e) q

pub returns-then-has_fault : goal.returns-then-has_fault
unfolding first_faulty
returns-then-has_fault c =
    let found = first_found _ _ _ _ c.loop-k-test.true c.loop-k.invariant.0 (at-node _ _ _ (rw (c.loop-k.invariant.1, c.loop-k.invariant.2) at c.has_fault.ensures) c.if-has_fault.true) in
    (rw (← c.node_count-k-end.ensures.value) (sym (zero-add _) ∙ found), rw (← c.node_count-k-end.ensures.value) c.loop-k-test.true)

pub loop-k-preserved : goal.loop-k-preserved
loop-k-preserved c = (first_more _ _ _ _ c.loop-k-test.true c.loop-k.invariant.0 (at-node _ _ _ (rw (c.loop-k.invariant.1, c.loop-k.invariant.2) at c.has_fault.ensures) c.if-has_fault.false), c.next-walk.ensures.image ∙ c.loop-k.invariant.1, c.next-walk.ensures.number ∙ ap (λ (x : ℕ). x + 1) c.loop-k.invariant.2)

pub returns : goal.returns
unfolding first_faulty
returns c =
    let none = sym (zero-add _) ∙ first_done _ _ _ _ c.loop-k-test.false c.loop-k.invariant.0 in
    rw (← c.node_count-k-end.ensures.value) (omega (arith, none))
