-- What a walk over the nodes keeps: sums that grow by a count at each node, and the parent of a node.
-- Children are numbered in the order of their parents, so the nodes before the parent end too early and those after it
-- start too late, and the parent alone says whether a node is a union's child.
use mathlib.Core.Path.{◌≡◌, refl, sym, ◌∙◌}
use mathlib.Core.Bool.{Bool, true, false, ◌&&◌}
use mathlib.Core.List.{List}
use Prim.Native.Nat.{ℕ, zero, suc, ◌+◌, ◌<◌, ◌≤◌}
use lib.Dec.{leb, ltb}
use native.Mathlib.Numerals.{add-one}
use native.Mathlib.Omega.{arith}
use borrow.Author.Count.{below_more}
use borrow.Author.Tests.{ltb-true, ltb-false, le-ltb, lt-ltb, le-leb, lt-leb}
use Rattle.image.specs.Ranges.{sum_to}
use Rattle.image.specs.Reads.{Read}
use Rattle.image.specs.Record.{code_of, child_count, buffer_count, child_start, buffer_start}
use Rattle.image.specs.TypeCode.{is_union}
use Rattle.image.specs.Faults.{union_over, under_union}
use Rattle.image.proofs.Bools.{fails_and}
use Rattle.image.proofs.Loops.{sum_more}
use Rattle.image.proofs.Ranges.{any_none, any_only, sum_grows}
use Rattle.validate.specs.declared.tree.Parent.{Parent}
use Rattle.validate.specs.Walks.{Sum, Total, Passed, Parents}

-- sums of counts, each a u16, one count at a time
pub sum_none : (f : ℕ → ℕ) → Total (sum_to f 0) 0 0
unfolding sum_to
sum_none f = record { value = refl; small = omega arith }

pub sum_next : (f : ℕ → ℕ) (k : ℕ) {x r : ℕ} → Total (sum_to f k) k r → Read (f k) 16 x → Total (sum_to f (k + 1)) (k + 1) (r + x)
sum_next f k {x} {r} sum read =
    record {
      value = omega (arith, sum.value, sum_more f k x read.value);
      small = omega (arith, sum.small, read.small);
    }

pub sum_all : (f : ℕ → ℕ) (k n : ℕ) {r : ℕ} → Total (sum_to f k) k r → k ≡ n → Total (sum_to f n) n r
sum_all f k n sum e = rw (← e) sum

module _ (s : List ℕ) where
  pub children_none : Sum (child_start s 0) 0 1
  unfolding child_start sum_to
  children_none = record { value = refl; small = omega arith }

  pub buffers_none : Sum (buffer_start s 0) 0 0
  unfolding buffer_start sum_to
  buffers_none = record { value = refl; small = omega arith }

  pub children_more : {k x r : ℕ} → Sum (child_start s k) k r → Read (child_count s k) 16 x → Sum (child_start s (k + 1)) (k + 1) (r + x)
  unfolding child_start
  children_more {k} {x} {r} sum read =
      record {
        value = omega (arith, sum.value, sum_more (child_count s) k x read.value);
        small = omega (arith, sum.small, read.small);
      }

  pub buffers_more : {k x r : ℕ} → Sum (buffer_start s k) k r → Read (buffer_count s k) 16 x → Sum (buffer_start s (k + 1)) (k + 1) (r + x)
  unfolding buffer_start
  buffers_more {k} {x} {r} sum read =
      record {
        value = omega (arith, sum.value, sum_more (buffer_count s) k x read.value);
        small = omega (arith, sum.small, read.small);
      }

  -- node 0 has no parent; the search for one starts at it
  pub passed_none : {x : ℕ} → Read (child_count s 0) 16 x → Passed s 0 0 (1 + x)
  passed_none read = record { ends = children_more children_none read; within = omega arith; passed = λ j h. absurd (omega arith) }

  -- the search for the next node's parent starts at this one's
  pub passed_next : {k p e : ℕ} → Passed s k p e → Passed s (k + 1) p e
  passed_next r =
      record {
        ends = r.ends;
        within = omega (arith, r.within);
        passed = λ j h. omega (arith, r.passed j h);
      }

  pub passed_more : {k p e x : ℕ} → Passed s k p e → p < k → e ≤ k → Read (child_count s (p + 1)) 16 x → Passed s k (p + 1) (e + x)
  passed_more {k} {p} {e} r lt le read =
      let here : child_start s (p + 1) ≤ k = omega (arith, r.ends.value) in
      record {
        ends = children_more r.ends read;
        within = omega arith;
        passed = below_more (λ (j : ℕ). child_start s (suc j) ≤ k) p r.passed (rw (add-one p) at here);
      }

  starts_grow : (a b : ℕ) → a ≤ b → child_start s a ≤ child_start s b
  unfolding child_start
  starts_grow a b le = omega (arith, sum_grows (child_count s) a b le)

  -- the node after the last that ends too early starts in time
  in_time : (k p : ℕ) → p < k → ((j : ℕ) → j < p → child_start s (suc j) ≤ k) → child_start s p ≤ k
  unfolding child_start sum_to
  in_time k zero lt passed = lt
  in_time k (suc p) lt passed = passed p (omega arith)

middle_fails : (x y z : Bool) → y ≡ false → x && y && z ≡ false
middle_fails true y z e = rw e
middle_fails false y z e = refl

others_hold : (x y z : Bool) → y ≡ true → z ≡ true → x && y && z ≡ x
others_hold true y z p q = rw (p, q)
others_hold false y z p q = refl

module _ (s : List ℕ) (k j : ℕ) where
  ends_early : child_start s (suc j) ≤ k → union_over s k j ≡ false
  unfolding union_over
  ends_early le = fails_and (is_union (code_of s j) && leb (child_start s j) k) _ (λ _. le-ltb _ _ le)

  starts_late : k < child_start s j → union_over s k j ≡ false
  unfolding union_over
  starts_late lt = middle_fails (is_union (code_of s j)) _ (ltb k (child_start s (suc j))) (lt-leb _ _ lt)

  holds_it : child_start s j ≤ k → k < child_start s (suc j) → union_over s k j ≡ is_union (code_of s j)
  unfolding union_over
  holds_it le lt = others_hold (is_union (code_of s j)) _ _ (le-leb _ _ le) (lt-ltb _ _ lt)

module _ {s : List ℕ} {k : ℕ} {p : Parent} (r : Parents s k p) where
  pub no_parent : k ≤ p.node → false ≡ under_union s k
  unfolding under_union
  no_parent le = sym (any_none _ 0 k (λ j from lt. ends_early s k j (r.known.passed j (omega arith))))

  past : p.node < k → k < child_start s (suc p.node)
  past lt =
      let e : p.end ≡ child_start s (p.node + 1) = r.known.ends.value in
      let h : k < p.end = r.reached lt in
      omega (arith, rw (add-one p.node) at e)

  pub by_parent : p.node < k → is_union (code_of s p.node) ≡ under_union s k
  unfolding under_union
  by_parent lt = sym (any_only _ 0 k p.node (omega arith) (omega arith) other ∙ holds_it s k p.node (in_time s k p.node lt r.known.passed) (past lt))
    where
      other : (j : ℕ) → 0 ≤ j → j < 0 + k → (j ≡ p.node → ⊥) → union_over s k j ≡ false
      other j from end ne = at (ltb j p.node) refl
        where
          at : (b : Bool) → ltb j p.node ≡ b → union_over s k j ≡ false
          at true e = ends_early s k j (r.known.passed j (ltb-true _ _ e))
          at false e =
              let later : suc p.node ≤ j = omega (arith, ltb-false j p.node e) in
              starts_late s k j (omega (arith, starts_grow s (suc p.node) j later, past lt))
