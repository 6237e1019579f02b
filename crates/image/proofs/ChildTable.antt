-- A union's children by their type ids: one child's id, and a table that is filled from the last child to the first.
-- After the children from number k on, an entry is the first of those that has its id: the next child down takes its own.
use mathlib.Core.Path.{◌≡◌, refl, sym, ◌∙◌}
use mathlib.Core.Bool.{Bool, true, false, cond}
use mathlib.Core.List.{List}
use Prim.Native.Nat.{ℕ, suc, ◌+◌, ◌-◌, ◌<◌, ◌≤◌, ◌^◌}
use native.Mathlib.Omega.{arith}
use lib.Dec.{eqb}
use lib.ListN.{length, get_or, set, replicate, length-set, length-replicate, get_or-replicate}
use lib.Seq.{get_or-set_same, get_or-set_other}
use borrow.Author.Tests.{eqb-true, eqb-false}
use Rattle.std.specs.Prelude.{Option, None, Some}
use Rattle.image.specs.Ranges.{first}
use Rattle.image.specs.Record.{id_of, first_child, child_count}
use Rattle.image.specs.Element.{has_id, child_end, child_with_id}
use Rattle.image.specs.Reads.{Read, ChildrenById, NamedBy, NamedChild}
use Rattle.image.proofs.Compare.{is_eq, is_ne}

pub has_it : (s : List ℕ) (id k : ℕ) {r : ℕ} → Read (id_of s k) 8 r → r ≡ id → has_id s id k ≡ true
unfolding has_id
has_it s id k e h = is_eq e.value refl h

pub has_not : (s : List ℕ) (id k : ℕ) {r : ℕ} → Read (id_of s k) 8 r → (r ≡ id → ⊥) → has_id s id k ≡ false
unfolding has_id
has_not s id k e h = is_ne e.value refl h

-- the first child that has the id, found as child c of the node, or none
pub named_some : (s : List ℕ) (k id c : ℕ) {x : ℕ} → x ≡ first_child s k + c → c < child_count s k → x < 2 ^ 17 → first_child s k + c ≡ first (has_id s id) (first_child s k) (child_count s k) → NamedBy s k id x
unfolding child_with_id child_end
named_some s k id c at lt small e = record { found = record { value = at ∙ e; small = small }; within = omega (arith, at) }

pub named_none : (s : List ℕ) (k id : ℕ) → first_child s k + child_count s k ≡ first (has_id s id) (first_child s k) (child_count s k) → child_with_id s k id ≡ child_end s k
unfolding child_with_id child_end
named_none s k id e = sym e

-- the first of the children from number k of n on that has the id, where f is the first child: none, or one
pub record FoundBy (s : List ℕ) (f n k id c : ℕ) : Type 0 where
  pub value : c ≡ first (has_id s id) (f + k) (n - k)
  pub within : c < f + n
  pub small : c < 2 ^ 17

abbrev pub FoundFrom : List ℕ → ℕ → ℕ → ℕ → ℕ → Option ℕ → Type 0
FoundFrom s f n k id None = first (has_id s id) (f + k) (n - k) ≡ f + n
FoundFrom s f n k id (Some c) = FoundBy s f n k id c

-- the table over the children f + k to f + n - 1
pub record Filled (s : List ℕ) (f n k : ℕ) (table : List (Option ℕ)) : Type 0 where
  pub sized : length table ≡ 256
  pub entry : (id : ℕ) → id < 256 → FoundFrom s f n k id (get_or table id None)

module _ (s : List ℕ) (f n : ℕ) where
  -- the search from one child further down, whose id is x
  pub search_down : (k x id : ℕ) → 0 < k → k ≤ n → x ≡ id_of s (f + (k - 1)) → first (has_id s id) (f + (k - 1)) (n - (k - 1)) ≡ cond (eqb x id) (f + (k - 1)) (first (has_id s id) (f + k) (n - k))
  unfolding first has_id
  search_down k x id pos most e =
      let more : n - (k - 1) ≡ suc (n - k) = omega arith in
      let next : suc (f + (k - 1)) ≡ f + k = omega arith in
      rw (more, next, e)

  pub filled_none : Filled s f n n (replicate 256 None)
  unfolding first
  filled_none =
      let e : n - n ≡ 0 = omega arith in
      record {
        sized = length-replicate {A = Option ℕ} 256 None;
        entry = λ id h. rw (get_or-replicate {A = Option ℕ} 256 id None None h, e);
      }

  pub filled_more : (k x child : ℕ) (table : List (Option ℕ)) → 0 < k → k ≤ n → Filled s f n k table → x ≡ id_of s (f + (k - 1)) → x < 256 → child ≡ f + (k - 1) → child < 2 ^ 17 → Filled s f n (k - 1) (set table x (Some child))
  filled_more k x child table pos most r e byte at small =
      record {
        sized = length-set table x _ ∙ r.sized;
        entry = λ id h. own id h (eqb x id) refl;
      }
    where
      inside : x < length table
      inside = omega (arith, r.sized, byte)

      searched : (id : ℕ) → first (has_id s id) (f + (k - 1)) (n - (k - 1)) ≡ cond (eqb x id) (f + (k - 1)) (first (has_id s id) (f + k) (n - k))
      searched id = search_down k x id pos most e

      later : (id : ℕ) (o : Option ℕ) → eqb x id ≡ false → FoundFrom s f n k id o → FoundFrom s f n (k - 1) id o
      later id None q p = searched id ∙ rw q p
      later id (Some c) q p = record { value = p.value ∙ sym (searched id ∙ rw q); within = p.within; small = p.small }

      found : {id : ℕ} → x ≡ id → eqb x id ≡ true → first (has_id s x) (f + (k - 1)) (n - (k - 1)) ≡ f + (k - 1)
      found same q = let t = rw (← same) at q in searched x ∙ rw t

      own : (id : ℕ) → id < 256 → (b : Bool) → eqb x id ≡ b → FoundFrom s f n (k - 1) id (get_or (set table x (Some child)) id None)
      own id h true q =
          let same : x ≡ id = eqb-true x id q in
          rw (← same, get_or-set_same table x (Some child) None inside) (record { value = at ∙ sym (found same q); within = omega (arith, at); small = small })
      own id h false q = rw (get_or-set_other table x id (Some child) None (λ w. eqb-false x id q (sym w))) (later id _ q (r.entry id h))

-- all children have been entered
pub filled_all : (s : List ℕ) (node k : ℕ) (table : List (Option ℕ)) → k ≤ 0 → Filled s (first_child s node) (child_count s node) k table → ChildrenById s node table
unfolding child_with_id child_end
filled_all s node k table none r = record { sized = r.sized; entry = λ id h. named id (get_or table id None) (r.entry id h) }
  where
    rest : child_count s node - k ≡ child_count s node
    rest = omega arith

    start : first_child s node + k ≡ first_child s node
    start = omega arith

    named : (id : ℕ) (o : Option ℕ) → FoundFrom s (first_child s node) (child_count s node) k id o → NamedChild s node id o
    named id None p = rw (start, rest) at p
    named id (Some c) p = record { found = record { value = rw (start, rest) at p.value; small = p.small }; within = p.within }
