-- How many rows a union's children have, by their type ids: a table that is filled from the last child to the first.
-- After the children from number k on, an entry has the rows of the first of those that has its id.
use mathlib.Core.Path.{◌≡◌, refl, sym, ◌∙◌}
use mathlib.Core.Bool.{Bool, true, false}
use mathlib.Core.List.{List}
use Prim.Native.Nat.{ℕ, ◌+◌, ◌-◌, ◌<◌, ◌≤◌}
use native.Mathlib.Omega.{arith}
use lib.Dec.{eqb}
use lib.ListN.{length, get_or, set, replicate, length-set, length-replicate, get_or-replicate}
use lib.Seq.{get_or-set_same, get_or-set_other}
use borrow.Author.Tests.{eqb-true, eqb-false, lt-ltb, le-ltb}
use Rattle.image.specs.Ranges.{first}
use Rattle.image.specs.Record.{id_of, length_of, first_child, child_count}
use Rattle.image.specs.Element.{has_id, child_end, child_with_id}
use Rattle.image.proofs.ChildTable.{search_down}
use Rattle.validate.specs.Unions.{rows_below, RowsById}

-- the children f + k to f + n - 1
pub record RowsFilled (s : List ℕ) (f n k : ℕ) (rows : List ℕ) : Type 0 where
  pub sized : length rows ≡ 256
  pub entry : (id : ℕ) → id < 256 → get_or rows id 0 ≡ rows_below s (f + n) (first (has_id s id) (f + k) (n - k))

module _ (s : List ℕ) (f n : ℕ) where
  pub filled_none : RowsFilled s f n n (replicate 256 0)
  unfolding first
  filled_none =
      let e : n - n ≡ 0 = omega arith in
      record {
        sized = length-replicate {A = ℕ} 256 0;
        entry = λ id h. rw (get_or-replicate {A = ℕ} 256 id 0 0 h, e, le-ltb (f + n) (f + n) (omega arith)) refl;
      }

  pub filled_more : (k x size : ℕ) (rows : List ℕ) → 0 < k → k ≤ n → RowsFilled s f n k rows → x ≡ id_of s (f + (k - 1)) → x < 256 → size ≡ length_of s (f + (k - 1)) → RowsFilled s f n (k - 1) (set rows x size)
  filled_more k x size rows pos most r e byte long =
      record {
        sized = length-set rows x size ∙ r.sized;
        entry = λ id h. own id h (eqb x id) refl;
      }
    where
      inside : x < length rows
      inside = omega (arith, r.sized, byte)

      own : (id : ℕ) → id < 256 → (b : Bool) → eqb x id ≡ b → get_or (set rows x size) id 0 ≡ rows_below s (f + n) (first (has_id s id) (f + (k - 1)) (n - (k - 1)))
      own id h true q =
          let same : x ≡ id = eqb-true x id q in
          rw (search_down s f n k x id pos most e, q, lt-ltb (f + (k - 1)) (f + n) (omega arith), ← same, get_or-set_same rows x size 0 inside) long
      own id h false q = rw (search_down s f n k x id pos most e, q, get_or-set_other rows x id size 0 (λ w. eqb-false x id q (sym w))) (r.entry id h)

-- all children have been entered
pub filled_all : (s : List ℕ) (node k : ℕ) (rows : List ℕ) → k ≤ 0 → RowsFilled s (first_child s node) (child_count s node) k rows → RowsById s node rows
unfolding child_with_id child_end
filled_all s node k rows none r =
    let rest : child_count s node - k ≡ child_count s node = omega arith in
    let start : first_child s node + k ≡ first_child s node = omega arith in
    record { sized = r.sized; entry = λ id h. rw (start, rest) at (r.entry id h) }
