-- The lengths of nodes, filled in from the root on.
-- A parent's number is lower than its children's, and later nodes have later children: what is filled in once stays.
use mathlib.Core.Path.{◌≡◌, sym, ap, ◌∙◌}
use mathlib.Core.List.{List, ◌++◌}
use mathlib.Core.Logic.{◌⊎◌, inl, inr}
use Prim.Native.Nat.{ℕ, suc, ◌+◌, ◌-◌, ◌≤◌, ◌<◌}
use native.Mathlib.Nat.{eq-or-lt_of_le}
use native.Mathlib.Omega.{arith}
use borrow.Rule.Slice.PartMut.{mid_of, put_mid, same_len_mid}
use lib.ListN.{length, get_or, set, take, drop, replicate, length-drop, length-replicate, get_or-append, get_or-replicate}
use lib.Seq.{get_or-set_same, get_or-take, get_or-append-add, length-take-le}
use Rattle.image.specs.Record.{node_count, first_child, child_count}
use Rattle.image.specs.Element.{child_end}
use Rattle.laws.specs.Accepted.{AcceptedImage}
use Rattle.built.proofs.Columns.{ends_before}
use Rattle.builder.specs.Plan.{child_rows, LengthsTo}

-- A table that is filled.

-- a table with n entries from a place on set to x
pub record Filled (old : List ℕ) (place n x : ℕ) (new : List ℕ) : Type 0 where
  pub sized : length new ≡ length old
  pub inside : (i : ℕ) → i < n → get_or new (place + i) 0 ≡ x
  pub before : (j : ℕ) → j < place → get_or new j 0 ≡ get_or old j 0

module _ {old : List ℕ} {place n x : ℕ} (fits : place + n ≤ length old) where
  pub filled : Filled old place n x (put_mid place n old (replicate n x))
  filled = record {
    sized = same_len_mid place n old (replicate n x) (length-replicate {A = ℕ} n x ∙ sym (length-take-le n (drop place old) (omega (arith, length-drop place old))));
    inside = λ i lt. ap (λ (j : ℕ). get_or (put_mid place n old (replicate n x)) (j + i) 0) (sym long) ∙ get_or-append-add (take place old) (replicate n x ++ drop n (drop place old)) i 0 ∙ get_or-append (replicate n x) (drop n (drop place old)) 0 i (omega (arith, length-replicate {A = ℕ} n x, lt)) ∙ get_or-replicate n i x 0 lt;
    before = λ j lt. get_or-append (take place old) (replicate n x ++ drop n (drop place old)) 0 j (omega (arith, long, lt)) ∙ get_or-take place old j 0 lt;
  }
    where
      long : length (take place old) ≡ place
      long = length-take-le place old (omega (arith, fits))

  -- filled, as the library says of the part
  pub filled_by : {part : List ℕ} → part ≡ replicate (length (mid_of place (place + n - place) old)) x → Filled old place n x (put_mid place (place + n - place) old part)
  filled_by e =
      let same : place + n - place ≡ n = omega arith in
      rw (e, same, length-take-le n (drop place old) (omega (arith, length-drop place old, fits))) filled

-- The lengths.

pub lengths_start : (s spans old : List ℕ) (count : ℕ) → length old ≡ 256 → LengthsTo s count spans (set old 0 count) 0
lengths_start s spans old count sized = record {
  root = get_or-set_same old 0 count 0 (omega (arith, sized));
  child = λ p i lt few. absurd (omega arith);
}

rows_kept : (s spans lengths new : List ℕ) (p : ℕ) → get_or new p 0 ≡ get_or lengths p 0 → child_rows s new spans p ≡ child_rows s lengths spans p
unfolding child_rows
rows_kept s spans lengths new p e = rw e

module _ {s : List ℕ} (image : AcceptedImage s) (k : ℕ) (node : k < node_count s) where
  -- the entries of the children lie inside
  pub children_fit : {first n size : ℕ} → first ≡ first_child s k → n ≡ child_count s k → size ≡ 256 → first + n ≤ size
  unfolding child_end
  children_fit e f g = omega (arith, (image.node k node).tree.ends, image.tables.few_nodes)

  -- the children of one node more
  pub lengths_more : {spans lengths new : List ℕ} {count first n x : ℕ} → LengthsTo s count spans lengths k → first ≡ first_child s k → n ≡ child_count s k
      → x ≡ child_rows s lengths spans k → Filled lengths first n x new → LengthsTo s count spans new (k + 1)
  unfolding child_end
  lengths_more {spans} {lengths} {new} {count} {first} {n} {x} l e f rows filled =
      record { root = kept 0 (omega arith) ∙ l.root; child = λ p i lt few. cases p i few (eq-or-lt_of_le {n = suc p} {m = k + 1} (omega arith)) }
    where
      kept : (j : ℕ) → j ≤ k → get_or new j 0 ≡ get_or lengths j 0
      kept j le = filled.before j (omega (arith, e, (image.node k node).tree.below))

      cases : (p i : ℕ) → i < child_count s p → (suc p ≡ k + 1) ⊎ (suc p < k + 1) → get_or new (first_child s p + i) 0 ≡ child_rows s new spans p
      cases p i few (inl q) =
          let same : p ≡ k = omega arith in
          let less : i < n = omega (arith, f, rw same at few) in
          rw (same, ← e) (filled.inside i less ∙ rows ∙ sym (rows_kept s spans lengths new k (kept k (omega arith))))
      cases p i few (inr less) =
          filled.before (first_child s p + i) (omega (arith, e, ends_before s image p k (omega arith) node))
          ∙ l.child p i (omega arith) few
          ∙ sym (rows_kept s spans lengths new p (kept p (omega arith)))

pub lengths_done : {s spans lengths : List ℕ} {count k n : ℕ} → LengthsTo s count spans lengths k → n ≡ node_count s → k ≤ n → n ≤ k → LengthsTo s count spans lengths (node_count s)
lengths_done {s} {k = k} l e le ge =
    let same : k ≡ node_count s = omega arith in
    rw (← same) l
