-- Dictionaries: two elements are equal exactly where the values rows that their keys name are; pairs of keys that are kept.
-- A key that a row which is not null reads lies below the length of the values child, so it fits 32 bits.
use mathlib.Core.Path.{◌≡◌, refl, sym, ap, ◌∙◌}
use mathlib.Core.Bool.{Bool, true, false, not, ◌&&◌}
use mathlib.Core.List.{List}
use Prim.Native.Nat.{ℕ, ◌+◌, ◌%◌, ◌<◌, ◌≤◌}
use native.Mathlib.Omega.{arith}
use native.Mathlib.Decide.{ℕ_discrete}
use lib.ListN.{length, get_or, set, replicate, length-set, length-replicate, get_or-replicate}
use lib.Seq.{get_or-set_same, get_or-set_other}
use lib.Dec.{eqb}
use borrow.Author.Tests.{eqb-true, not-false}
use Rattle.image.specs.declared.type_code.Layout.TheVariants.{Dictionary}
use Rattle.image.specs.Record.{code_of, length_of, first_child, child_count}
use Rattle.image.specs.TypeCode.{layout_of}
use Rattle.image.specs.Element.{element_width, element_at}
use Rattle.image.specs.Row.{Row, range, dictionary_row, row_at}
use Rattle.image.specs.Equality.{row_equal}
use Rattle.values.specs.Pairs.{same_row, range_equal}
use Rattle.accepted.specs.Parts.{Side}
use Rattle.values.specs.Parts.{Sides, Parts}
use Rattle.accepted.proofs.Nodes.{part_node, part_at_lem, length_small}
use Rattle.accepted.proofs.ChildRows.{key_below}
use Rattle.image.proofs.Bools.{and_left, and_right}
use Rattle.values.specs.declared.pair.Pair.{Pair}
use Rattle.equal.specs.declared.dictionary.Keys.{Keys}
use Rattle.equal.specs.Keys.{KeysOf, KeyPair}
use Rattle.equal.proofs.Buffers.{element_from}
use Rattle.equal.proofs.Rows.{one_row}
use Rattle.equal.proofs.Child.{layout_right, count_left, first_sides}

pub key_row : (A B : ℕ → ℕ → Row) (a b : List ℕ) (k l x y : ℕ)
    → range_equal (A (first_child a k)) (B (first_child b l)) (element_at a k x) (element_at b l y) 1 ≡ same_row (dictionary_row A a k) (dictionary_row B b l) x y
unfolding same_row dictionary_row row_equal range
key_row A B a b k l x y = refl

module _ {a b : List ℕ} {k l i j n d : ℕ} (r : Parts a b k l i j n d) (keys : layout_of (code_of a k) ≡ Dictionary) where
  pub key_narrow : element_width a k ≤ 8
  key_narrow = (part_node r.left).widths.keys keys

  -- the values children, as they are read
  pub key_nodes : {ca cb : ℕ} → ca ≡ first_child a k → cb ≡ first_child b l → Side a ca 0 0 × Side b cb 0 0
  key_nodes fa fb =
      let one : child_count a k ≡ 1 = count_left r 1 (rw keys) in
      let sides : Sides a b (first_child a k) (first_child b l) 0 0 0 d = first_sides r 0 0 0 (omega arith) (omega arith) (omega arith) in
      rw (fa, fb) (sides.left, sides.right)

  -- element h of the range, as its keys are read
  module _ (h : ℕ) (lt : h < n) {ca cb x y : ℕ} (fa : ca ≡ first_child a k) (fb : cb ≡ first_child b l) (ex : x ≡ element_at a k (i + h)) (ey : y ≡ element_at b l (j + h)) where
    pub key_requires : Sides a b ca cb x y 1 d
    key_requires =
        let one : child_count a k ≡ 1 = count_left r 1 (rw keys) in
        let left : element_at a k (i + h) < length_of a (first_child a k) = key_below (part_at_lem r.left h lt) keys in
        let right : element_at b l (j + h) < length_of b (first_child b l) = key_below (part_at_lem r.right h lt) (layout_right r keys) in
        rw (fa, fb, ex, ey) (first_sides r _ _ 1 (omega arith) (omega arith) (omega arith))

    pub key_small : (x < 1073741824) × (y < 1073741824)
    key_small = (
      omega (arith, key_requires.left.rows, length_small a ca key_requires.left.image key_requires.left.node),
      omega (arith, key_requires.right.rows, length_small b cb key_requires.right.image key_requires.right.node),
    )

    pub key_answer : range_equal (row_at d a ca) (row_at d b cb) x y 1 ≡ same_row (dictionary_row (row_at d a) a k) (dictionary_row (row_at d b) b l) (i + h) (j + h)
    key_answer = rw (fa, fb, ex, ey) (key_row (row_at d a) (row_at d b) a b k l (i + h) (j + h))

    -- the rows that the keys name
    pub key_same : same_row (row_at d a ca) (row_at d b cb) x y ≡ same_row (dictionary_row (row_at d a) a k) (dictionary_row (row_at d b) b l) (i + h) (j + h)
    key_same = sym (one_row (row_at d a ca) (row_at d b cb) x y) ∙ key_answer

-- keys, as they are read
module _ {p : Pair} {v : Keys} {i j : ℕ} {r : ℕ × ℕ} (k : KeysOf p v) where
  pub left_key : KeyPair v i j r → r.0 ≡ element_at p.left.image.now p.left.number i
  left_key y = element_from p.left v.left i k.left_width k.left_bytes k.left_place y.left

  pub right_key : element_width p.left.image.now p.left.number ≡ element_width p.right.image.now p.right.number → KeyPair v i j r → r.1 ≡ element_at p.right.image.now p.right.number j
  right_key same y = element_from p.right v.right j (k.right_width ∙ same) k.right_bytes k.right_place y.right

-- two pairs of keys are the same
abbrev pub pair_same : (u v : ℕ × ℕ) → Bool
pair_same u v = eqb u.0 v.0 && eqb u.1 v.1

same_pair : (u : ℕ × ℕ) (x y : ℕ) → pair_same u (x, y) ≡ true → u ≡ (x, y)
same_pair (u, v) x y e =
    let eu : u ≡ x = eqb-true u x (and_left (eqb u x) (eqb v y) e) in
    let ev : v ≡ y = eqb-true v y (and_right (eqb u x) (eqb v y) e) in
    rw (eu, ev)

-- what stands in the table where no pair of keys does
abbrev pub no_keys : ℕ × ℕ
no_keys = (4294967295, 4294967295)

abbrev pub AreKeys : ℕ → ℕ → Type 0
AreKeys x y = (x, y) ≡ no_keys → ⊥

-- keys that name values
pub small_keys : (x y : ℕ) → x < 1073741824 → AreKeys x y
small_keys x y small e = let none : x ≡ 4294967295 = ap (λ (o : ℕ × ℕ). o.0) e in omega arith

-- The table of pairs: the rows of a pair that stands in it are equal.
pub record KeptPairs (g h : ℕ → Row) (table : List (ℕ × ℕ)) : Type 0 where
  pub sized : length table ≡ 1024
  pub equal : (p x y : ℕ) → p < 1024 → AreKeys x y → get_or table p (0, 0) ≡ (x, y) → same_row g h x y ≡ true

pub kept_none : (g h : ℕ → Row) → KeptPairs g h (replicate 1024 no_keys)
kept_none g h = record {
  sized = length-replicate {A = ℕ × ℕ} 1024 no_keys;
  equal = λ p x y lt keys e. absurd (keys (sym e ∙ get_or-replicate {A = ℕ × ℕ} 1024 p no_keys (0, 0) lt));
}

module _ {g h : ℕ → Row} {table : List (ℕ × ℕ)} (r : KeptPairs g h table) (x y : ℕ) where
  -- a pair that stands in the table
  pub kept_equal : {other : Bool} → AreKeys x y → other ≡ not (pair_same (get_or table (x % 1024) (0, 0)) (x, y)) → other ≡ false → same_row g h x y ≡ true
  kept_equal keys e f = r.equal (x % 1024) x y (omega arith) keys (same_pair _ x y (not-false _ (sym e ∙ f)))

  -- one pair more
  pub kept_more : same_row g h x y ≡ true → KeptPairs g h (set table (x % 1024) (x, y))
  kept_more same = record { sized = length-set table (x % 1024) _ ∙ r.sized; equal = λ p u v lt keys e. cases p u v lt keys e (ℕ_discrete p (x % 1024)) }
    where
      cases : (p u v : ℕ) → p < 1024 → AreKeys u v → get_or (set table (x % 1024) (x, y)) p (0, 0) ≡ (u, v) → Dec (p ≡ x % 1024) → same_row g h u v ≡ true
      cases p u v lt keys e (yes q) =
          let stored : (x, y) ≡ (u, v) = sym (rw q (get_or-set_same table (x % 1024) (x, y) (0, 0) (omega (arith, r.sized)))) ∙ e in
          let eu : u ≡ x = sym (ap (λ (o : ℕ × ℕ). o.0) stored) in
          let ev : v ≡ y = sym (ap (λ (o : ℕ × ℕ). o.1) stored) in
          rw (eu, ev) same
      cases p u v lt keys e (no ne) = r.equal p u v lt keys (sym (get_or-set_other table (x % 1024) p (x, y) (0, 0) ne) ∙ e)
