-- Ranges of rows with nulls: ranges whose null masks differ are unequal; where the masks agree, null rows are equal and
-- a run of rows that are not null is compared by its values.
-- A row is null or a value, by its bit. No value is null but that of a union, and a union has no bitmap.
use mathlib.Core.Path.{◌≡◌, refl, sym, ap, ◌∙◌}
use mathlib.Core.Bool.{Bool, true, false, beq}
use mathlib.Core.List.{List}
use Prim.Native.Nat.{ℕ, zero, suc, ◌+◌, ◌-◌, ◌<◌, ◌≤◌}
use native.Mathlib.Omega.{arith}
use Rattle.image.specs.declared.type_code.Layout.{Layout}
use Rattle.image.specs.declared.type_code.Layout.TheVariants.{Null, Boolean, FixedWidth, VariableSize, View, List as Lists, ListView, FixedList, Struct, DenseUnion, SparseUnion, Dictionary, Runs}
use Rattle.image.specs.Ranges.{every}
use Rattle.image.specs.Record.{code_of, offset_of, elements_of}
use Rattle.image.specs.TypeCode.{layout_of, takes_bitmap}
use Rattle.image.specs.Element.{valid}
use Rattle.image.specs.Row.{Row, null, range, masked, boolean_row, fixed_row, variable_row, view_row, list_row, list_view_row, fixed_list_row, struct_row, dictionary_row, run_row, value_at, row_at}
use Rattle.image.specs.Equality.{row_equal}
use Rattle.image.proofs.Ranges.{every_at, range_same}
use Rattle.values.specs.Bits.{Leading}
use Rattle.values.specs.Pairs.{all, same_row, range_equal, same_mask, masked_row}
use Rattle.values.specs.Parts.{Sides, Parts, Masked}
use Rattle.values.proofs.Steps.{by_rows, all_moved}
use Rattle.values.proofs.Blocks.{all_at, all_weaker}
use Rattle.accepted.proofs.Nodes.{side_small}
use Rattle.equal.proofs.Rows.{RowsLeft, rows_more, rows_jump, rows_jump_fail}

-- no value of a layout that takes a bitmap is null
abbrev NotNull : Row → Type 0
NotNull v = (row_equal null v ≡ false) × (row_equal v null ≡ false)

value_not_null : (x : Layout) → takes_bitmap x ≡ true → (A : ℕ → ℕ → Row) (s : List ℕ) (k j : ℕ) → NotNull (value_at x A s k j)
unfolding row_equal boolean_row fixed_row variable_row view_row list_row list_view_row fixed_list_row struct_row dictionary_row run_row
value_not_null Null e A s k j = (refl, refl)
value_not_null Boolean e A s k j = (refl, refl)
value_not_null FixedWidth e A s k j = (refl, refl)
value_not_null VariableSize e A s k j = (refl, refl)
value_not_null View e A s k j = (refl, refl)
value_not_null Lists e A s k j = (refl, refl)
value_not_null ListView e A s k j = (refl, refl)
value_not_null FixedList e A s k j = (refl, refl)
value_not_null Struct e A s k j = (refl, refl)
value_not_null DenseUnion e A s k j = (cc, cc)
value_not_null SparseUnion e A s k j = (cc, cc)
value_not_null Dictionary e A s k j = (refl, refl)
value_not_null Runs e A s k j = (refl, refl)

-- rows that are null or a value, by two bits
bits_differ : (x y : Bool) (v w : Row) → (beq x y ≡ false → NotNull v × NotNull w) → beq x y ≡ false → row_equal (masked x v) (masked y w) ≡ false
bits_differ true true v w some e = cc
bits_differ true false v w some e = (some e).0.1
bits_differ false true v w some e = (some e).1.0
bits_differ false false v w some e = cc

both_null : (x y : Bool) (v w : Row) → beq x y ≡ true → x ≡ false → row_equal (masked x v) (masked y w) ≡ true
unfolding row_equal
both_null true y v w e is = cc
both_null false true v w e is = cc
both_null false false v w e is = refl

both_valid : (x y : Bool) (v w : Row) → beq x y ≡ true → x ≡ true → row_equal (masked x v) (masked y w) ≡ row_equal v w
both_valid true true v w e is = refl
both_valid true false v w e is = cc
both_valid false y v w e is = cc

bit_right : (x y : Bool) → beq x y ≡ true → x ≡ true → y ≡ true
bit_right true true e is = refl
bit_right true false e is = e
bit_right false y e is = cc

beq_true : (x y : Bool) → x ≡ true → y ≡ true → beq x y ≡ true
beq_true true true e f = refl
beq_true true false e f = f
beq_true false y e f = cc

module _ (a b : List ℕ) (k l d : ℕ) where
  -- both rows null
  null_row : (i j : ℕ) → same_mask a k b l i j ≡ true → valid a k i ≡ false → same_row (row_at (suc d) a k) (row_at (suc d) b l) i j ≡ true
  unfolding same_mask same_row row_at
  null_row i j same is = both_null (valid a k i) (valid b l j) _ _ same is

  -- neither row null
  valid_row : (i j : ℕ) → same_mask a k b l i j ≡ true → valid a k i ≡ true
      → same_row (row_at (suc d) a k) (row_at (suc d) b l) i j ≡ same_row (value_at (layout_of (code_of a k)) (row_at d a) a k) (value_at (layout_of (code_of b l)) (row_at d b) b l) (offset_of a k + i) (offset_of b l + j)
  unfolding same_mask same_row row_at
  valid_row i j same is = both_valid (valid a k i) (valid b l j) _ _ same is

  right_valid : (i j : ℕ) → same_mask a k b l i j ≡ true → valid a k i ≡ true → valid b l j ≡ true
  unfolding same_mask
  right_valid i j same is = bit_right (valid a k i) (valid b l j) same is

  -- one row null and the other not
  mask_differs : takes_bitmap (layout_of (code_of a k)) ≡ true → takes_bitmap (layout_of (code_of b l)) ≡ true → (i j : ℕ) → same_mask a k b l i j ≡ false → same_row (row_at (suc d) a k) (row_at (suc d) b l) i j ≡ false
  unfolding same_mask same_row row_at
  mask_differs ta tb i j e =
      bits_differ (valid a k i) (valid b l j) _ _ (λ h. (value_not_null (layout_of (code_of a k)) ta (row_at d a) a k _, value_not_null (layout_of (code_of b l)) tb (row_at d b) b l _)) e

  masks_true : ((i : ℕ) → valid a k i ≡ true) → ((j : ℕ) → valid b l j ≡ true) → (i j : ℕ) → same_mask a k b l i j ≡ true
  unfolding same_mask
  masks_true va vb i j = beq_true (valid a k i) (valid b l j) (va i) (vb j)

-- ranges whose masks differ
pub masks_differ : {a b : List ℕ} {k l i j n d : ℕ} → Sides a b k l i j n (suc d) → all (same_mask a k b l) i j n ≡ false → false ≡ range_equal (row_at (suc d) a k) (row_at (suc d) b l) i j n
masks_differ {a} {b} {k} {l} {i} {j} {n} {d} r e =
    sym (sym (by_rows (row_at (suc d) a k) (row_at (suc d) b l) i j n)
    ∙ all_weaker (same_mask a k b l) (same_row (row_at (suc d) a k) (row_at (suc d) b l)) i j n (λ h lt. cases (takes_bitmap (layout_of (code_of a k))) refl (i + h) (j + h)) e)
  where
    right : layout_of (code_of b l) ≡ layout_of (code_of a k)
    right = ap layout_of (sym r.alike.0.code)

    cases : (x : Bool) → takes_bitmap (layout_of (code_of a k)) ≡ x → (i j : ℕ) → same_mask a k b l i j ≡ false → same_row (row_at (suc d) a k) (row_at (suc d) b l) i j ≡ false
    cases true is i j e = mask_differs a b k l d is (ap takes_bitmap right ∙ is) i j e
    cases false is i j e =
        let same = masks_true a b k l d ((r.left.image.node k r.left.node).known.all_valid is) ((r.right.image.node l r.right.node).known.all_valid (ap takes_bitmap right ∙ is)) i j in
        cc

-- A run of m rows from row h of a range on, none of them null, where the masks agree.
module _ {a b : List ℕ} {k l i j n d : ℕ} (r : Sides a b k l i j n (suc d)) (masks : all (same_mask a k b l) i j n ≡ true) (h m : ℕ) (le : h + m ≤ n) (some : (x : ℕ) → x < m → valid a k (i + h + x) ≡ true) where
  mask_at : (x : ℕ) → x < m → same_mask a k b l (i + h + x) (j + h + x) ≡ true
  mask_at x lt =
      let u : i + h + x ≡ i + (h + x) = omega arith in
      let v : j + h + x ≡ j + (h + x) = omega arith in
      rw (u, v) (all_at (same_mask a k b l) i j n masks (h + x) (omega arith))

  some_right : (x : ℕ) → x < m → valid b l (j + h + x) ≡ true
  some_right x lt = right_valid a b k l d (i + h + x) (j + h + x) (mask_at x lt) (some x lt)

  -- what the comparison of their values asks for
  pub run_requires : Parts a b k l (offset_of a k + i + h) (offset_of b l + j + h) m d
  unfolding elements_of
  run_requires = record {
    left = record {
      image = r.left.image;
      node = r.left.node;
      low = omega arith;
      high = omega (arith, r.left.rows);
      not_null = λ x low high.
          let e : i + h + (x - (i + h)) ≡ x = omega arith in
          rw e at (some (x - (i + h)) (omega arith));
    };
    right = record {
      image = r.right.image;
      node = r.right.node;
      low = omega arith;
      high = omega (arith, r.right.rows);
      not_null = λ x low high.
          let e : j + h + (x - (j + h)) ≡ x = omega arith in
          rw e at (some_right (x - (j + h)) (omega arith));
    };
    alike = r.alike;
  }

  -- their values are compared
  pub run_answer : range_equal (value_at (layout_of (code_of a k)) (row_at d a) a k) (value_at (layout_of (code_of b l)) (row_at d b) b l) (offset_of a k + i + h) (offset_of b l + j + h) m ≡ range_equal (row_at (suc d) a k) (row_at (suc d) b l) (i + h) (j + h) m
  run_answer =
      sym (sym (by_rows (row_at (suc d) a k) (row_at (suc d) b l) (i + h) (j + h) m)
      ∙ all_moved (same_row (row_at (suc d) a k) (row_at (suc d) b l)) (same_row (value_at (layout_of (code_of a k)) (row_at d a) a k) (value_at (layout_of (code_of b l)) (row_at d b) b l)) (i + h) (j + h) (offset_of a k + i + h) (offset_of b l + j + h) m
      (λ x lt.
      let u : offset_of a k + i + h + x ≡ offset_of a k + (i + h + x) = omega arith in
      let v : offset_of b l + j + h + x ≡ offset_of b l + (j + h + x) = omega arith in
      rw (u, v) (valid_row a b k l d (i + h + x) (j + h + x) (mask_at x lt) (some x lt)))
      ∙ by_rows (value_at (layout_of (code_of a k)) (row_at d a) a k) (value_at (layout_of (code_of b l)) (row_at d b) b l) (offset_of a k + i + h) (offset_of b l + j + h) m)

-- rows are few
pub sides_left : {a b : List ℕ} {k l i j n d : ℕ} → Sides a b k l i j n d → offset_of a k + i + n ≤ 1073741824
sides_left {a} {k = k} {i = i} {n = n} r = side_small a k i n r.left

pub sides_right : {a b : List ℕ} {k l i j n d : ℕ} → Sides a b k l i j n d → offset_of b l + j + n ≤ 1073741824
sides_right {b = b} {l = l} {j = j} {n = n} r = side_small b l j n r.right

-- The loop over runs of rows that are not null: m rows from row h on are not null, up to the first that is.
module _ {a b : List ℕ} {k l i j n d h m : ℕ} (r : Sides a b k l i j n (suc d)) (masks : all (same_mask a k b l) i j n ≡ true) (kept : RowsLeft (row_at (suc d) a k) (row_at (suc d) b l) i j n h) (lead : Leading (valid a k) (i + h) (n - h) m) where
  -- row h is null
  pub null_more : h < n → m ≡ 0 → RowsLeft (row_at (suc d) a k) (row_at (suc d) b l) i j n (h + 1)
  null_more lt none =
      let z : i + h + 0 ≡ i + h = omega arith in
      let is : valid a k (i + h) ≡ false = rw (none, z) at (lead.stops (omega arith)) in
      rows_more kept lt (null_row a b k l d (i + h) (j + h) (all_at (same_mask a k b l) i j n masks h lt) is)

  run_within : h + m ≤ n
  run_within = omega (arith, lead.within, kept.pairs.within)

  pub valid_requires : Parts a b k l (offset_of a k + i + h) (offset_of b l + j + h) m d
  valid_requires = run_requires r masks h m run_within lead.holds

  -- the run is equal, or not
  pub valid_more : range_equal (value_at (layout_of (code_of a k)) (row_at d a) a k) (value_at (layout_of (code_of b l)) (row_at d b) b l) (offset_of a k + i + h) (offset_of b l + j + h) m ≡ true → RowsLeft (row_at (suc d) a k) (row_at (suc d) b l) i j n (h + m)
  valid_more e = rows_jump kept m lead.within (sym (run_answer r masks h m run_within lead.holds) ∙ e)

  pub valid_fail : range_equal (value_at (layout_of (code_of a k)) (row_at d a) a k) (value_at (layout_of (code_of b l)) (row_at d b) b l) (offset_of a k + i + h) (offset_of b l + j + h) m ≡ false → false ≡ range_equal (row_at (suc d) a k) (row_at (suc d) b l) i j n
  valid_fail e = rows_jump_fail kept m lead.within (sym (run_answer r masks h m run_within lead.holds) ∙ e)

-- rows of nodes without children: `value` gives the values of their layout
module _ {a b : List ℕ} {k l i j n d : ℕ} (r : Sides a b k l i j n (suc d)) {x : Layout} (layout : layout_of (code_of a k) ≡ x) where
  pub masked_requires : all (same_mask a k b l) i j n ≡ true → Masked x a b k l i j n
  masked_requires masks = record { left = r.left; right = r.right; layout = layout; code = r.alike.0.code; p1 = r.alike.0.p1; masks = masks }

  module _ (value : List ℕ → ℕ → ℕ → Row) (known : (A : ℕ → ℕ → Row) (s : List ℕ) (k j : ℕ) → value s k j ≡ value_at x A s k j) where
    leaf_row : (s : List ℕ) (k i : ℕ) → layout_of (code_of s k) ≡ x → masked_row value s k i ≡ row_at (suc d) s k i
    unfolding masked_row row_at
    leaf_row s k i e = rw (e, ← known (row_at d s) s k (offset_of s k + i))

    pub masked_answer : range_equal (masked_row value a k) (masked_row value b l) i j n ≡ range_equal (row_at (suc d) a k) (row_at (suc d) b l) i j n
    masked_answer =
        rw (
          range_same (masked_row value a k) (row_at (suc d) a k) i n (λ x le lt. leaf_row a k x layout),
          range_same (masked_row value b l) (row_at (suc d) b l) j n (λ x le lt. leaf_row b l x (ap layout_of (sym r.alike.0.code) ∙ layout)),
        )

-- A range at any depth.
-- with no depth left all rows are equal
nulls : (a b : List ℕ) (k l i j n : ℕ) → true ≡ range_equal (row_at 0 a k) (row_at 0 b l) i j n
unfolding row_at range row_equal
nulls a b k l i j zero = refl
nulls a b k l i j (suc n) = nulls a b k l (suc i) (suc j) n

pub range_none : (a b : List ℕ) (k l i j n d : ℕ) → d ≡ 0 → true ≡ range_equal (row_at d a k) (row_at d b l) i j n
range_none a b k l i j n d e = rw e (nulls a b k l i j n)

module _ {a b : List ℕ} {k l i j n d : ℕ} (r : Sides a b k l i j n d) (deep : d ≡ 0 → ⊥) where
  less : suc (d - 1) ≡ d
  less = sym (positive d deep)
    where
      positive : (d : ℕ) → (d ≡ 0 → ⊥) → d ≡ suc (d - 1)
      positive zero ne = absurd (ne refl)
      positive (suc d) ne = omega arith

  -- one level deeper
  pub range_sides : Sides a b k l i j n (suc (d - 1))
  range_sides = rw less r

  pub range_once : Sides a b k l i j n 1
  range_once = record { left = r.left; right = r.right; alike = (range_sides.alike.0, λ c lt. tt) }

  pub range_rows : range_equal (row_at (suc (d - 1)) a k) (row_at (suc (d - 1)) b l) i j n ≡ range_equal (row_at d a k) (row_at d b l) i j n
  range_rows = rw less

  pub range_masks : all (same_mask a k b l) i j n ≡ false → false ≡ range_equal (row_at d a k) (row_at d b l) i j n
  range_masks e = masks_differ range_sides e ∙ range_rows

  -- no row null
  module _ (masks : all (same_mask a k b l) i j n ≡ true) (some : every (valid a k) i n ≡ true) where
    some_at : (x : ℕ) → x < n → valid a k (i + 0 + x) ≡ true
    some_at x lt = every_at (valid a k) i n some (i + 0 + x) (omega arith) (omega arith)

    pub range_requires : Parts a b k l (offset_of a k + i) (offset_of b l + j) n (d - 1)
    range_requires =
        let xi : offset_of a k + i + 0 ≡ offset_of a k + i = omega arith in
        let xj : offset_of b l + j + 0 ≡ offset_of b l + j = omega arith in
        rw (xi, xj) at (run_requires range_sides masks 0 n (omega arith) some_at)

    pub range_answer : range_equal (value_at (layout_of (code_of a k)) (row_at (d - 1) a) a k) (value_at (layout_of (code_of b l)) (row_at (d - 1) b) b l) (offset_of a k + i) (offset_of b l + j) n ≡ range_equal (row_at d a k) (row_at d b l) i j n
    range_answer =
        let zi : i + 0 ≡ i = omega arith in
        let zj : j + 0 ≡ j = omega arith in
        let xi : offset_of a k + i + 0 ≡ offset_of a k + i = omega arith in
        let xj : offset_of b l + j + 0 ≡ offset_of b l + j = omega arith in
        rw (xi, xj, zi, zj) at (run_answer range_sides masks 0 n (omega arith) some_at) ∙ range_rows
