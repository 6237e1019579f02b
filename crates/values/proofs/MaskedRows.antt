-- Rows under null masks that agree: a row is null on both sides or its value is compared. For fixed widths and views.
-- Where all values are equal the rows are, whatever the masks; else the rows are compared one by one.
use mathlib.Core.Path.{◌≡◌, refl, sym, ap, ◌∙◌}
use mathlib.Core.Bool.{Bool, true, false, ◌&&◌}
use mathlib.Core.List.{List}
use Prim.Native.Nat.{ℕ, ◌+◌, ◌-◌, ◌<◌, ◌≤◌}
use native.Mathlib.Omega.{arith}
use Rattle.image.specs.declared.type_code.Layout.{Layout}
use Rattle.image.specs.Record.{code_of, offset_of, elements_of}
use Rattle.image.specs.TypeCode.{layout_of}
use Rattle.image.specs.Element.{valid}
use Rattle.image.specs.Row.{Row, masked}
use Rattle.image.specs.Equality.{row_equal}
use Rattle.image.proofs.Bools.{and_left, and_right, flags_same}
use Rattle.values.specs.Pairs.{all, same_row, range_equal, same_mask, masked_row}
use Rattle.values.specs.Parts.{Parts, Masked}
use Rattle.values.proofs.Steps.{by_rows, all_split, all_by, all_moved}
use Rattle.values.proofs.Blocks.{all_at}

-- pairs of a range inside another
pub all_part : (p : ℕ → ℕ → Bool) (i j n h m : ℕ) → h + m ≤ n → all p i j n ≡ true → all p (i + h) (j + h) m ≡ true
all_part p i j n h m le e =
    let whole : n ≡ h + (m + (n - (h + m))) = omega arith in
    let inner : all p i j h && all p (i + h) (j + h) (m + (n - (h + m))) ≡ true = sym (all_split p i j h (m + (n - (h + m)))) ∙ ap (all p i j) (sym whole) ∙ e in
    let rest : all p (i + h) (j + h) m && all p (i + h + m) (j + h + m) (n - (h + m)) ≡ true =
    sym (all_split p (i + h) (j + h) m (n - (h + m))) ∙ and_right (all p i j h) _ inner in
    and_left _ _ rest

module _ {x : Layout} {a b : List ℕ} {k l i j n : ℕ} (r : Masked x a b k l i j n) where
  -- m rows of them from row h on
  pub masked_part : (h m : ℕ) → h + m ≤ n → Masked x a b k l (i + h) (j + h) m
  masked_part h m le = record {
    left = record { image = r.left.image; node = r.left.node; rows = omega (arith, r.left.rows) };
    right = record { image = r.right.image; node = r.right.node; rows = omega (arith, r.right.rows) };
    layout = r.layout;
    code = r.code;
    p1 = r.p1;
    masks = all_part (same_mask a k b l) i j n h m le r.masks;
  }

  pub masked_ahead : {h m : ℕ} → h ≤ n → m ≤ n - h → Masked x a b k l (i + h) (j + h) m
  masked_ahead {h} {m} le rest = masked_part h m (omega arith)

  pub masked_row_lem : {h : ℕ} → h < n → Masked x a b k l (i + h) (j + h) 1
  masked_row_lem {h} lt = masked_part h 1 (omega arith)

  -- rows of a range whose masks agree are null together
  pub mask_at : (h : ℕ) → h < n → valid a k (i + h) ≡ valid b l (j + h)
  unfolding same_mask
  mask_at h lt = flags_same _ _ (all_at (same_mask a k b l) i j n r.masks h lt)

and_true : (x : Bool) → x && true ≡ x
and_true true = refl
and_true false = refl

-- One row of each.
module _ {x : Layout} {a b : List ℕ} {k l i j : ℕ} (r : Masked x a b k l i j 1) where
  one_mask : valid a k i ≡ valid b l j
  one_mask =
      let u : i + 0 ≡ i = omega arith in
      let v : j + 0 ≡ j = omega arith in
      rw (u, v) at (mask_at r 0 (omega arith))

  module _ (value : List ℕ → ℕ → ℕ → Row) where
    -- both are null
    pub null_rows : valid a k i ≡ false → true ≡ row_equal (masked_row value a k i) (masked_row value b l j)
    unfolding masked_row row_equal
    null_rows e =
        let other : valid b l j ≡ false = sym one_mask ∙ e in
        rw (e, other)

    -- neither is null: their values
    pub full_row : valid a k i ≡ true → row_equal (value a k (offset_of a k + i)) (value b l (offset_of b l + j)) ≡ row_equal (masked_row value a k i) (masked_row value b l j)
    unfolding masked_row
    full_row e =
        let other : valid b l j ≡ true = sym one_mask ∙ e in
        rw (e, other)

module _ (value : List ℕ → ℕ → ℕ → Row) where
  -- rows whose values are equal are equal under masks that agree
  same_masked : (a b : List ℕ) (k l i j : ℕ) → valid a k i ≡ valid b l j → row_equal (value a k (offset_of a k + i)) (value b l (offset_of b l + j)) ≡ true
      → same_row (masked_row value a k) (masked_row value b l) i j ≡ true
  unfolding same_row masked_row row_equal
  same_masked a b k l i j mask e = rw mask (cases (valid b l j))
    where
      cases : (v : Bool) → row_equal (masked v (value a k (offset_of a k + i))) (masked v (value b l (offset_of b l + j))) ≡ true
      cases true = e
      cases false = refl

  row_at : (a b : List ℕ) (k l u v h : ℕ) → same_row (value a k) (value b l) (offset_of a k + u + h) (offset_of b l + v + h) ≡ true
      → row_equal (value a k (offset_of a k + (u + h))) (value b l (offset_of b l + (v + h))) ≡ true
  unfolding same_row
  row_at a b k l u v h e =
      let x : offset_of a k + u + h ≡ offset_of a k + (u + h) = omega arith in
      let y : offset_of b l + v + h ≡ offset_of b l + (v + h) = omega arith in
      rw (x, y) at e

  pub whole_block : {x : Layout} {a b : List ℕ} {k l i j n : ℕ} → Masked x a b k l i j n
      → range_equal (value a k) (value b l) (offset_of a k + i) (offset_of b l + j) n ≡ true → true ≡ range_equal (masked_row value a k) (masked_row value b l) i j n
  whole_block {x} {a} {b} {k} {l} {i} {j} {n} r e =
      let rows : all (same_row (value a k) (value b l)) (offset_of a k + i) (offset_of b l + j) n ≡ true = by_rows _ _ _ _ n ∙ e in
      sym
      (all_by (same_row (masked_row value a k) (masked_row value b l)) i j n
      (λ h lt. same_masked a b k l (i + h) (j + h) (mask_at r h lt) (row_at a b k l i j h (all_at _ _ _ n rows h lt))))
      ∙ by_rows _ _ i j n

-- Elements none of which is null, as the rows that read them.
module _ {a b : List ℕ} {k l i j n d : ℕ} (r : Parts a b k l i j n d) where
  left_valid : (h : ℕ) → h < n → valid a k (i - offset_of a k + h) ≡ true
  left_valid h lt = r.left.not_null (i - offset_of a k + h) (omega (arith, r.left.low)) (omega (arith, r.left.low))

  right_valid : (h : ℕ) → h < n → valid b l (j - offset_of b l + h) ≡ true
  right_valid h lt = r.right.not_null (j - offset_of b l + h) (omega (arith, r.right.low)) (omega (arith, r.right.low))

  pub elements_masked : {x : Layout} → layout_of (code_of a k) ≡ x → Masked x a b k l (i - offset_of a k) (j - offset_of b l) n
  unfolding elements_of same_mask
  elements_masked is = record {
    left = record { image = r.left.image; node = r.left.node; rows = omega (arith, r.left.low, r.left.high) };
    right = record { image = r.right.image; node = r.right.node; rows = omega (arith, r.right.low, r.right.high) };
    layout = is;
    code = r.alike.0.code;
    p1 = r.alike.0.p1;
    masks = all_by (same_mask a k b l) _ _ n (λ h lt. rw (left_valid h lt, right_valid h lt));
  }

  pub elements_rows : (value : List ℕ → ℕ → ℕ → Row) → range_equal (masked_row value a k) (masked_row value b l) (i - offset_of a k) (j - offset_of b l) n ≡ range_equal (value a k) (value b l) i j n
  unfolding masked_row same_row
  elements_rows value =
      sym (by_rows _ _ _ _ n)
      ∙ all_moved (same_row (masked_row value a k) (masked_row value b l)) (same_row (value a k) (value b l)) (i - offset_of a k) (j - offset_of b l) i j n
      (λ h lt.
      let u : offset_of a k + (i - offset_of a k + h) ≡ i + h = omega (arith, r.left.low) in
      let v : offset_of b l + (j - offset_of b l + h) ≡ j + h = omega (arith, r.right.low) in
      rw (left_valid h lt, right_valid h lt, u, v))
      ∙ by_rows _ _ i j n
