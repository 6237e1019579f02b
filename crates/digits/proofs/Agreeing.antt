-- Rows of two columns of numbers under null masks that agree: their kept values, and what the rows' own equality says of these.
-- Bytes that are the same make the same number; where a mask differs, the rows do.
use mathlib.Core.Path.{◌≡◌, refl, sym, ap₂, ◌∙◌}
use mathlib.Core.Bool.{Bool, true, false, not, ◌||◌, false≢true, or-true, or-false}
use mathlib.Core.List.{List}
use mathlib.Core.Logic.{◌⊎◌, inl, inr, ⊎_elim}
use Prim.Native.Nat.{ℕ, zero, suc, ◌+◌, ◌*◌, ◌-◌, ◌≤◌, ◌<◌, ◌^◌}
use native.Mathlib.Omega.{arith}
use native.Mathlib.Decide.{ℕ_discrete}
use lib.ListN.{length}
use lib.Dec.{eqb, ltb}
use borrow.Author.Tests.{eqb-true, ne_eqb, ltb-false, lt-ltb, le-ltb}
use Rattle.image.specs.declared.element.Bitmap.{Bitmap}
use Rattle.std.specs.Prelude.{Option, None, Some}
use Rattle.image.specs.declared.type_code.Layout.TheVariants.{FixedWidth}
use Rattle.image.specs.Ranges.{every}
use Rattle.image.specs.Bytes.{byte_at, number_at, bytes_at}
use Rattle.image.specs.Record.{max_depth, code_of, offset_of}
use Rattle.image.specs.Reads.{Read, BitmapOf}
use Rattle.image.specs.TypeCode.{entries, entry_of, layout_of, width_of}
use Rattle.image.specs.Element.{valid, element_width, element_place, element_at}
use Rattle.image.specs.Types.{same_bytes}
use Rattle.image.specs.Row.{fixed_row}
use Rattle.image.specs.Equality.{row_equal}
use Rattle.image.specs.Digits.{same_whole, stored_at, kept_at, kept_agree, digits_equal, not_digits}
use Rattle.image.proofs.Bools.{and_left, and_right}
use Rattle.laws.proofs.Rounding.{same_whole_lem}
use Rattle.values.specs.declared.leaf.Columns.{Columns}
use Rattle.values.specs.Pairs.{all, same_row, same_mask, range_equal, masked_row}
use Rattle.values.specs.Parts.{Sides, ColumnsAt}
use Rattle.values.proofs.Steps.{all_by, by_rows}
use Rattle.values.proofs.Blocks.{all_at, all_weaker}
use Rattle.values.proofs.MaskedRows.{mask_at, masked_ahead, masked_row_lem}
use Rattle.values.proofs.Fixed.{masked_fixed}
use Rattle.values.proofs.ValidElements.{left_inside, right_inside, place_of}
use Rattle.values.specs.declared.pair.Pair.{Pair}
use Rattle.values.specs.declared.pair.Rows.{Rows}
use Rattle.values.specs.Pair.{Roots, part}
use Rattle.digits.specs.Parts.{TwoNumbers, Numbers, MaskRead, NumbersOf, ColumnedOf}
use Rattle.digits.proofs.Sizes.{agreed_at}

-- a test of each k below n is one of the pairs in step
every_pair : (p : ℕ → ℕ → Bool) (i j h n : ℕ) → every (λ k. p (i + k) (j + k)) h n ≡ all p (i + h) (j + h) n
unfolding every all
every_pair p i j h zero = refl
every_pair p i j h (suc n) =
    let x : i + suc h ≡ suc (i + h) = omega arith in
    let y : j + suc h ≡ suc (j + h) = omega arith in
    rw (← x, ← y, every_pair p i j (suc h) n)

pub by_pairs : {p : ℕ} (d : ℕ) (a b : List ℕ) (i j n : ℕ) → p ≡ 10 ^ d → all (kept_agree p a b) i j n ≡ digits_equal d a b i j n
unfolding digits_equal
by_pairs {p} d a b i j n e =
    let x : i + 0 ≡ i = omega arith in
    let y : j + 0 ≡ j = omega arith in
    rw (← e) (sym (rw (x, y) at (every_pair (kept_agree p a b) i j 0 n)))

-- bytes that are the same make the same number
same_number : (a b : List ℕ) (w i j : ℕ) → same_bytes (bytes_at a i w) (bytes_at b j w) ≡ true → number_at w a i ≡ number_at w b j
unfolding same_bytes bytes_at number_at
same_number a b zero i j e = refl
same_number a b (suc w) i j e =
    ap₂ (λ (x y : ℕ). x + 256 * y) (eqb-true _ _ (and_left _ _ e)) (same_number a b w (suc i) (suc j) (and_right (eqb (byte_at a i) (byte_at b j)) _ e))

-- One row of each, whose masks agree.
module _ (p : ℕ) (a b : List ℕ) (i j : ℕ) (mask : valid a 0 i ≡ valid b 0 j) where
  -- both are null
  null_agree : valid a 0 i ≡ false → kept_agree p a b i j ≡ true
  unfolding kept_agree
  null_agree e =
      let f : valid b 0 j ≡ false = sym mask ∙ e in
      rw (e, f)

  -- neither is null
  kept_decide : valid a 0 i ≡ true → kept_agree p a b i j ≡ same_whole (kept_at p a i) (kept_at p b j)
  unfolding kept_agree
  kept_decide e =
      let f : valid b 0 j ≡ true = sym mask ∙ e in
      rw (e, f)

  -- rows that are equal agree
  row_agrees : element_width a 0 ≡ element_width b 0 → same_row (masked_row fixed_row a 0) (masked_row fixed_row b 0) i j ≡ true → kept_agree p a b i j ≡ true
  unfolding same_row masked_row fixed_row row_equal kept_at stored_at element_at
  row_agrees width e = cases (valid a 0 i) refl
    where
      cases : (v : Bool) → valid a 0 i ≡ v → kept_agree p a b i j ≡ true
      cases false is = null_agree is
      cases true is =
          let f : valid b 0 j ≡ true = sym mask ∙ is in
          let bytes : same_bytes (bytes_at a (element_place a 0 (offset_of a 0 + i)) (element_width a 0)) (bytes_at b (element_place b 0 (offset_of b 0 + j)) (element_width a 0)) ≡ true = rw (is, f, ← width) at e in
          let number : number_at (element_width a 0) a (element_place a 0 (offset_of a 0 + i)) ≡ number_at (element_width a 0) b (element_place b 0 (offset_of b 0 + j)) = same_number a b (element_width a 0) _ _ bytes in
          kept_decide is ∙ rw (← width, number) ((same_whole_lem _ _).1 refl)

  -- the stored numbers, as they are read
  numbers_decide : {w x y place-a place-b : ℕ} → w ≡ element_width a 0 → w ≡ element_width b 0 → valid a 0 i ≡ true
      → place-a ≡ element_place a 0 (offset_of a 0 + i) → place-b ≡ element_place b 0 (offset_of b 0 + j)
      → x ≡ number_at w a place-a → y ≡ number_at w b place-b
      → agreed_at p w x y ≡ kept_agree p a b i j
  unfolding kept_at stored_at element_at
  numbers_decide ea eb is pa pb ex ey = sym (kept_decide is ∙ rw (← ea, ← eb, ← pa, ← pb, ← ex, ← ey))

module _ {a b : List ℕ} {i j n : ℕ} (r : Numbers a b i j n) where
  widths : element_width a 0 ≡ element_width b 0
  widths = (masked_fixed r.rows).width

  -- m of these rows from row h on
  pub numbers_ahead : {h m : ℕ} → h ≤ n → m ≤ n - h → Numbers a b (i + h) (j + h) m
  numbers_ahead le rest = record { rows = masked_ahead r.rows le rest; width = r.width }

  pub numbers_row : {h : ℕ} → h < n → Numbers a b (i + h) (j + h) 1
  numbers_row lt = record { rows = masked_row_lem r.rows lt; width = r.width }

  -- rows that are equal agree
  pub equal_agree : (p : ℕ) → range_equal (masked_row fixed_row a 0) (masked_row fixed_row b 0) i j n ≡ true → true ≡ all (kept_agree p a b) i j n
  equal_agree p e =
      let rows : all (same_row (masked_row fixed_row a 0) (masked_row fixed_row b 0)) i j n ≡ true = by_rows _ _ i j n ∙ e in
      sym (all_by (kept_agree p a b) i j n (λ h lt. row_agrees p a b (i + h) (j + h) (mask_at r.rows h lt) widths (all_at _ i j n rows h lt)))

  -- columns that are not of 4 bytes are of 8
  pub wide : {v : Columns} → ColumnsAt a b 0 0 v → (v.width ≡ 4 → ⊥) → v.width ≡ 8
  wide y ne = y.width ∙ r.width (λ h. ne (y.width ∙ h))

-- The null mask, as what reads by it asks for it.
pub mask_of : {s : List ℕ} (m : Option Bitmap) → MaskRead s m → BitmapOf s 0 m
mask_of None r = r.alone refl
mask_of (Some x) r = r.bits x refl

-- One row of each, as its number is read.
module _ {c : Pair} {s : Rows} {k w : ℕ} {v : Columns} {m : Option Bitmap} (n : NumbersOf c s) (y : ColumnedOf c v m) (same : w ≡ v.width) (lt : k < s.count) where
  abbrev a : List ℕ
  a = c.left.image.now

  abbrev b : List ℕ
  b = c.right.image.now

  abbrev i : ℕ
  i = s.left + k

  abbrev j : ℕ
  j = s.right + k

  row : Numbers a b i j 1
  row = numbers_row n.numbers lt

  left_width : w ≡ element_width a 0
  left_width = same ∙ y.places.width

  right_width : w ≡ element_width b 0
  right_width = left_width ∙ widths row

  width : (w ≡ 4) ⊎ (w ≡ 8)
  width = cases (ℕ_discrete w 4)
    where
      cases : Dec (w ≡ 4) → (w ≡ 4) ⊎ (w ≡ 8)
      cases (yes e) = inl e
      cases (no ne) = inr (left_width ∙ row.width (λ h. ne (left_width ∙ h)))

  pub narrow : w ≤ 8
  narrow = ⊎_elim (λ (h : w ≡ 4). omega arith) (λ (h : w ≡ 8). omega arith) width

  pub left_room : v.left + i * w + w ≤ length a
  left_room = rw same (omega (arith, left_inside row.rows y.places))

  pub right_room : v.right + j * w + w ≤ length b
  right_room = rw same (omega (arith, right_inside row.rows y.places))

  one_mask : valid a 0 i ≡ valid b 0 j
  one_mask =
      let u : i + 0 ≡ i = omega arith in
      let t : j + 0 ≡ j = omega arith in
      rw (u, t) at (mask_at row.rows 0 (omega arith))

  pub nulls_agree : (p : ℕ) → valid a 0 i ≡ false → true ≡ kept_agree p a b i j
  nulls_agree p e = sym (null_agree p a b i j one_mask e)

  module _ {x z : ℕ} (ex : Read (number_at w a (v.left + i * w)) (8 * w) x) (ez : Read (number_at w b (v.right + j * w)) (8 * w) z) where
    pub two_numbers : TwoNumbers w x z
    two_numbers = record {
      some = ⊎_elim (λ (h : w ≡ 4). omega arith) (λ (h : w ≡ 8). omega arith) width;
      narrow = ⊎_elim (λ (h : w ≡ 4). omega arith) (λ (h : w ≡ 8). omega arith) width;
      left = ex.small;
      right = ez.small;
    }

    -- neither is null
    pub read_agree : (p : ℕ) {t : Bool} → valid a 0 i ≡ true → t ≡ agreed_at p w x z → t ≡ kept_agree p a b i j
    read_agree p is e =
        e ∙ numbers_decide p a b i j one_mask left_width right_width is
        (place_of a 0 i y.places.left left_width) (place_of b 0 j y.places.right right_width) ex.value ez.value

    -- numbers that are the same, under nulls or not
    pub same_agree : (p : ℕ) → x ≡ z → true ≡ kept_agree p a b i j
    same_agree p e = cases (valid a 0 i) refl
      where
        cases : (t : Bool) → valid a 0 i ≡ t → true ≡ kept_agree p a b i j
        cases true is = read_agree p is (sym (rw e ((same_whole_lem _ _).1 refl)))
        cases false is = nulls_agree p is

-- rows whose masks differ do not agree
pub masks_differ : (p : ℕ) (a b : List ℕ) (i j n : ℕ) → all (same_mask a 0 b 0) i j n ≡ false → all (kept_agree p a b) i j n ≡ false
unfolding same_mask kept_agree
masks_differ p a b i j n e = all_weaker (same_mask a 0 b 0) (kept_agree p a b) i j n (λ k lt h. rw h) e

-- Whether the root is Decimal32 or Decimal64, and the digits are few.
module _ (s : List ℕ) (d : ℕ) where
  pub too_many_lem : 9 < d → true ≡ not_digits s d
  unfolding not_digits
  too_many_lem many = rw (lt-ltb 9 d many) (sym (or-true (not (eqb (code_of s 0) 15 || eqb (code_of s 0) 16))))

  module _ {root : ℕ} (few : d ≤ 9) (is : Read (code_of s 0) 8 root) where
    pub is_decimal32 : root ≡ 15 → false ≡ not_digits s d
    unfolding not_digits
    is_decimal32 e = rw (← is.value, e, le-ltb 9 d few)

    pub else_decimal64 : (root ≡ 15 → ⊥) → not (eqb root 16) ≡ not_digits s d
    unfolding not_digits
    else_decimal64 other = rw (← is.value, ne_eqb root 15 other, le-ltb 9 d few) (sym (or-false (not (eqb root 16))))

decimal : (c d : ℕ) → not (eqb c 15 || eqb c 16) || ltb 9 d ≡ false → ((c ≡ 15) ⊎ (c ≡ 16)) × (d ≤ 9)
decimal c d e = cases (eqb c 15) (eqb c 16) (ltb 9 d) refl refl refl e
  where
    cases : (x y z : Bool) → eqb c 15 ≡ x → eqb c 16 ≡ y → ltb 9 d ≡ z → not (x || y) || z ≡ false → ((c ≡ 15) ⊎ (c ≡ 16)) × (d ≤ 9)
    cases true y false ex ey ez h = (inl (eqb-true c 15 ex), ltb-false 9 d ez)
    cases false true false ex ey ez h = (inr (eqb-true c 16 ey), ltb-false 9 d ez)
    cases true y true ex ey ez h = absurd (false≢true (sym h))
    cases false true true ex ey ez h = absurd (false≢true (sym h))
    cases false false z ex ey ez h = absurd (false≢true (sym h))

module _ (a : List ℕ) (d : ℕ) (fit : not_digits a d ≡ false) where
  told : ((code_of a 0 ≡ 15) ⊎ (code_of a 0 ≡ 16)) × (d ≤ 9)
  unfolding not_digits
  told = decimal (code_of a 0) d fit

  pub decimal_root : (code_of a 0 ≡ 15) ⊎ (code_of a 0 ≡ 16)
  decimal_root = told.0

  pub few_digits : d ≤ 9
  few_digits = told.1

  pub decimal_layout : layout_of (code_of a 0) ≡ FixedWidth
  unfolding layout_of entry_of entries
  decimal_layout = ⊎_elim (λ (h : code_of a 0 ≡ 15). rw h) (λ (h : code_of a 0 ≡ 16). rw h) told.0

  decimal_width : (element_width a 0 ≡ 4 → ⊥) → element_width a 0 ≡ 8
  unfolding element_width width_of entry_of entries
  decimal_width ne = ⊎_elim (λ (h : code_of a 0 ≡ 15). absurd (ne (rw h))) (λ (h : code_of a 0 ≡ 16). rw h) told.0

  pub numbers_of : {b : List ℕ} {i j n : ℕ} → Sides a b 0 0 i j n max_depth → all (same_mask a 0 b 0) i j n ≡ true → Numbers a b i j n
  numbers_of r masks = record {
    rows = record { left = r.left; right = r.right; layout = decimal_layout; code = r.alike.0.code; p1 = r.alike.0.p1; masks = masks };
    width = decimal_width;
  }

-- Parts of the rows of two roots.
pub part_of : {v : Pair} {r : Rows} (k m : ℕ) → NumbersOf v r → k + m ≤ r.count → NumbersOf v (part r k m)
part_of k m n le = record { left_root = n.left_root; right_root = n.right_root; numbers = numbers_ahead n.numbers (omega arith) (omega arith) }

pub roots_of : {a b : List ℕ} {v : Pair} {r : Rows} → Roots a b v → Numbers a b r.left r.right r.count → NumbersOf v r
roots_of roots n = record { left_root = roots.left_root; right_root = roots.right_root; numbers = rw (roots.left_image, roots.right_image) n }
