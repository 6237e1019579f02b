-- Rows of two nodes without bitmaps, one pair at a time: where their elements and texts stand, and when they are equal.
-- A row of such a node is its value, and acceptance has it inside the image.
use mathlib.Core.Path.{◌≡◌, refl, sym, ap, ap₂, ◌∙◌}
use mathlib.Core.Bool.{Bool, true, false, cond}
use mathlib.Core.List.{List}
use Prim.Native.Nat.{ℕ, suc, ◌+◌, ◌*◌, ◌-◌, ◌^◌, ◌<◌, ◌≤◌}
use native.Mathlib.Omega.{arith}
use native.Mathlib.Nat.{add-mul, mul-le-mul_right}
use lib.ListN.{length}
use lib.Dec.{eqb, leb}
use borrow.Author.Tests.{eqb-true, leb-true}
use Rattle.image.specs.declared.type_code.Layout.{Layout}
use Rattle.image.specs.declared.type_code.Layout.TheVariants.{FixedWidth, VariableSize}
use Rattle.image.specs.Bytes.{number_at, bytes_at}
use Rattle.image.specs.Record.{code_of, offset_of, has_bitmap, elements_of, buffer_place}
use Rattle.image.specs.Ranges.{every}
use Rattle.image.specs.TypeCode.{layout_of, entry_of, entries, integer_width, width_of, p1_fits}
use Rattle.image.proofs.Bools.{and_right}
use Rattle.image.proofs.Ranges.{every_below}
use Rattle.image.proofs.Widths.{integer_width_lem}
use Rattle.image.specs.Element.{valid, element_width, element_place, element_at}
use Rattle.image.specs.Types.{same_bytes}
use Rattle.image.specs.Row.{fixed, sized, range, row_at, value_at, fixed_row, variable_row}
use Rattle.image.specs.Equality.{row_equal}
use Rattle.image.specs.Reads.{Read, Nth, Packed}
use Rattle.image.specs.declared.bytes.Numbers.{Numbers}
use Rattle.values.specs.Pairs.{range_equal}
use Rattle.accepted.specs.Parts.{Side, Part, Elements}
use Rattle.values.specs.Parts.{Sides, Leaf, LeafPair, TextPair}
use Rattle.accepted.proofs.Fixed.{spanned}
use Rattle.accepted.proofs.Nodes.{side_small}
use Rattle.image.proofs.NameBytes.{other_length}
use Rattle.values.proofs.Steps.{and_true}
use Rattle.accepted.proofs.Texts.{text_narrow, text_offsets, text_inside}
use Rattle.laws.proofs.Codes.{text_offset_width}
use Rattle.values.proofs.Distances.{is_width_lem}
use Rattle.values.proofs.Texts.{text_up}

-- the elements of some rows
side_elements : {s : List ℕ} {k i n : ℕ} → Side s k i n → layout_of (code_of s k) ≡ FixedWidth → Elements s k (offset_of s k + i) n
unfolding elements_of
side_elements r e = record { image = r.image; node = r.node; fixed = e; high = omega (arith, r.rows) }

-- without a bitmap no row is null
whole_valid : (s : List ℕ) (k i : ℕ) → has_bitmap s k ≡ false → valid s k i ≡ true
unfolding valid
whole_valid s k i e = rw e

-- the elements of some rows of a node without a bitmap
side_part : {s : List ℕ} {k i n : ℕ} → Side s k i n → has_bitmap s k ≡ false → Part s k (offset_of s k + i) n
unfolding elements_of
side_part {s} {k} r whole = record { image = r.image; node = r.node; low = omega arith; high = omega (arith, r.rows); not_null = λ h lo hi. whole_valid s k h whole }

-- elements of a known code have fewer than 2 ^ 32 bytes
own_width : (code : ℕ) → code ≤ 43 → leb (entry_of code).width 32 ≡ true
unfolding every entry_of entries
own_width code le = every_below (λ c. leb (entry_of c).width 32) 44 refl code (omega arith)

given_width : (code p1 : ℕ) → code ≡ 30 → p1_fits code p1 ≡ true → p1 ≤ 16777216
unfolding p1_fits entry_of entries
given_width code p1 e fits = leb-true _ _ (and_right (leb 0 p1) _ (rw e at fits))

known_width : (code p1 : ℕ) → code ≤ 43 → p1_fits code p1 ≡ true → width_of code p1 < 2 ^ 32
unfolding width_of
known_width code p1 le fits = cases (eqb code 30) refl (eqb code 41)
  where
    cases : (x : Bool) → eqb code 30 ≡ x → (y : Bool) → cond x p1 (cond y (integer_width p1) (entry_of code).width) < 2 ^ 32
    cases true e y = omega (arith, given_width code p1 (eqb-true _ _ e) fits)
    cases false e true = omega (arith, integer_width_lem p1)
    cases false e false = omega (arith, leb-true _ _ (own_width code le))

pub side_width : {s : List ℕ} {k i n : ℕ} → Side s k i n → element_width s k < 2 ^ 32
unfolding element_width
side_width {s} {k} r =
    let known = (r.image.node k r.node).known in
    known_width _ _ known.code known.p1

-- where the element of row 0 starts
pub first_at : (s : List ℕ) (k : ℕ) {w p : ℕ} → w ≡ element_width s k → p ≡ buffer_place s k 0 + offset_of s k * w → p ≡ element_place s k (offset_of s k)
unfolding element_place
first_at s k ew e = e ∙ rw ew

module _ {s : List ℕ} {k w p : ℕ} (f : Leaf s k w p) where
  -- where the element of row i starts
  leaf_place : (i : ℕ) → p + i * w ≡ element_place s k (offset_of s k + i)
  unfolding element_place
  leaf_place i =
      let e : (offset_of s k + i) * element_width s k ≡ offset_of s k * element_width s k + i * element_width s k = add-mul (offset_of s k) i (element_width s k) in
      rw (f.place, f.width) (omega arith)

  -- a row is its value
  leaf_row : (d i : ℕ) {x : Layout} → layout_of (code_of s k) ≡ x → row_at (suc d) s k i ≡ value_at x (row_at d s) s k (offset_of s k + i)
  unfolding row_at
  leaf_row d i e = rw (whole_valid s k i f.whole, e)

  -- the offset of row i, as it is read
  leaf_offset : (i : ℕ) {bits x : ℕ} → Read (number_at w s (p + i * w)) bits x → x ≡ element_at s k (offset_of s k + i)
  unfolding element_at
  leaf_offset i e = e.value ∙ rw (leaf_place i, f.width)

  -- the bytes of a fixed-width row
  leaf_fixed : (i : ℕ) → fixed_row s k (offset_of s k + i) ≡ fixed (bytes_at s (p + i * w) w)
  unfolding fixed_row
  leaf_fixed i = rw (leaf_place i, f.width)

-- the offsets x and y of a text, as they are read, and the texts' place t
pub record TextRead (s : List ℕ) (k j t x y : ℕ) : Type 0 where
  pub place : t ≡ buffer_place s k 1
  pub from : x ≡ element_at s k j
  pub to : y ≡ element_at s k (suc j)
  pub up : x ≤ y
  pub inside : t + y ≤ length s

text_value_lem : {s : List ℕ} {k j t x y : ℕ} → TextRead s k j t x y → variable_row s k j ≡ sized (bytes_at s (t + x) (y - x))
unfolding variable_row
text_value_lem f = rw (f.place, f.from, f.to)

module _ {s : List ℕ} {k i w p : ℕ} (r : Side s k i 1) (f : Leaf s k w p) where
  -- a fixed-width row lies inside
  fixed_inside : layout_of (code_of s k) ≡ FixedWidth → p + i * w + w ≤ length s
  unfolding element_place
  fixed_inside e =
      let inside = (spanned s k (offset_of s k + i) 1 (element_width s k) (buffer_place s k 0) (side_elements r e) refl refl).inside in
      rw (leaf_place f i, f.width) (omega (arith, inside))

  module _ (text : layout_of (code_of s k) ≡ VariableSize) where
    part : Part s k (offset_of s k + i) 1
    part = side_part r f.whole

    -- its offsets are read inside, and lie inside the text
    text_nth : (h : ℕ) → h ≤ i + 1 → Nth p w h
    text_nth h le = record {
      near = omega (arith, leaf_place f i, text_offsets _ _ _ _ part text, r.image.tables.size);
      narrow = rw f.width (text_narrow _ _ _ _ part text);
      few = omega (arith, side_small _ _ _ _ r);
    }

    -- they stand inside
    text_packed : (h : ℕ) → h ≤ i + 1 → Packed (length s) p w (h + 1)
    text_packed h le =
        let room : (h + 1) * w ≤ (i + 2) * w = mul-le-mul_right w (omega arith) in
        let last : (i + 2) * w ≡ i * w + 2 * w = add-mul i 2 w in
        record {
          width = is_width_lem w (rw f.width (text_offset_width _ _ text));
          inside = omega (arith, leaf_place f i, f.width, text_offsets _ _ _ _ part text);
        }

    text_read : {t m n x y : ℕ} → t ≡ buffer_place s k 1 → Read (number_at w s (p + i * w)) m x → Read (number_at w s (p + (i + 1) * w)) n y → TextRead s k (offset_of s k + i) t x y
    text_read {t} {m} {n} {x} {y} et ex ey =
        let u : offset_of s k + (i + 1) ≡ suc (offset_of s k + i) = omega arith in
        let v : offset_of s k + i + 1 ≡ suc (offset_of s k + i) = omega arith in
        let from : x ≡ element_at s k (offset_of s k + i) = leaf_offset f i ex in
        let to : y ≡ element_at s k (suc (offset_of s k + i)) = rw u at (leaf_offset f (i + 1) ey) in
        record {
          place = et;
          from = from;
          to = to;
          up = omega (arith, rw v at (text_up _ _ _ _ part text));
          inside = omega (arith, rw v at (text_inside _ _ _ _ part text));
        }

-- two rows of nodes taken apart: one pair of rows is one pair of values
module _ {x : Layout} {a b : List ℕ} {k l i j d w p v q : ℕ} (r : Sides a b k l i j 1 (suc d)) (y : LeafPair x a b k l w p v q) where
  right_layout : layout_of (code_of b l) ≡ x
  right_layout = sym (ap layout_of r.alike.0.code) ∙ y.layout

  values : (e : ℕ) → row_equal (value_at x (row_at e a) a k (offset_of a k + i)) (value_at x (row_at e b) b l (offset_of b l + j)) ≡ range_equal (row_at (suc e) a k) (row_at (suc e) b l) i j 1
  unfolding range row_equal
  values e = rw (← leaf_row y.left e i y.layout, ← leaf_row y.right e j right_layout) (sym (and_true _))

-- fixed-width: the bytes of both rows lie inside, and they are the rows
module _ {a b : List ℕ} {k l i j d w p q : ℕ} (r : Sides a b k l i j 1 (suc d)) (y : LeafPair FixedWidth a b k l w p w q) where
  pub fixed_left : p + i * w + w ≤ length a
  fixed_left = fixed_inside r.left y.left y.layout

  pub fixed_right : q + j * w + w ≤ length b
  fixed_right = fixed_inside r.right y.right (right_layout r y)

  pub fixed_rows : (e : ℕ) → same_bytes (bytes_at a (p + i * w) w) (bytes_at b (q + j * w) w) ≡ range_equal (row_at (suc e) a k) (row_at (suc e) b l) i j 1
  unfolding row_equal
  fixed_rows e = ap₂ row_equal (sym (leaf_fixed y.left i)) (sym (leaf_fixed y.right j)) ∙ values r y e

-- variable-size: the offsets of both rows, and the texts between them
module _ {a b : List ℕ} {k l i j d t s : ℕ} {u v : Numbers} (r : Sides a b k l i j 1 (suc d)) (y : TextPair a b k l u v t s) where
  pub left_nth : (h : ℕ) → h ≤ i + 1 → Nth u.place u.width h
  left_nth = text_nth r.left y.offsets.left y.offsets.layout

  pub right_nth : (h : ℕ) → h ≤ j + 1 → Nth v.place v.width h
  right_nth = text_nth r.right y.offsets.right (right_layout r y.offsets)

  pub left_packed : (h : ℕ) → h ≤ i + 1 → Packed (length u.bytes.now) u.place u.width (h + 1)
  left_packed = rw y.left_bytes (text_packed r.left y.offsets.left y.offsets.layout)

  pub right_packed : (h : ℕ) → h ≤ j + 1 → Packed (length v.bytes.now) v.place v.width (h + 1)
  right_packed = rw y.right_bytes (text_packed r.right y.offsets.right (right_layout r y.offsets))

  pub left_read : {m n x z : ℕ} → Read (number_at u.width u.bytes.now (u.place + i * u.width)) m x → Read (number_at u.width u.bytes.now (u.place + (i + 1) * u.width)) n z → TextRead a k (offset_of a k + i) t x z
  left_read ex ez = text_read r.left y.offsets.left y.offsets.layout y.left (rw y.left_bytes at ex) (rw y.left_bytes at ez)

  pub right_read : {m n x z : ℕ} → Read (number_at v.width v.bytes.now (v.place + j * v.width)) m x → Read (number_at v.width v.bytes.now (v.place + (j + 1) * v.width)) n z → TextRead b l (offset_of b l + j) s x z
  right_read ex ez = text_read r.right y.offsets.right (right_layout r y.offsets) y.right (rw y.right_bytes at ex) (rw y.right_bytes at ez)

  module _ (e : ℕ) {x z p q : ℕ} (f : TextRead a k (offset_of a k + i) t x z) (g : TextRead b l (offset_of b l + j) s p q) where
    pub text_rows_lem : same_bytes (bytes_at a (t + x) (z - x)) (bytes_at b (s + p) (q - p)) ≡ range_equal (row_at (suc e) a k) (row_at (suc e) b l) i j 1
    unfolding row_equal
    text_rows_lem = ap₂ row_equal (sym (text_value_lem f)) (sym (text_value_lem g)) ∙ values r y.offsets e

    -- texts of two lengths
    pub text_differs : (q - p ≡ z - x → ⊥) → false ≡ range_equal (row_at (suc e) a k) (row_at (suc e) b l) i j 1
    text_differs ne = sym (other_length a b _ _ _ _ (λ o. ne (sym o))) ∙ text_rows_lem

    -- texts of one length
    pub text_same : q - p ≡ z - x → same_bytes (bytes_at a (t + x) (z - x)) (bytes_at b (s + p) (z - x)) ≡ range_equal (row_at (suc e) a k) (row_at (suc e) b l) i j 1
    text_same o = ap (λ (n : ℕ). same_bytes (bytes_at a (t + x) (z - x)) (bytes_at b (s + p) n)) (sym o) ∙ text_rows_lem
