-- Elements of one width under a mask: those whose bit is set are the same, as numbers of w bytes, at most 64 at a time.
-- Bit k of the number that a mask's bits make is the mask's bit k; where it is 0 both rows are null, and else their bytes
-- are compared.
use mathlib.Core.Path.{◌≡◌, refl, sym, ap₂, ◌∙◌}
use mathlib.Core.Bool.{Bool, true, false, not, ◌&&◌, ◌||◌}
use mathlib.Core.List.{List}
use Prim.Native.Nat.{ℕ, suc, ◌+◌, ◌*◌, ◌-◌, ◌/◌, ◌%◌, ◌^◌, ◌<◌, ◌≤◌}
use native.Mathlib.Omega.{arith}
use native.Mathlib.Nat.{zero-add, add-mul, suc-mul, mul-le-mul_right}
use lib.ListN.{length, take, drop}
use lib.Pointwise.{pointwise}
use lib.Dec.{eqb}
use Rattle.image.specs.declared.type_code.Layout.TheVariants.{FixedWidth}
use Rattle.image.specs.Bytes.{bytes_at}
use Rattle.image.specs.Record.{offset_of, has_bitmap, bitmap_place, first_bit, buffer_place}
use Rattle.image.specs.Element.{valid, element_width, element_place}
use Rattle.image.specs.Row.{masked, fixed_row}
use Rattle.image.specs.Equality.{row_equal}
use borrow.Author.Tests.{eq-eqb, ne_eqb}
use Rattle.values.specs.declared.leaf.Columns.{Columns}
use Rattle.values.specs.declared.pair.Pair.{Pair}
use Rattle.values.specs.declared.pair.Rows.{Rows}
use Rattle.values.specs.Pair.{MaskedOf, OneWidth}
use Rattle.values.proofs.LeafRows.{side_width}
use Rattle.values.specs.Bits.{bits_at}
use Rattle.values.specs.Pairs.{all, same_row, range_equal, same_byte, bit_of, valid_same, masked_row}
use Rattle.accepted.specs.Parts.{Elements}
use Rattle.values.specs.Parts.{Masked, ColumnsAt}
use Rattle.values.proofs.Steps.{by_rows, by_bytes, all_snoc, all_moved, passed_tail, front_fails}
use Rattle.values.proofs.Slices.{part_pairs, parts_same}
use Rattle.values.proofs.WordBits.{bit_of_bits}
use Rattle.values.proofs.MaskedRows.{mask_at}
use Rattle.accepted.proofs.Fixed.{spanned}
use Rattle.values.proofs.Fixed.{masked_fixed, row}

-- the first v bytes and the last v, where that is all of them
pub two_ends : (p : ℕ → ℕ → Bool) (i j w v : ℕ) {x y : Bool} → v ≤ w → w ≤ 2 * v → x ≡ all p i j v → y ≡ all p (i + (w - v)) (j + (w - v)) v → x && y ≡ all p i j w
two_ends p i j w v {x} {y} le most e f = cases x e
  where
    cases : (z : Bool) → z ≡ all p i j v → z && y ≡ all p i j w
    cases true h = f ∙ passed_tail p i j w v v le (omega arith) (record { within = le; passes = sym h })
    cases false h = front_fails p i j v w le (sym h)

-- element h of n lies inside
pub element_room : (x n w h m : ℕ) → h < n → x + n * w ≤ m → x + h * w + w ≤ m
element_room x n w h m lt le =
    let e : suc h * w ≡ h * w + w = suc-mul h w in
    let f : suc h * w ≤ n * w = mul-le-mul_right w lt in
    omega arith

-- one pair more, counted from 0
pub more_pairs : (p : ℕ → ℕ → Bool) (h : ℕ) {same v : Bool} → same ≡ all p 0 0 h → v ≡ p h h → same && v ≡ all p 0 0 (h + 1)
more_pairs p h e f =
    let z : 0 + h ≡ h = zero-add h in
    ap₂ (λ (x y : Bool). x && y) e f ∙ sym (rw z at (all_snoc p 0 0 h))

-- what a turn tests: the digit is not 1, or the bytes are the same
pub valid_test : (bits : ℕ) (a b : List ℕ) (w h : ℕ) {v : Bool} → v ≡ all (same_byte a b) (h * w) (h * w) w
    → not (eqb (bits / 2 ^ h % 2) 1) || v ≡ valid_same bits a b w h h
unfolding valid_same bit_of
valid_test bits a b w h e = rw e

-- its bit is not set, or it is and the bytes decide
pub passed_over : (bits : ℕ) (a b : List ℕ) (w h : ℕ) → (bits / 2 ^ h % 2 ≡ 1 → ⊥) → valid_same bits a b w h h ≡ true
unfolding valid_same bit_of
passed_over bits a b w h e = rw (ne_eqb _ _ e)

pub by_its_bytes : (bits : ℕ) (a b : List ℕ) (w h : ℕ) {v : Bool} → bits / 2 ^ h % 2 ≡ 1 → v ≡ all (same_byte a b) (h * w) (h * w) w → valid_same bits a b w h h ≡ v
unfolding valid_same bit_of
by_its_bytes bits a b w h e f = rw (eq-eqb _ _ e, f)

-- what `==` says of one element of each of two slices
pub part_test : (x y : List ℕ) (n w h : ℕ) → h < n → n * w ≤ length x → n * w ≤ length y
    → pointwise eqb (take (h * w + w - h * w) (drop (h * w) x)) (take (h * w + w - h * w) (drop (h * w) y)) ≡ all (same_byte x y) (h * w) (h * w) w
part_test x y n w h lt lx ly =
    parts_same x y (h * w) (h * w) w w (omega (arith, element_room 0 n w h (length x) lt (omega (arith, lx)))) (omega (arith, element_room 0 n w h (length y) lt (omega (arith, ly)))) ∙ sym (by_bytes x y (h * w) (h * w) w)

-- where the element of row i starts, from that of row 0
pub place_of : (s : List ℕ) (k i : ℕ) {p w : ℕ} → p ≡ element_place s k (offset_of s k) → w ≡ element_width s k → p + i * w ≡ element_place s k (offset_of s k + i)
unfolding element_place
place_of s k i ep ew =
    let e : (offset_of s k + i) * element_width s k ≡ offset_of s k * element_width s k + i * element_width s k = add-mul (offset_of s k) i (element_width s k) in
    rw (ep, ew) (omega arith)

-- the elements of n rows lie inside
rows_inside : (s : List ℕ) (k i n p w : ℕ) → Elements s k (offset_of s k + i) n → p ≡ element_place s k (offset_of s k) → w ≡ element_width s k → p + i * w + n * w ≤ length s
unfolding element_place
rows_inside s k i n p w r ep ew =
    let inside = (spanned s k (offset_of s k + i) n (element_width s k) (buffer_place s k 0) r refl refl).inside in
    rw (place_of s k i ep ew, ew) inside

module _ {a b : List ℕ} {k l i j n : ℕ} {v : Columns} (r : Masked FixedWidth a b k l i j n) (y : ColumnsAt a b k l v) where
  right_width : v.width ≡ element_width b l
  right_width = y.width ∙ (masked_fixed r).width

  pub left_inside : v.left + i * v.width + n * v.width ≤ length a
  left_inside = rows_inside _ _ _ _ _ _ (masked_fixed r).left y.left y.width

  pub right_inside : v.right + j * v.width + n * v.width ≤ length b
  right_inside = rows_inside _ _ _ _ _ _ (masked_fixed r).right y.right right_width

  -- bit h of the word is that of row i + h
  module _ {bits : ℕ} (some : has_bitmap a k ≡ true) (word : bits ≡ bits_at a (bitmap_place a k) (first_bit a k + i) 64) where
    bit_valid : (h : ℕ) → h < 64 → bit_of bits h ≡ valid a k (i + h)
    unfolding valid
    bit_valid h lt =
        let e : first_bit a k + i + h ≡ first_bit a k + (i + h) = omega arith in
        rw (word, bit_of_bits a (bitmap_place a k) (first_bit a k + i) 64 h lt, e, some)

    moved : (s : List ℕ) (c u h p w : ℕ) → p ≡ element_place s c (offset_of s c) → w ≡ element_width s c → p + u * w + h * w ≡ element_place s c (offset_of s c + (u + h))
    moved s c u h p w ep ew =
        let e : (u + h) * w ≡ u * w + h * w = add-mul u h w in
        let f : p + u * w + h * w ≡ p + (u + h) * w = omega arith in
        f ∙ place_of s c (u + h) ep ew

    -- the parts of the two images that the rows' elements are
    abbrev pub lefts : List ℕ
    lefts = bytes_at a (v.left + i * v.width) (n * v.width)

    abbrev pub rights : List ℕ
    rights = bytes_at b (v.right + j * v.width) (n * v.width)

    full : (h : ℕ) → h < n → all (same_byte lefts rights) (h * v.width) (h * v.width) v.width ≡ row_equal (fixed_row a k (offset_of a k + (i + h))) (fixed_row b l (offset_of b l + (j + h)))
    unfolding same_row element_place
    full h lt =
        part_pairs a b (v.left + i * v.width) (v.right + j * v.width) (n * v.width) (h * v.width) v.width (omega (arith, element_room 0 n v.width h (n * v.width) lt (omega arith)))
        ∙ ap₂ (λ (p q : ℕ). all (same_byte a b) p q v.width) (moved a k i h _ _ y.left y.width) (moved b l j h _ _ y.right right_width)
        ∙ rw (← (masked_fixed r).width, y.width) (sym (row a b k l (masked_fixed r).width (offset_of a k + (i + h)) (offset_of b l + (j + h))))

    pair_same : (h : ℕ) → h < n → n ≤ 64 → valid_same bits lefts rights v.width h h ≡ same_row (masked_row fixed_row a k) (masked_row fixed_row b l) (i + h) (j + h)
    unfolding valid_same same_row masked_row row_equal
    pair_same h lt le = rw (bit_valid h (omega arith), ← mask_at r h lt) (cases (valid a k (i + h)))
      where
        cases : (z : Bool) → not z || all (same_byte lefts rights) (h * v.width) (h * v.width) v.width
            ≡ row_equal (masked z (fixed_row a k (offset_of a k + (i + h)))) (masked z (fixed_row b l (offset_of b l + (j + h))))
        cases true = full h lt
        cases false = refl

    pub word_rows : n ≤ 64 → all (valid_same bits lefts rights v.width) 0 0 n ≡ range_equal (masked_row fixed_row a k) (masked_row fixed_row b l) i j n
    word_rows le =
        all_moved _ (same_row (masked_row fixed_row a k) (masked_row fixed_row b l)) 0 0 i j n
        (λ h lt. let z : 0 + h ≡ h = zero-add h in rw z (pair_same h lt le))
        ∙ by_rows _ _ i j n

-- without a bitmap the rows are their values
module _ {a b : List ℕ} {k l i j n : ℕ} (r : Masked FixedWidth a b k l i j n) (none : has_bitmap a k ≡ false) where
  pub whole_rows : range_equal (fixed_row a k) (fixed_row b l) (offset_of a k + i) (offset_of b l + j) n ≡ range_equal (masked_row fixed_row a k) (masked_row fixed_row b l) i j n
  unfolding same_row masked_row valid
  whole_rows =
      sym (by_rows _ _ _ _ n)
      ∙ sym (all_moved (same_row (masked_row fixed_row a k) (masked_row fixed_row b l)) (same_row (fixed_row a k) (fixed_row b l)) i j (offset_of a k + i) (offset_of b l + j) n
      (λ h lt.
      let u : offset_of a k + i + h ≡ offset_of a k + (i + h) = omega arith in
      let t : offset_of b l + j + h ≡ offset_of b l + (j + h) = omega arith in
      rw (← mask_at r h lt, none, u, t)))
      ∙ by_rows _ _ i j n

-- two nodes whose rows are compared have elements of one width
pub one_width : {p : Pair} {r : Rows} → MaskedOf FixedWidth p r → OneWidth p
one_width r = record { small = side_width r.left; same = (masked_fixed r).width }
