-- Null masks and Boolean rows as runs of bits.
-- Without a bitmap every row is valid, with one a row is valid where its bit is set; a Boolean row is its bit.
use mathlib.Core.Path.{◌≡◌, refl, sym, ap₂, ◌∙◌}
use mathlib.Core.Bool.{Bool, true, false, cond, beq, ◌&&◌}
use mathlib.Core.List.{List}
use Prim.Native.Nat.{ℕ, ◌+◌, ◌^◌, ◌<◌, ◌≤◌}
use native.Mathlib.Omega.{arith}
use lib.Dec.{eqb, ltb}
use Rattle.std.specs.Bool.{then_some}
use Rattle.std.proofs.Common.{Option, Some, None}
use Rattle.image.specs.Bytes.{bit_at}
use Rattle.image.specs.Record.{has_bitmap, bitmap_place, first_bit, buffer_place, elements_of}
use Rattle.image.specs.Element.{valid}
use Rattle.image.specs.Types.{same_bytes}
use Rattle.image.specs.Row.{boolean_row}
use Rattle.image.specs.Equality.{row_equal}
use Rattle.image.specs.declared.record.Node.{Node}
use Rattle.values.specs.declared.bits.Bits.{Bits}
use Rattle.values.specs.declared.pair.Pair.{Pair}
use Rattle.values.specs.declared.pair.Rows.{Rows}
use Rattle.values.specs.Bits.{bits_at, Leading}
use Rattle.values.specs.Pairs.{first_unequal, same_row, same_bit, same_mask}
use Rattle.values.specs.Pair.{BitsOf, ValidityOf, first_null, first_unequal_in, PartsOf}
use Rattle.values.proofs.Steps.{all_by}
use Rattle.values.proofs.FirstUnequal.{unequal_none, unequal_below, unequal_moved, leading_first}
use Rattle.values.proofs.Leads.{leading_moved, leading_every}

pub valid_none : (s : List ℕ) (k : ℕ) → has_bitmap s k ≡ false → (i : ℕ) → valid s k i ≡ true
unfolding valid
valid_none s k e i = rw e

-- row i + h reads the bit h bits after that of row i
pub valid_bit_lem : (s : List ℕ) (k : ℕ) → has_bitmap s k ≡ true → (i h : ℕ) → valid s k (i + h) ≡ bit_at s (bitmap_place s k) (first_bit s k + i + h)
unfolding valid
valid_bit_lem s k e i h =
    let x : first_bit s k + (i + h) ≡ first_bit s k + i + h = omega arith in
    rw (e, x)

-- row i + h reads bit h of the bits from row i on
read_bit : (v : Node) (i h : ℕ) {x : Bits} → BitsOf v i x → bit_at x.bytes.now x.place (x.first + h) ≡ valid v.image.now v.number (i + h)
read_bit v i h b = rw (b.bytes, b.start, b.row) (sym (valid_bit_lem v.image.now v.number b.is_there i h))

-- 64 of them from bit k on
pub mask_word : {v : Node} (k : ℕ) {x : Bits} {w : ℕ} → BitsOf v 0 x → w ≡ bits_at x.bytes.now x.place (x.first + k) 64 → w ≡ bits_at v.image.now (bitmap_place v.image.now v.number) (first_bit v.image.now v.number + k) 64
mask_word {v} k {x} b e =
    let at : first_bit v.image.now v.number + k ≡ x.first + k = omega (arith, b.row) in
    e ∙ rw (b.bytes, b.start, at)

-- How many rows are not null up to the first that is.
pub rows_none : (v : Node) (i n : ℕ) → has_bitmap v.image.now v.number ≡ false → Leading (valid v.image.now v.number) i n n
rows_none v i n e = leading_every (valid v.image.now v.number) i n (valid_none v.image.now v.number e)

pub rows_bits : (v : Node) (i n : ℕ) {x : Bits} {r : ℕ} → BitsOf v i x → Leading (bit_at x.bytes.now x.place) x.first n r → Leading (valid v.image.now v.number) i n r
rows_bits v i n {x} {r} b l = leading_moved (bit_at x.bytes.now x.place) x.first n r (valid v.image.now v.number) i (λ h. read_bit v i h b) l

true_beq : (x : Bool) → x ≡ beq true x
true_beq true = refl
true_beq false = refl

beq_true : (x : Bool) → x ≡ beq x true
beq_true true = refl
beq_true false = refl

-- The first row of two ranges that is null on one side alone.
module _ (p : Pair) (r : Rows) where
  mask : (h m : ℕ) {x y : Bool} → valid p.left.image.now p.left.number h ≡ x → valid p.right.image.now p.right.number m ≡ y
      → beq x y ≡ same_mask p.left.image.now p.left.number p.right.image.now p.right.number h m
  unfolding same_mask
  mask h m e f = sym (ap₂ beq e f)

  left_none : has_bitmap p.left.image.now p.left.number ≡ false → (h : ℕ) → valid p.left.image.now p.left.number h ≡ true
  left_none e = valid_none _ _ e

  right_none : has_bitmap p.right.image.now p.right.number ≡ false → (h : ℕ) → valid p.right.image.now p.right.number h ≡ true
  right_none e = valid_none _ _ e

  pub masks_none : has_bitmap p.left.image.now p.left.number ≡ false → has_bitmap p.right.image.now p.right.number ≡ false → r.count ≡ first_null p r
  masks_none e f = unequal_none _ r.left r.right r.count (all_by _ r.left r.right r.count (λ h lt. sym (mask (r.left + h) (r.right + h) (left_none e (r.left + h)) (right_none f (r.right + h)))))

  pub masks_right : {y : Bits} {m : ℕ} → has_bitmap p.left.image.now p.left.number ≡ false → BitsOf p.right r.right y → Leading (bit_at y.bytes.now y.place) y.first r.count m → m ≡ first_null p r
  masks_right e b l =
      leading_first _ (valid p.right.image.now p.right.number) r.left r.right r.right r.count
      (λ h. true_beq _ ∙ mask (r.left + h) (r.right + h) (left_none e (r.left + h)) refl) (rows_bits p.right r.right r.count b l)

  pub masks_left : {x : Bits} {m : ℕ} → BitsOf p.left r.left x → has_bitmap p.right.image.now p.right.number ≡ false → Leading (bit_at x.bytes.now x.place) x.first r.count m → m ≡ first_null p r
  masks_left b f l =
      leading_first _ (valid p.left.image.now p.left.number) r.left r.right r.left r.count
      (λ h. beq_true _ ∙ mask (r.left + h) (r.right + h) refl (right_none f (r.right + h))) (rows_bits p.left r.left r.count b l)

  bits : (x y : Bits) (h m : ℕ) → same_bit x.bytes.now x.place y.bytes.now y.place h m ≡ beq (bit_at x.bytes.now x.place h) (bit_at y.bytes.now y.place m)
  unfolding same_bit
  bits x y h m = refl

  pub masks_both : {x y : Bits} {m : ℕ} → BitsOf p.left r.left x → BitsOf p.right r.right y → m ≡ first_unequal_in x y r.count → m ≡ first_null p r
  masks_both {x} {y} b d e =
      e
      ∙ unequal_moved (same_bit x.bytes.now x.place y.bytes.now y.place) (same_mask p.left.image.now p.left.number p.right.image.now p.right.number) x.first y.first r.left r.right r.count
      (λ h lt. bits x y _ _ ∙ mask (r.left + h) (r.right + h) (sym (read_bit p.left r.left h b)) (sym (read_bit p.right r.right h d)))

  -- what is answered where one of the two has no bitmap: of the other's bits, as they were read
  pub right_alone : (x : Bits) {u v : Option Bits} {y : Bits} {m : ℕ} {o : Option ℕ} → ValidityOf p.left r.left u → u ≡ None → ValidityOf p.right r.right v → v ≡ Some y → Leading (bit_at x.bytes.now x.place) x.first r.count m
      → o ≡ then_some (ltb m r.count) m → x ≡ y → o ≡ then_some (ltb (first_null p r) r.count) (first_null p r)
  right_alone x e u f v l o same =
      let left = rw u at e in
      let right = rw v at f in
      o ∙ unequal_below _ r.left r.right r.count (masks_right left right (rw same at l))

  pub left_alone : (x : Bits) {u v : Option Bits} {y : Bits} {m : ℕ} {o : Option ℕ} → ValidityOf p.left r.left u → u ≡ Some y → ValidityOf p.right r.right v → v ≡ None → Leading (bit_at x.bytes.now x.place) x.first r.count m
      → o ≡ then_some (ltb m r.count) m → x ≡ y → o ≡ then_some (ltb (first_null p r) r.count) (first_null p r)
  left_alone x e u f v l o same =
      let left = rw u at e in
      let right = rw v at f in
      o ∙ unequal_below _ r.left r.right r.count (masks_left left right (rw same at l))

-- the bits of two ranges of elements are counted without overflow
pub few_bits : (p : Pair) {r : Rows} {depth : ℕ} → PartsOf p r depth → (r.left + r.count < 2 ^ 35) × (r.right + r.count < 2 ^ 35)
few_bits p parts =
    let few : elements_of _ p.left.number ≤ 1073741824 = (parts.left.image.node p.left.number parts.left.node).buffers.small in
    let few' : elements_of _ p.right.number ≤ 1073741824 = (parts.right.image.node p.right.number parts.right.node).buffers.small in
    (omega (arith, parts.left.high), omega (arith, parts.right.high))

-- Boolean rows are the same where their bits are.
boolean_bytes : (x y : Bool) → beq x y ≡ (eqb (cond x 1 0) (cond y 1 0) && true)
boolean_bytes true true = refl
boolean_bytes true false = refl
boolean_bytes false true = refl
boolean_bytes false false = refl

boolean_pair : (a : List ℕ) (k : ℕ) (b : List ℕ) (l i j : ℕ) → same_bit a (buffer_place a k 0) b (buffer_place b l 0) i j ≡ same_row (boolean_row a k) (boolean_row b l) i j
unfolding same_bit same_row boolean_row row_equal same_bytes
boolean_pair a k b l i j = boolean_bytes (bit_at a (buffer_place a k 0) i) (bit_at b (buffer_place b l 0) j)

pub boolean_rows : (a : List ℕ) (k : ℕ) (b : List ℕ) (l i j n : ℕ) {p q r : ℕ} → p ≡ buffer_place a k 0 → q ≡ buffer_place b l 0
    → r ≡ first_unequal (same_bit a p b q) i j n → r ≡ first_unequal (same_row (boolean_row a k) (boolean_row b l)) i j n
boolean_rows a k b l i j n e f g =
    g ∙ ap₂ (λ (x y : ℕ). first_unequal (same_bit a x b y) i j n) e f
    ∙ unequal_moved (same_bit a (buffer_place a k 0) b (buffer_place b l 0)) (same_row (boolean_row a k) (boolean_row b l)) i j i j n (λ h lt. boolean_pair a k b l (i + h) (j + h))
