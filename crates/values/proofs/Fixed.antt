-- Fixed-width elements are equal exactly where their bytes are the same as one block, and the block lies inside the image.
-- By the law of blocks, with the offsets 0, w, 2 * w, ..
use mathlib.Core.Path.{◌≡◌, refl, sym, ap, ◌∙◌}
use mathlib.Core.List.{List}
use Prim.Native.Nat.{ℕ, suc, ◌+◌, ◌*◌, ◌-◌, ◌≤◌}
use native.Mathlib.Omega.{arith}
use lib.ListN.{length}
use native.Mathlib.Nat.{mul-le-mul_right, suc-mul, add-mul}
use Rattle.image.specs.declared.type_code.Layout.TheVariants.{FixedWidth}
use Rattle.image.specs.Bytes.{bytes_at}
use Rattle.image.specs.Record.{code_of, offset_of, buffer_place, elements_of}
use Rattle.image.specs.TypeCode.{layout_of}
use Rattle.image.specs.Element.{element_width, element_place}
use Rattle.image.specs.Types.{same_bytes}
use Rattle.image.specs.Row.{fixed_row}
use Rattle.image.specs.Equality.{row_equal}
use Rattle.laws.proofs.Alike.{same_width}
use Rattle.values.specs.Pairs.{all, same_row, range_equal, same_byte}
use Rattle.accepted.specs.Parts.{Elements}
use Rattle.accepted.proofs.Fixed.{spanned}
use Rattle.values.specs.Parts.{Parts, Masked, Blocks}
use Rattle.values.proofs.Steps.{by_rows, by_bytes}
use Rattle.values.proofs.Blocks.{blocks}

-- element h of w bytes starts at h * w
abbrev pub times : ℕ → ℕ → ℕ
times w h = h * w

pub next : (w h : ℕ) → suc h * w - h * w ≡ w
next w h =
    let e : suc h * w ≡ h * w + w = suc-mul h w in
    omega arith

pub whole : (w i n : ℕ) → (i + n) * w - i * w ≡ n * w
whole w i n =
    let e : (i + n) * w ≡ i * w + n * w = add-mul i n w in
    omega arith

module _ (a b : List ℕ) (k l : ℕ) (same : element_width a k ≡ element_width b l) where
  pub row : (h g : ℕ) → same_row (fixed_row a k) (fixed_row b l) h g ≡ all (same_byte a b) (buffer_place a k 0 + h * element_width a k) (buffer_place b l 0 + g * element_width a k) (element_width a k)
  unfolding same_row fixed_row row_equal element_place
  row h g = rw (← same) (sym (by_bytes a b _ _ (element_width a k)))

  pub fixed_block : (i j n : ℕ) → same_bytes (bytes_at a (element_place a k i) (n * element_width a k)) (bytes_at b (element_place b l j) (n * element_width a k)) ≡ range_equal (fixed_row a k) (fixed_row b l) i j n
  unfolding element_place
  fixed_block i j n =
      rw (← same)
      (sym (by_bytes a b (buffer_place a k 0 + i * element_width a k) (buffer_place b l 0 + j * element_width a k) (n * element_width a k))
      ∙ ap (all (same_byte a b) (buffer_place a k 0 + i * element_width a k) (buffer_place b l 0 + j * element_width a k)) (sym (whole (element_width a k) i n))
      ∙ sym (blocks (same_byte a b) (same_row (fixed_row a k) (fixed_row b l)) (times (element_width a k)) (times (element_width a k)) (buffer_place a k 0) (buffer_place b l 0) i j n
      (λ h le lt. mul-le-mul_right (element_width a k) (omega arith)) (λ h le lt. mul-le-mul_right (element_width a k) (omega arith))
      (λ h lt. next (element_width a k) (i + h) ∙ sym (next (element_width a k) (j + h)))
      (λ h lt. row (i + h) (j + h) ∙ ap (all (same_byte a b) _ _) (sym (next (element_width a k) (i + h)))))
      ∙ by_rows (fixed_row a k) (fixed_row b l) i j n)

-- a block, as it is read
module _ (s : List ℕ) (k j n : ℕ) {w p : ℕ} (ew : w ≡ element_width s k) (ep : p ≡ buffer_place s k 0) where
  pub block_inside : element_place s k j + n * element_width s k ≤ length s → p + j * w + n * w ≤ length s
  unfolding element_place
  block_inside le = rw (ew, ep) le

  pub block_bytes : bytes_at s (p + j * w) (n * w) ≡ bytes_at s (element_place s k j) (n * element_width s k)
  unfolding element_place
  block_bytes = rw (ew, ep)

-- n elements of each of two fixed-width nodes of one width
pub record Fixed (a b : List ℕ) (k l i j n : ℕ) : Type 0 where
  pub left : Elements a k i n
  pub right : Elements b l j n
  pub width : element_width a k ≡ element_width b l

-- as blocks they lie inside
pub fixed_inside : {a b : List ℕ} {k l i j n : ℕ} → Fixed a b k l i j n → Blocks a b k l i j n
unfolding element_place
fixed_inside r = record {
  left = (spanned _ _ _ _ _ _ r.left refl refl).inside;
  right = (spanned _ _ _ _ _ _ r.right refl refl).inside;
  width = r.width;
}

-- parts of two fixed-width nodes that are alike
pub parts_fixed : (a b : List ℕ) (k l i j n d : ℕ) → Parts a b k l i j n d → layout_of (code_of a k) ≡ FixedWidth → Fixed a b k l i j n
parts_fixed a b k l i j n d r fixed = record {
  left = record { image = r.left.image; node = r.left.node; fixed = fixed; high = r.left.high };
  right = record { image = r.right.image; node = r.right.node; fixed = sym (ap layout_of r.alike.0.code) ∙ fixed; high = r.right.high };
  width = same_width a b k l r.alike.0.code r.alike.0.p1;
}

-- the elements that rows read
pub masked_fixed : {a b : List ℕ} {k l i j n : ℕ} → Masked FixedWidth a b k l i j n → Fixed a b k l (offset_of a k + i) (offset_of b l + j) n
unfolding elements_of
masked_fixed {a} {b} {k} {l} r = record {
  left = record { image = r.left.image; node = r.left.node; fixed = r.layout; high = omega (arith, r.left.rows) };
  right = record { image = r.right.image; node = r.right.node; fixed = sym (ap layout_of r.code) ∙ r.layout; high = omega (arith, r.right.rows) };
  width = same_width a b k l r.code r.p1;
}
