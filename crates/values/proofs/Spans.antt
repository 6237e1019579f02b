-- Offsets that were read, and the spans between them, where all offsets are the same as one block.
-- An element's number is read at its place; the same bytes make the same numbers, and these the same differences.
use mathlib.Core.Path.{◌≡◌, refl, ap, ap₂, ◌∙◌}
use mathlib.Core.Bool.{true}
use mathlib.Core.List.{List}
use Prim.Native.Nat.{ℕ, zero, suc, ◌+◌, ◌*◌, ◌-◌, ◌<◌, ◌≤◌}
use native.Mathlib.Omega.{arith}
use native.Mathlib.Nat.{add-mul, mul-le-mul_right}
use borrow.Author.Tests.{eqb-true, eq-eqb}
use Rattle.image.specs.Bytes.{number_at, bytes_at}
use Rattle.image.specs.Record.{buffer_place}
use Rattle.image.specs.Element.{element_width, element_place, element_at}
use Rattle.image.specs.Reads.{Read}
use Rattle.image.specs.Types.{same_bytes}
use Rattle.image.proofs.Bools.{and_left, and_right}
use Rattle.values.specs.Pairs.{all, same_byte, same_span, span_at}
use Rattle.values.specs.Parts.{Spans}
use Rattle.values.proofs.Steps.{by_bytes, all_by}
use Rattle.values.proofs.Blocks.{all_at}

pub read_element : (s : List ℕ) (k j w p : ℕ) {r : ℕ} → Read (number_at w s (p + j * w)) (8 * w) r → w ≡ element_width s k → p ≡ buffer_place s k 0 → r ≡ element_at s k j
unfolding element_at element_place
read_element s k j w p r ew ep = rw (← ew, ← ep) r.value

-- the same bytes make the same number
pub number_same : (w : ℕ) (a b : List ℕ) (x y : ℕ) → all (same_byte a b) x y w ≡ true → number_at w a x ≡ number_at w b y
unfolding number_at all same_byte
number_same zero a b x y e = refl
number_same (suc w) a b x y e = ap₂ (λ (u v : ℕ). u + 256 * v) (eqb-true _ _ (and_left _ _ e)) (number_same w a b (suc x) (suc y) (and_right (same_byte a b x y) _ e))

-- element h of a block of elements of w bytes
element_of : (a b : List ℕ) (w x y n h : ℕ) → all (same_byte a b) x y ((n + 1) * w) ≡ true → h ≤ n → all (same_byte a b) (x + h * w) (y + h * w) w ≡ true
element_of a b w x y n h e le =
    let room : (h + 1) * w ≤ (n + 1) * w = mul-le-mul_right w (omega arith) in
    let more : (h + 1) * w ≡ h * w + 1 * w = add-mul h 1 w in
    all_by (same_byte a b) (x + h * w) (y + h * w) w (λ m lt.
    let u : x + h * w + m ≡ x + (h * w + m) = omega arith in
    let v : y + h * w + m ≡ y + (h * w + m) = omega arith in
    let within : h * w + m < (n + 1) * w = omega arith in
    rw (u, v) (all_at (same_byte a b) x y ((n + 1) * w) e (h * w + m) within))

-- where the block is the same on both sides, the offsets are, and so are the lengths
module _ {a b : List ℕ} {k l i j n : ℕ} (r : Spans a b k l i j n) (e : same_bytes (bytes_at a (element_place a k i) ((n + 1) * element_width a k)) (bytes_at b (element_place b l j) ((n + 1) * element_width a k)) ≡ true) where
  offset_same : (h : ℕ) → h ≤ n → element_at a k (i + h) ≡ element_at b l (j + h)
  unfolding element_at element_place
  offset_same h le =
      let x : (i + h) * element_width a k ≡ i * element_width a k + h * element_width a k = add-mul i h (element_width a k) in
      let y : (j + h) * element_width a k ≡ j * element_width a k + h * element_width a k = add-mul j h (element_width a k) in
      let u : buffer_place a k 0 + (i + h) * element_width a k ≡ buffer_place a k 0 + i * element_width a k + h * element_width a k = omega arith in
      let v : buffer_place b l 0 + (j + h) * element_width a k ≡ buffer_place b l 0 + j * element_width a k + h * element_width a k = omega arith in
      let whole : all (same_byte a b) (buffer_place a k 0 + i * element_width a k) (buffer_place b l 0 + j * element_width a k) ((n + 1) * element_width a k) ≡ true =
      ap (λ (w : ℕ). all (same_byte a b) (buffer_place a k 0 + i * element_width a k) (buffer_place b l 0 + j * w) ((n + 1) * element_width a k)) r.same
      ∙ by_bytes a b (element_place a k i) (element_place b l j) ((n + 1) * element_width a k) ∙ e in
      rw (← r.same, u, v) (number_same (element_width a k) a b _ _ (element_of a b (element_width a k) _ _ n h whole le))

  pub offsets_spans : all (same_span a k b l) i j n ≡ true
  unfolding same_span span_at
  offsets_spans = all_by (same_span a k b l) i j n (λ h lt.
      let u : suc (i + h) ≡ i + (h + 1) = omega arith in
      let v : suc (j + h) ≡ j + (h + 1) = omega arith in
      rw (u, v) (eq-eqb _ _ (ap₂ (λ (x y : ℕ). x - y) (offset_same (h + 1) (omega arith)) (offset_same h (omega arith)))))
