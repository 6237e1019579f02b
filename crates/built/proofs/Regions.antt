-- A part of a list of bytes is read where it stands: numbers, bytes and bits of the list are those of the part.
-- Pieces that are joined stand one after the other, each where the lengths of those before it add up to.
use mathlib.Core.Path.{◌≡◌, refl, sym, ap, ◌∙◌}
use mathlib.Core.List.{List, [], ◌∷◌, ◌++◌, append_assoc, append-nil}
use mathlib.Core.Logic.{◌⊎◌, inl, inr}
use Prim.Native.Nat.{ℕ, zero, suc, ◌+◌, ◌/◌, ◌≤◌, ◌<◌, ◌^◌}
use native.Mathlib.Nat.{zero-add, add-zero, eq-or-lt_of_le}
use native.Mathlib.Omega.{arith}
use lib.ListN.{length, length-append, get_or-append}
use lib.Seq.{get_or-append-add}
use Rattle.image.specs.Ranges.{sum_to}
use Rattle.image.specs.Bytes.{byte_at, number_at, number_bytes, bytes_at, bit_at}
use Rattle.laws.proofs.Lengths.{number_length}
use Rattle.laws.proofs.Decode.{number_back}
use Rattle.image.specs.Ranges.{pieces}

-- y stands in s at a place
pub record PartOf (s : List ℕ) (at : ℕ) (y : List ℕ) : Type 0 where
  pub before : List ℕ
  pub after : List ℕ
  pub whole : s ≡ before ++ (y ++ after)
  pub start : length before ≡ at

-- What is read of the part.
module _ {s y : List ℕ} {at : ℕ} (part : PartOf s at y) where
  pub part_byte : (o : ℕ) → o < length y → byte_at s (at + o) ≡ byte_at y o
  part_byte o lt =
      rw (part.whole, ← part.start)
      (get_or-append-add part.before (y ++ part.after) o 0 ∙ get_or-append y part.after 0 o lt)

  pub part_number : (w o : ℕ) → o + w ≤ length y → number_at w s (at + o) ≡ number_at w y o
  unfolding number_at
  part_number zero o le = refl
  part_number (suc w) o le =
      let e : suc (at + o) ≡ at + suc o = omega arith in
      rw (part_byte o (omega arith), e, part_number w (suc o) (omega arith))

  pub part_bytes_lem : (n o : ℕ) → o + n ≤ length y → bytes_at s (at + o) n ≡ bytes_at y o n
  unfolding bytes_at
  part_bytes_lem zero o le = refl
  part_bytes_lem (suc n) o le =
      let e : suc (at + o) ≡ at + suc o = omega arith in
      rw (part_byte o (omega arith), e, part_bytes_lem n (suc o) (omega arith))

  pub part_bit : (j : ℕ) → j / 8 < length y → bit_at s at j ≡ bit_at y 0 j
  unfolding bit_at
  part_bit j lt = rw (part_byte (j / 8) lt, zero-add (j / 8))

-- a list's bytes are the list
pub bytes_behind : (b : ℕ) (y : List ℕ) (i n : ℕ) → bytes_at (b ∷ y) (suc i) n ≡ bytes_at y i n
unfolding bytes_at
bytes_behind b y i zero = refl
bytes_behind b y i (suc n) = rw (bytes_behind b y (suc i) n)

pub bytes_all : (y : List ℕ) → bytes_at y 0 (length y) ≡ y
unfolding bytes_at
bytes_all [] = refl
bytes_all (b ∷ y) = ap (λ (x : List ℕ). b ∷ x) (bytes_behind b y 0 (length y) ∙ bytes_all y)

module _ {s y : List ℕ} {at : ℕ} (part : PartOf s at y) where
  -- all of the part
  pub part_whole : bytes_at s at (length y) ≡ y
  part_whole =
      let e : at + 0 ≡ at = omega arith in
      rw (← e) (part_bytes_lem part (length y) 0 (omega arith) ∙ bytes_all y)

  -- it lies inside
  pub part_inside : at + length y ≤ length s
  part_inside = rw part.whole (omega (arith, part.start, length-append part.before (y ++ part.after), length-append y part.after))

  -- a part of the part
  pub part_in : {z : List ℕ} {o : ℕ} → PartOf y o z → PartOf s (at + o) z
  part_in {z} {o} inner =
      record {
        before = part.before ++ inner.before;
        after = inner.after ++ part.after;
        whole = rw (part.whole, inner.whole) (simp append_assoc);
        start = length-append part.before inner.before ∙ omega (arith, part.start, inner.start);
      }

-- a part of the front
pub part_front : {x y : List ℕ} {at : ℕ} (z : List ℕ) → PartOf x at y → PartOf (x ++ z) at y
part_front z part = record { before = part.before; after = part.after ++ z; whole = rw part.whole (simp append_assoc); start = part.start }

-- a number that stands there
pub number_there : {s : List ℕ} {at : ℕ} (w x : ℕ) → PartOf s at (number_bytes w x) → x < 256 ^ w → number_at w s at ≡ x
number_there {s} {at} w x part lt =
    let e : at + 0 ≡ at = omega arith in
    rw (← e)
    (part_number part w 0 (omega (arith, number_length w x))
    ∙ ap (λ (b : List ℕ). number_at w b 0) (sym (append-nil (number_bytes w x)))
    ∙ number_back w x [] lt)

pub left_part : (x y : List ℕ) → PartOf (x ++ y) 0 x
left_part x y = record { before = []; after = y; whole = refl; start = refl }

pub right_part : (x y : List ℕ) → PartOf (x ++ y) (length x) y
right_part x y = record { before = x; after = []; whole = rw (append-nil y); start = refl }

-- Pieces, each of the length that f says.
module _ (p : ℕ → List ℕ) (f : ℕ → ℕ) (each : (i : ℕ) → length (p i) ≡ f i) where
  pub pieces_snoc : (i n : ℕ) → pieces p i (suc n) ≡ pieces p i n ++ p (i + n)
  unfolding pieces
  pieces_snoc i zero = rw (add-zero i) (append-nil (p i))
  pieces_snoc i (suc n) =
      let e : suc i + n ≡ i + suc n = omega arith in
      rw (append_assoc (p i) (pieces p (suc i) n) (p (i + suc n)), ← e) (ap (λ (b : List ℕ). p i ++ b) (pieces_snoc (suc i) n))

  pub pieces_length : (n : ℕ) → length (pieces p 0 n) ≡ sum_to f n
  unfolding pieces sum_to
  pieces_length zero = refl
  pieces_length (suc n) =
      ap length (pieces_snoc 0 n) ∙ length-append (pieces p 0 n) (p (0 + n)) ∙ rw (zero-add n, pieces_length n, each n)

  pub pieces_part : (n k : ℕ) → k < n → PartOf (pieces p 0 n) (sum_to f k) (p k)
  pieces_part zero k lt = absurd (omega arith)
  pieces_part (suc n) k lt = cases (eq-or-lt_of_le lt) (λ more. pieces_part n k (omega arith))
    where
      cases : (suc k ≡ suc n) ⊎ (suc k < suc n) → (suc k < suc n → PartOf (pieces p 0 n) (sum_to f k) (p k)) → PartOf (pieces p 0 (suc n)) (sum_to f k) (p k)
      cases (inl e) earlier =
          let same : k ≡ n = omega arith in
          rw (same, pieces_snoc 0 n, zero-add n, ← pieces_length n) (right_part (pieces p 0 n) (p n))
      cases (inr more) earlier =
          let inner = earlier more in
          rw (pieces_snoc 0 n) (part_front (p (0 + n)) inner)
