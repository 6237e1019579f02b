-- The number that bits make: its bit k is theirs; cut off after n of them it is the number of these; where two such numbers
-- differ first, and the set bits of one up to the first that is not.
-- Each bit is the lowest digit of what the bits before it leave; by induction over their number.
use mathlib.Core.Path.{◌≡◌, refl, sym, ap, ap₂, ◌∙◌}
use mathlib.Core.Bool.{Bool, true, false, cond, beq}
use mathlib.Core.List.{List}
use mathlib.Core.Logic.{◌⊎◌, inl, inr}
use Prim.Native.Nat.{ℕ, zero, suc, ◌+◌, ◌*◌, ◌-◌, ◌/◌, ◌%◌, ◌^◌, ◌<◌, ◌≤◌, min}
use native.Mathlib.Omega.{arith}
use Rattle.std.specs.Int.{bit_at as digit_at, trailing_ones}
use Rattle.std.specs.Int.Bits.{bit_xor, xor_assoc, xor_self, xor_zero_l, xor_zero_r}
use Rattle.std.specs.Int.Count.{count_trailing_zeros, trailing_of_zero}
use Rattle.std.proofs.lemmas.Nat.{xor_lt}
use Rattle.std.proofs.lemmas.Nat.Bits.{bit_at-lt, bit_at_xor, bit_at-trailing_zeros, bit_at-trailing_ones}
use mir.Syntax.{w64}
use native.Mathlib.Nat.{eq-or-lt_of_le, zero-add, mod-one, mod-eq_of_lt, div-div-eq-div-mul, pow-succ'}
use lib.Dec.{eqb, ltb}
use lib.Pow.{pow_pos, pow-lt}
use borrow.Author.Tests.{eq-eqb, ne_eqb, ltb-true, ltb-false}
use Rattle.image.specs.Bytes.{bit_at}
use Rattle.image.specs.Ranges.{every}
use Rattle.values.specs.Bits.{bits_at, Leading}
use Rattle.values.specs.Pairs.{first_unequal, same_bit, same_bit_of, bit_of}
use Rattle.values.proofs.Words.{cut_off, words_same, words_differ, full_result}
use Rattle.values.proofs.Steps.{Passed, passed_more, all_by}
use Rattle.values.proofs.FirstUnequal.{unequal_is, unequal_moved, unequal_some, unequal_among}
use Rattle.values.proofs.Leads.{every_jump, leading_stops, leading_all}

-- the lowest digit, and what it leaves
digit : (b : Bool) (m : ℕ) → (cond b 1 0 + 2 * m) % 2 ≡ cond b 1 0
digit true m = omega arith
digit false m = omega arith

others : (b : Bool) (m : ℕ) → (cond b 1 0 + 2 * m) / 2 ≡ m
others true m = omega arith
others false m = omega arith

low_digit : (b : Bool) (m : ℕ) → eqb ((cond b 1 0 + 2 * m) / 2 ^ 0 % 2) 1 ≡ b
low_digit true m = let e : (1 + 2 * m) / 1 % 2 ≡ 1 = omega arith in rw e
low_digit false m = let e : (0 + 2 * m) / 1 % 2 ≡ 0 = omega arith in rw e

high_digits : (b : Bool) (m k : ℕ) → (cond b 1 0 + 2 * m) / 2 ^ suc k ≡ m / 2 ^ k
high_digits b m k =
    ap (λ (y : ℕ). (cond b 1 0 + 2 * m) / y) (pow-succ' 2 k) ∙ sym (div-div-eq-div-mul (cond b 1 0 + 2 * m) 2 (2 ^ k)) ∙ ap (λ (x : ℕ). x / 2 ^ k) (others b m)

-- bit k of the number that n bits make
pub bit_of_bits : (s : List ℕ) (p i n k : ℕ) → k < n → bit_of (bits_at s p i n) k ≡ bit_at s p (i + k)
unfolding bit_of bits_at
bit_of_bits s p i zero k lt = absurd (omega arith)
bit_of_bits s p i (suc n) zero lt =
    let e : i + 0 ≡ i = omega arith in
    rw e (low_digit (bit_at s p i) (bits_at s p (suc i) n))
bit_of_bits s p i (suc n) (suc k) lt =
    let e : i + suc k ≡ suc i + k = omega arith in
    rw (e, high_digits (bit_at s p i) (bits_at s p (suc i) n) k) (bit_of_bits s p (suc i) n k (omega arith))

-- the first n of n + m bits
bits_front : (s : List ℕ) (p i n m : ℕ) → bits_at s p i (n + m) % 2 ^ n ≡ bits_at s p i n
unfolding bits_at
bits_front s p i zero m = mod-one _
bits_front s p i (suc n) m =
    let e : suc n + m ≡ suc (n + m) = omega arith in
    let b = bit_at s p i in
    let x = bits_at s p (suc i) (n + m) in
    let cut : (cond b 1 0 + 2 * x) % (2 * 2 ^ n) ≡ (cond b 1 0 + 2 * x) % 2 + 2 * ((cond b 1 0 + 2 * x) / 2 % 2 ^ n) = sym (cut_off (cond b 1 0 + 2 * x) (2 ^ n) (pow_pos n)) in
    rw (e, pow-succ' 2 n, cut, digit b x, others b x, bits_front s p (suc i) n m)

-- a bit shifted by n
one_shifted : (n : ℕ) → n < 64 → 1 * 2 ^ n % 2 ^ 64 ≡ 2 ^ n
one_shifted n lt = let e : 1 * 2 ^ n ≡ 2 ^ n = omega arith in rw e (mod-eq_of_lt (pow-lt lt))

-- a word that is cut off after n bits
pub word_front : (s : List ℕ) (p i n : ℕ) {x : ℕ} → n < 64 → x ≡ bits_at s p i 64 → x % (1 * 2 ^ n % 2 ^ 64) ≡ bits_at s p i n
word_front s p i n lt e =
    let h : n + (64 - n) ≡ 64 = omega arith in
    rw (one_shifted n lt, e) (rw h at (bits_front s p i n (64 - n)))

pub one_positive : (n : ℕ) → n < 64 → 0 < 1 * 2 ^ n % 2 ^ 64
one_positive n lt = rw (one_shifted n lt) (pow_pos n)

-- bits of two numbers, by the bit of their exclusive or
digits : (u v : ℕ) → u < 2 → v < 2 → beq (eqb u 1) (eqb v 1) ≡ eqb ((u + v) % 2) 0
digits zero zero l m = refl
digits zero (suc zero) l m = refl
digits (suc zero) zero l m = refl
digits (suc zero) (suc zero) l m = refl
digits zero (suc (suc v)) l m = absurd (omega arith)
digits (suc zero) (suc (suc v)) l m = absurd (omega arith)
digits (suc (suc u)) v l m = absurd (omega arith)

pub whole_number_lem : (x : ℕ) → x ≡ x / 2 ^ 0
whole_number_lem x = omega arith

-- a pair of bits of two numbers, by what is left of these
pub pair_differs_lem : (x y r : ℕ) {u v : ℕ} → u ≡ x / 2 ^ r → v ≡ y / 2 ^ r → (u % 2 ≡ v % 2 → ⊥) → same_bit_of x y (0 + r) (0 + r) ≡ false
unfolding same_bit_of bit_of
pair_differs_lem x y r {u} {v} e f h =
    let z : 0 + r ≡ r = zero-add r in
    rw (z, ← e, ← f) (digits (u % 2) (v % 2) (omega arith) (omega arith) ∙ ne_eqb _ _ (λ none. h (omega (arith, none))))

same_digit : (x y i : ℕ) → same_bit_of x y i i ≡ eqb (digit_at (bit_xor x y) i) 0
unfolding same_bit_of bit_of
same_digit x y i = digits (digit_at x i) (digit_at y i) (bit_at-lt x i) (bit_at-lt y i) ∙ ap (λ (z : ℕ). eqb z 0) (sym (bit_at_xor x y i))

-- two numbers differ first at the lowest digit of their exclusive or
pub first_differs : (x y n : ℕ) → (x ≡ y → ⊥) → x < 2 ^ 64 → y < 2 ^ 64 → min (count_trailing_zeros 64 (bit_xor x y)) n ≡ first_unequal (same_bit_of x y) 0 0 n
first_differs x y n ne lx ly = differs (bit_xor x y) refl
  where
    t : ℕ
    t = count_trailing_zeros 64 (bit_xor x y)

    differs : (z : ℕ) → bit_xor x y ≡ z → min t n ≡ first_unequal (same_bit_of x y) 0 0 n
    differs zero e =
        absurd (ne (sym (xor_zero_r x) ∙ ap (bit_xor x) (sym e) ∙ sym (xor_assoc x x y) ∙ ap (λ (v : ℕ). bit_xor v y) (xor_self x) ∙ xor_zero_l y))
    differs (suc z) e =
        let low = bit_at-trailing_zeros w64 (bit_xor x y) (omega (arith, e)) (xor_lt 64 x y lx ly) in
        unequal_is (same_bit_of x y) 0 0 n (min t n) (omega arith)
        (all_by (same_bit_of x y) 0 0 (min t n) (λ h lt.
        let w : 0 + h ≡ h = zero-add h in
        rw w (same_digit x y h ∙ eq-eqb _ _ (low.2 h (omega arith)))))
        (λ lt.
        let w : 0 + min t n ≡ t = omega arith in
        rw w (same_digit x y t ∙ ne_eqb _ _ (λ none. omega (arith, low.1, none))))

-- the bits of a number that was read
read_bit : (s : List ℕ) (p i n k : ℕ) {x : ℕ} → x ≡ bits_at s p i n → k < n → bit_of x (0 + k) ≡ bit_at s p (i + k)
read_bit s p i n k e lt =
    let z : 0 + k ≡ k = zero-add k in
    rw z (ap (λ (y : ℕ). bit_of y k) e ∙ bit_of_bits s p i n k lt)

read_digit : (s : List ℕ) (p i n k : ℕ) {x : ℕ} → x ≡ bits_at s p i n → k < n → eqb (digit_at x k) 1 ≡ bit_at s p (i + k)
unfolding bit_of
read_digit s p i n k e lt = ap (λ (y : ℕ). bit_of y k) e ∙ bit_of_bits s p i n k lt

-- two numbers that were read differ first where the bits do, and inside where they are not the same
module _ (a : List ℕ) (p : ℕ) (b : List ℕ) (q i j n : ℕ) {x y r : ℕ} (e : x ≡ bits_at a p i n) (f : y ≡ bits_at b q j n) (g : r ≡ first_unequal (same_bit_of x y) 0 0 n) where
  read_pair : (k : ℕ) → k < n → same_bit_of x y (0 + k) (0 + k) ≡ same_bit a p b q (i + k) (j + k)
  unfolding same_bit same_bit_of
  read_pair k lt = ap₂ beq (read_bit a p i n k e lt) (read_bit b q j n k f lt)

  pub apart_bits : r ≡ first_unequal (same_bit a p b q) i j n
  apart_bits = g ∙ unequal_moved (same_bit_of x y) (same_bit a p b q) 0 0 i j n read_pair

  apart_inside : (x ≡ y → ⊥) → r < n
  apart_inside h = rw apart_bits (unequal_some (same_bit a p b q) i j n (words_differ a p b q i j n e f h))

-- two words after k pairs of bits that are the same: 64 more, or the first that are not
module _ (a : List ℕ) (p : ℕ) (b : List ℕ) (q i j n k : ℕ) {x y : ℕ} (passed : Passed (same_bit a p b q) i j n k) (le : 64 ≤ n - k)
    (e : x ≡ bits_at a p (i + k) 64) (f : y ≡ bits_at b q (j + k) 64) where
  pub word_passed : x ≡ y → Passed (same_bit a p b q) i j n (k + 64)
  word_passed h = passed_more (same_bit a p b q) i j n k 64 le passed (words_same a p b q (i + k) (j + k) 64 e f h)

  pub word_found : {r : ℕ} → (x ≡ y → ⊥) → r ≡ first_unequal (same_bit_of x y) 0 0 64 → k + r ≡ first_unequal (same_bit a p b q) i j n
  word_found h g =
      unequal_among (same_bit a p b q) i j n k passed 64 le (apart_bits a p b q (i + k) (j + k) 64 e f g)
      (apart_inside a p b q (i + k) (j + k) 64 e f g h)

-- the set bits of a word that was read
pub leading_read : (s : List ℕ) (p i : ℕ) {x r : ℕ} → x ≡ bits_at s p i 64 → x < 2 ^ 64 → r ≡ trailing_ones w64 x → Leading (bit_at s p) i 64 r
leading_read s p i {x} {r} e lt er = cases (eq-or-lt_of_le most)
  where
    most : x ≤ 18446744073709551615
    most = omega arith

    cases : (x ≡ 18446744073709551615) ⊎ (x < 18446744073709551615) → Leading (bit_at s p) i 64 r
    cases (inl full) =
        let all_set : r ≡ 64 = er ∙ ap (trailing_ones w64) full ∙ trailing_of_zero 64 in
        rw all_set (leading_all (bit_at s p) i 64 64 (omega arith) (omega arith) (full_result s p i x e full))
    cases (inr less) =
        let low = bit_at-trailing_ones w64 x (omega arith) in
        let at : (k : ℕ) → k < 64 → bit_at s p (i + k) ≡ eqb (digit_at x k) 1 = λ k few. sym (read_digit s p i 64 k e few) in
        rw er
        (record {
          within = omega (arith, low.0);
          holds = λ k below. at k (omega (arith, low.0)) ∙ eq-eqb _ _ (low.2 k below);
          stops = λ below. at (trailing_ones w64 x) (omega (arith, low.0)) ∙ ne_eqb _ _ (λ one. omega (arith, low.1, one));
        })

-- a word after k bits that are set
module _ (t : ℕ → Bool) (i n k : ℕ) {r : ℕ} (set : every t i k ≡ true) (l : Leading t (i + k) 64 r) where
  set_more : (m : ℕ) → m ≤ r → every t i (k + m) ≡ true
  unfolding every
  set_more zero le = let z : k + 0 ≡ k = omega arith in rw z set
  set_more (suc m) le =
      let z : k + suc m ≡ k + m + 1 = omega arith in
      let y : i + (k + m) ≡ i + k + m = omega arith in
      rw z (every_jump t i (k + m) 1 (set_more m (omega arith)) (rw (y, l.holds m (omega arith))))

  pub word_stops : r < 64 → k + r < n → Leading t i n (k + r)
  word_stops lt within = let y : i + (k + r) ≡ i + k + r = omega arith in leading_stops t i n (k + r) within (set_more r (omega arith)) (rw y (l.stops lt))

  pub word_more : 64 ≤ r → every t i (k + 64) ≡ true
  word_more le = set_more 64 le

  pub word_next : (h : ℕ) → k ≡ 64 * h → 64 ≤ r → every t i (64 * (h + 1)) ≡ true
  word_next h e le = let z : k + 64 ≡ 64 * (h + 1) = omega arith in rw z at (set_more 64 le)

  word_ends : k ≤ n → n - k ≤ r → Leading t i n n
  word_ends le most = let z : k + (n - k) ≡ n = omega arith in leading_all t i n n (omega arith) (omega arith) (rw z at (set_more (n - k) most))

  -- the last one, of which fewer bits count
  pub word_last : k ≤ n → n - k < 64 → Leading t i n (k + min r (n - k))
  word_last le few = cases (ltb r (n - k)) refl
    where
      cases : (b : Bool) → ltb r (n - k) ≡ b → Leading t i n (k + min r (n - k))
      cases true e = let lt = ltb-true r (n - k) e in let least : min r (n - k) ≡ r = omega arith in rw least (word_stops (omega arith) (omega arith))
      cases false e = let ge = ltb-false r (n - k) e in let all_of : k + min r (n - k) ≡ n = omega arith in rw all_of (word_ends le ge)
