-- Bits as a number: the bits from one on are a little-endian number shifted and cut off; two such numbers are equal where
-- all pairs of bits are; and runs of set bits. Mostly by induction over the count; a shift within a byte by its eight cases.
use mathlib.Core.Path.{◌≡◌, refl, sym, ap, ◌∙◌}
use mathlib.Core.Bool.{Bool, true, false, cond, beq, ◌&&◌}
use mathlib.Core.List.{List}
use mathlib.Core.Logic.{◌⊎◌, inl, inr}
use Prim.Native.Nat.{ℕ, zero, suc, ◌+◌, ◌*◌, ◌-◌, ◌/◌, ◌%◌, ◌^◌, ◌<◌, ◌≤◌}
use native.Mathlib.Omega.{arith}
use native.Mathlib.Nat.{eq-or-lt_of_le, mod-one, mod-add-div, mod-lt, mod-eq_of_lt, mul_assoc, add-mul-mod_self_left, div-div-eq-div-mul, pow-suc, pow-succ'}
use lib.Dec.{eqb}
use lib.Pow.{pow_pos}
use borrow.Author.Tests.{eqb-true, eqb-false, eq-eqb, ne_eqb}
use Rattle.image.specs.Bytes.{byte_at, AllBytes, number_at, bit_at}
use Rattle.image.specs.Reads.{Read}
use Rattle.image.specs.Ranges.{every}
use Rattle.image.proofs.Compare.{is_eq, is_ne}
use Rattle.values.specs.Bits.{bits_at, joined}
use Rattle.values.specs.Pairs.{all, same_bit}

-- the lowest binary digit, and the others, make the number, both cut off
pub cut_off : (x m : ℕ) → 0 < m → x % 2 + 2 * (x / 2 % m) ≡ x % (2 * m)
cut_off x m pos =
    let q : x / 2 % m + m * (x / 2 / m) ≡ x / 2 = mod-add-div (x / 2) m in
    let t : 2 * m * (x / 2 / m) ≡ 2 * (m * (x / 2 / m)) = mul_assoc 2 m (x / 2 / m) in
    let e : x ≡ x % 2 + 2 * (x / 2 % m) + 2 * m * (x / 2 / m) = omega arith in
    let l : x / 2 % m < m = mod-lt (x / 2) pos in
    let h : x % 2 + 2 * (x / 2 % m) < 2 * m = omega arith in
    sym (ap (λ (y : ℕ). y % (2 * m)) e ∙ add-mul-mod_self_left (x % 2 + 2 * (x / 2 % m)) (2 * m) (x / 2 / m) ∙ mod-eq_of_lt h)

by_eight : (P : ℕ → Type 0) → P 0 → P 1 → P 2 → P 3 → P 4 → P 5 → P 6 → P 7 → (r : ℕ) → r < 8 → P r
by_eight P p0 p1 p2 p3 p4 p5 p6 p7 zero lt = p0
by_eight P p0 p1 p2 p3 p4 p5 p6 p7 (suc zero) lt = p1
by_eight P p0 p1 p2 p3 p4 p5 p6 p7 (suc (suc zero)) lt = p2
by_eight P p0 p1 p2 p3 p4 p5 p6 p7 (suc (suc (suc zero))) lt = p3
by_eight P p0 p1 p2 p3 p4 p5 p6 p7 (suc (suc (suc (suc zero)))) lt = p4
by_eight P p0 p1 p2 p3 p4 p5 p6 p7 (suc (suc (suc (suc (suc zero))))) lt = p5
by_eight P p0 p1 p2 p3 p4 p5 p6 p7 (suc (suc (suc (suc (suc (suc zero)))))) lt = p6
by_eight P p0 p1 p2 p3 p4 p5 p6 p7 (suc (suc (suc (suc (suc (suc (suc zero))))))) lt = p7
by_eight P p0 p1 p2 p3 p4 p5 p6 p7 (suc (suc (suc (suc (suc (suc (suc (suc r)))))))) lt = absurd (omega arith)

-- a bit of the lowest byte does not see the bytes above
low_bit : (b m r : ℕ) → r < 8 → b / 2 ^ r % 2 ≡ (b + 256 * m) / 2 ^ r % 2
low_bit b m =
    by_eight (λ r. b / 2 ^ r % 2 ≡ (b + 256 * m) / 2 ^ r % 2)
    (omega arith) (omega arith) (omega arith) (omega arith) (omega arith) (omega arith) (omega arith) (omega arith)

-- what a word's two reads make: they do not overlap
joined_reads : (low next r : ℕ) → r < 8 → low < 2 ^ 64 → low / 2 ^ r + next * 2 ^ (64 - r) % 2 ^ 64 ≡ joined low next r
unfolding joined
joined_reads low next r lt small =
    by_eight (λ r. low / 2 ^ r + next * 2 ^ (64 - r) % 2 ^ 64 ≡ (low + 18446744073709551616 * next) / 2 ^ r % 2 ^ 64)
    (omega arith) (omega arith) (omega arith) (omega arith) (omega arith) (omega arith) (omega arith) (omega arith) r lt

module _ (low next r : ℕ) (small : low < 2 ^ 64) where
  pub joined_whole : r ≡ 0 → low ≡ joined low next r
  unfolding joined
  joined_whole e = rw e (omega arith)

  pub joined_split : r < 8 → low / 2 ^ r + next * 2 ^ (64 - r) % 2 ^ 64 ≡ joined low next r
  joined_split lt = joined_reads low next r lt small

  pub joined_fits : r < 8 → low / 2 ^ r + next * 2 ^ (64 - r) % 2 ^ 64 < 2 ^ 64
  unfolding joined
  joined_fits lt = rw (joined_split lt) (mod-lt _ (pow_pos 64))

bit_number : (x : ℕ) → x < 2 → cond (eqb x 1) 1 0 ≡ x
bit_number zero lt = refl
bit_number (suc zero) lt = refl
bit_number (suc (suc x)) lt = absurd (omega arith)

pub halved : (x r : ℕ) → x / 2 ^ r / 2 ≡ x / 2 ^ suc r
halved x r = div-div-eq-div-mul x (2 ^ r) 2 ∙ ap (λ (y : ℕ). x / y) (sym (pow-suc 2 r))

-- n bits from bit i on are the number at bit i's byte, without the bits below bit i, cut off after n bits
module _ (s : List ℕ) (small : AllBytes s) (p : ℕ) where
  next : (i w n : ℕ) → i % 8 + suc n ≤ 8 * suc w → ((v : ℕ) → suc i % 8 + n ≤ 8 * v → bits_at s p (suc i) n ≡ number_at v s (p + suc i / 8) / 2 ^ (suc i % 8) % 2 ^ n)
      → (i % 8 ≡ 7) ⊎ (i % 8 < 7) → bits_at s p (suc i) n ≡ number_at (suc w) s (p + i / 8) / 2 ^ (i % 8) / 2 % 2 ^ n
  unfolding number_at
  next i w n le rest (inl e) =
      let r : suc i % 8 ≡ 0 = omega arith in
      let q : p + suc i / 8 ≡ suc (p + i / 8) = omega arith in
      let b : byte_at s (p + i / 8) < 256 = small (p + i / 8) in
      let x : number_at w s (suc (p + i / 8)) / 1 ≡ (byte_at s (p + i / 8) + 256 * number_at w s (suc (p + i / 8))) / 128 / 2 = omega arith in
      rest w (omega arith) ∙ rw (r, q, e) (ap (λ (y : ℕ). y % 2 ^ n) x)
  next i w n le rest (inr lt) =
      let r : suc i % 8 ≡ suc (i % 8) = omega arith in
      let q : suc i / 8 ≡ i / 8 = omega arith in
      rest (suc w) (omega arith) ∙ rw (r, q, halved _ (i % 8))

  pub bits_number_lem : (n i w : ℕ) → i % 8 + n ≤ 8 * w → bits_at s p i n ≡ number_at w s (p + i / 8) / 2 ^ (i % 8) % 2 ^ n
  unfolding bits_at bit_at number_at
  bits_number_lem zero i w le = sym (mod-one _)
  bits_number_lem (suc n) i zero le = absurd (omega arith)
  bits_number_lem (suc n) i (suc w) le =
      let x : ℕ = byte_at s (p + i / 8) / 2 ^ (i % 8) in
      let d : cond (eqb (x % 2) 1) 1 0 ≡ x % 2 = bit_number (x % 2) (omega arith) in
      let l : x % 2 ≡ (byte_at s (p + i / 8) + 256 * number_at w s (suc (p + i / 8))) / 2 ^ (i % 8) % 2 = low_bit _ _ (i % 8) (omega arith) in
      let h : i % 8 ≤ 7 = omega arith in
      rw (d, l, next i w n le (bits_number_lem n (suc i)) (eq-or-lt_of_le h), pow-succ' 2 n) (cut_off _ (2 ^ n) (pow_pos n))

number_nine : (s : List ℕ) (i : ℕ) → number_at 9 s i ≡ number_at 8 s i + 18446744073709551616 * byte_at s (i + 8)
unfolding number_at
number_nine s i =
    let e : i + 8 ≡ suc (suc (suc (suc (suc (suc (suc (suc i))))))) = omega arith in
    rw e (omega arith)

-- the 64 bits from bit i on, by a read of eight bytes and one of the byte after them
pub word_joined : (s : List ℕ) → AllBytes s → (p i : ℕ) {low next r : ℕ} → Read (number_at 8 s (p + i / 8)) 64 low → next ≡ byte_at s (p + i / 8 + 8) → r ≡ joined low next (i % 8) → r ≡ bits_at s p i 64
unfolding joined
word_joined s small p i lows e f =
    f ∙ sym (bits_number_lem s small p 64 i 9 (omega arith) ∙ rw (number_nine s (p + i / 8), ← lows.value, ← e))

-- Two words are the same where all their pairs of bits are.
pub same_test : (a b c d : ℕ) → (a ≡ b → c ≡ d) → (c ≡ d → a ≡ b) → eqb a b ≡ eqb c d
same_test a b c d to from = cases (eqb c d) refl
  where
    cases : (t : Bool) → eqb c d ≡ t → eqb a b ≡ t
    cases true e = eq-eqb a b (from (eqb-true c d e))
    cases false e = ne_eqb a b (λ h. eqb-false c d e (to h))

first_pair : (x y : Bool) (m n : ℕ) → eqb (cond x 1 0 + 2 * m) (cond y 1 0 + 2 * n) ≡ beq x y && eqb m n
first_pair true true m n = same_test (1 + 2 * m) (1 + 2 * n) m n (λ e. omega arith) (λ e. omega arith)
first_pair true false m n = ne_eqb (1 + 2 * m) (0 + 2 * n) (λ e. omega arith)
first_pair false true m n = ne_eqb (0 + 2 * m) (1 + 2 * n) (λ e. omega arith)
first_pair false false m n = same_test (0 + 2 * m) (0 + 2 * n) m n (λ e. omega arith) (λ e. omega arith)

same_words : (a : List ℕ) (p : ℕ) (b : List ℕ) (q i j n : ℕ) → eqb (bits_at a p i n) (bits_at b q j n) ≡ all (same_bit a p b q) i j n
unfolding bits_at all same_bit
same_words a p b q i j zero = refl
same_words a p b q i j (suc n) =
    first_pair (bit_at a p i) (bit_at b q j) (bits_at a p (suc i) n) (bits_at b q (suc j) n)
    ∙ rw (same_words a p b q (suc i) (suc j) n)

-- two numbers that were read
module _ (a : List ℕ) (p : ℕ) (b : List ℕ) (q i j n : ℕ) {x y : ℕ} (e : x ≡ bits_at a p i n) (f : y ≡ bits_at b q j n) where
  pub words_same : x ≡ y → all (same_bit a p b q) i j n ≡ true
  words_same h = sym (same_words a p b q i j n) ∙ is_eq e f h

  pub words_differ : (x ≡ y → ⊥) → all (same_bit a p b q) i j n ≡ false
  words_differ h = sym (same_words a p b q i j n) ∙ is_ne e f h

-- A word of set bits.
all_ones : (x : Bool) (m e : ℕ) → suc (cond x 1 0 + 2 * m) ≡ 2 * e → (x ≡ true) × (suc m ≡ e)
all_ones true m e h = (refl, omega arith)
all_ones false m e h = absurd (omega arith)

full_word : (s : List ℕ) (p i n : ℕ) → suc (bits_at s p i n) ≡ 2 ^ n → every (bit_at s p) i n ≡ true
unfolding bits_at every
full_word s p i zero e = refl
full_word s p i (suc n) e =
    let h : (bit_at s p i ≡ true) × (suc (bits_at s p (suc i) n) ≡ 2 ^ n) = all_ones (bit_at s p i) (bits_at s p (suc i) n) (2 ^ n) (e ∙ pow-succ' 2 n) in
    rw h.0 (full_word s p (suc i) n h.1)

pub full_result : (s : List ℕ) (p i x : ℕ) → x ≡ bits_at s p i 64 → x ≡ 18446744073709551615 → every (bit_at s p) i 64 ≡ true
full_result s p i x e f = full_word s p i 64 (ap suc (sym e ∙ f))
