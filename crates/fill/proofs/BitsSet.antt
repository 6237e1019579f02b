-- A bit that is set in the bytes of a number, all of whose bits from it on are 0.
-- By the bytes: the bit is in the first byte, or behind it in the bytes of what is left of the number.
use mathlib.Core.Path.{◌≡◌, refl, sym, ap, ◌∙◌}
use mathlib.Core.List.{List, [], ◌∷◌, ◌++◌, append_assoc, append-nil}
use mathlib.Core.Logic.{◌⊎◌, inl, inr}
use Prim.Native.Nat.{ℕ, zero, suc, ◌+◌, ◌*◌, ◌-◌, ◌/◌, ◌%◌, ◌≤◌, ◌<◌, ◌^◌}
use native.Mathlib.Omega.{arith}
use lib.ListN.{length, replicate, set}
use lib.Pow.{pow-add, pow_mono}
use Rattle.std.specs.Int.Bits.{bit_and, bit_or}
use Rattle.std.proofs.lemmas.Nat.{or_disjoint}
use Rattle.std.proofs.lemmas.Nat.Bits.{and_pow}
use native.Mathlib.Nat.{div-eq_of_lt}
use Rattle.image.specs.Bytes.{byte_at, number_bytes}
use Rattle.image.specs.Row.{Row, Rows, none, more, one, rows_then}
use Rattle.image.specs.Built.{bits_number, pack_bits, each_number, each_bytes, offsets_from, span}
use Rattle.laws.proofs.Lengths.{number_length}
use Rattle.built.specs.Walk.{total}
use Rattle.fill.specs.Filling.{padded}
use Rattle.fill.proofs.Bytes.{lt_or_ge}

-- a bit past the first byte
past_byte : (j : ℕ) → 8 ≤ j → 2 ^ j ≡ 256 * 2 ^ (j - 8)
past_byte j le =
    let e : j ≡ 8 + (j - 8) = omega arith in
    ap (λ (n : ℕ). 2 ^ n) e ∙ pow-add 2 8 (j - 8)

pub bit_clear : (n x j : ℕ) → x < 2 ^ j → j < 8 * n → byte_at (number_bytes n x) (j / 8) < 2 ^ (j % 8)
unfolding number_bytes
bit_clear zero x j lt few = absurd (omega arith)
bit_clear (suc n) x j lt few = cases (lt_or_ge j 8) (λ le. bit_clear n (x / 256) (j - 8) (omega (arith, past_byte j le)) (omega arith))
  where
    cases : (j < 8) ⊎ (8 ≤ j) → (8 ≤ j → byte_at (number_bytes n (x / 256)) ((j - 8) / 8) < 2 ^ ((j - 8) % 8)) → byte_at (x % 256 ∷ number_bytes n (x / 256)) (j / 8) < 2 ^ (j % 8)
    cases (inl low) rest =
        let a : j / 8 ≡ 0 = omega arith in
        let b : j % 8 ≡ j = omega arith in
        rw (a, b) (omega arith)
    cases (inr le) rest =
        let a : j / 8 ≡ suc ((j - 8) / 8) = omega arith in
        let b : j % 8 ≡ (j - 8) % 8 = omega arith in
        rw (a, b) (rest le)

pub bit_set : (n x j : ℕ) → x < 2 ^ j → j < 8 * n → set (number_bytes n x) (j / 8) (byte_at (number_bytes n x) (j / 8) + 2 ^ (j % 8)) ≡ number_bytes n (x + 2 ^ j)
unfolding number_bytes
bit_set zero x j lt few = absurd (omega arith)
bit_set (suc n) x j lt few = cases (lt_or_ge j 8) (λ le. bit_set n (x / 256) (j - 8) (omega (arith, past_byte j le)) (omega arith))
  where
    cases : (j < 8) ⊎ (8 ≤ j) → (8 ≤ j → set (number_bytes n (x / 256)) ((j - 8) / 8) (byte_at (number_bytes n (x / 256)) ((j - 8) / 8) + 2 ^ ((j - 8) % 8)) ≡ number_bytes n (x / 256 + 2 ^ (j - 8)))
        → set (x % 256 ∷ number_bytes n (x / 256)) (j / 8) (byte_at (x % 256 ∷ number_bytes n (x / 256)) (j / 8) + 2 ^ (j % 8)) ≡ (x + 2 ^ j) % 256 ∷ number_bytes n ((x + 2 ^ j) / 256)
    cases (inl low) rest =
        let a : j / 8 ≡ 0 = omega arith in
        let b : j % 8 ≡ j = omega arith in
        let seven : j ≤ 7 = omega arith in
        let top : 2 ^ j ≤ 2 ^ 7 = pow_mono seven in
        let c : x % 256 + 2 ^ j ≡ (x + 2 ^ j) % 256 = omega arith in
        let d : x / 256 ≡ (x + 2 ^ j) / 256 = omega arith in
        rw (a, b, c, d)
    cases (inr le) rest =
        let a : j / 8 ≡ suc ((j - 8) / 8) = omega arith in
        let b : j % 8 ≡ (j - 8) % 8 = omega arith in
        let p = past_byte j le in
        let c : (x + 2 ^ j) % 256 ≡ x % 256 = omega arith in
        let d : (x + 2 ^ j) / 256 ≡ x / 256 + 2 ^ (j - 8) = omega arith in
        rw (a, b, c, d) (ap (λ (y : List ℕ). x % 256 ∷ y) (rest le))

-- bytes of a number, and zeros behind
pub zero_bytes : (n : ℕ) → number_bytes n 0 ≡ replicate n 0
unfolding number_bytes
zero_bytes zero = refl
zero_bytes (suc n) = ap (λ (y : List ℕ). 0 ∷ y) (zero_bytes n)

number_padded : (m n x : ℕ) → m ≤ n → x < 2 ^ (8 * m) → number_bytes m x ++ replicate (n - m) 0 ≡ number_bytes n x
unfolding number_bytes
number_padded zero n x le lt =
    let none : x ≡ 0 = omega arith in
    let all : n - 0 ≡ n = omega arith in
    rw (none, all) (sym (zero_bytes n))
number_padded (suc m) zero x le lt = absurd (omega arith)
number_padded (suc m) (suc n) x le lt =
    let e : 8 * suc m ≡ 8 + 8 * m = omega arith in
    let p : 2 ^ (8 * suc m) ≡ 256 * 2 ^ (8 * m) = ap (λ (k : ℕ). 2 ^ k) e ∙ pow-add 2 8 (8 * m) in
    let left : suc n - suc m ≡ n - m = omega arith in
    rw left (ap (λ (y : List ℕ). x % 256 ∷ y) (number_padded m n (x / 256) (omega arith) (omega arith)))

pub bits_padded : (n : ℕ) (xs : List ℕ) → length xs ≤ 8 * n → bits_number xs < 2 ^ length xs → padded n (pack_bits xs) ≡ number_bytes n (bits_number xs)
unfolding padded pack_bits
bits_padded n xs fits small =
    let whole : length xs ≤ 8 * ((length xs + 7) / 8) = omega arith in
    let top : 2 ^ length xs ≤ 2 ^ (8 * ((length xs + 7) / 8)) = pow_mono whole in
    rw (number_length ((length xs + 7) / 8) (bits_number xs)) (number_padded ((length xs + 7) / 8) n (bits_number xs) (omega arith) (omega arith))

pub pow_suc : (n : ℕ) → 2 ^ suc n ≡ 2 * 2 ^ n
pow_suc n =
    let e : suc n ≡ 1 + n = omega arith in
    rw e (pow-add 2 1 n)

-- one bit more
pub bits_more : (xs : List ℕ) (v : ℕ) → bits_number (xs ++ (v ∷ [])) ≡ bits_number xs + v * 2 ^ length xs
unfolding bits_number
bits_more [] v = omega arith
bits_more (x ∷ xs) v =
    let e : 2 ^ suc (length xs) ≡ 2 * 2 ^ length xs = pow_suc (length xs) in
    let f : v * (2 * 2 ^ length xs) ≡ 2 * (v * 2 ^ length xs) = omega arith in
    rw (bits_more xs v, e, f) (omega arith)

-- What rows have, one row more.
pub number_more : (f : Row → ℕ) (rs : Rows) (r : Row) → each_number f (rows_then rs (one r)) ≡ each_number f rs ++ (f r ∷ [])
unfolding each_number rows_then
number_more f none r = refl
number_more f (more q rs) r = ap (λ (y : List ℕ). f q ∷ y) (number_more f rs r)

pub bytes_more : (f : Row → List ℕ) (rs : Rows) (r : Row) → each_bytes f (rows_then rs (one r)) ≡ each_bytes f rs ++ f r
unfolding each_bytes rows_then
bytes_more f none r = simp append-nil
bytes_more f (more q rs) r = rw (bytes_more f rs r) (simp append_assoc)

pub offsets_more : (w x : ℕ) (rs : Rows) (r : Row) → offsets_from w x (rows_then rs (one r)) ≡ offsets_from w x rs ++ number_bytes w (x + total rs + span r)
unfolding offsets_from rows_then total
offsets_more w x none r =
    let e : x + 0 + span r ≡ x + span r = omega arith in
    rw e
offsets_more w x (more q rs) r =
    let e : x + span q + total rs + span r ≡ x + (span q + total rs) + span r = omega arith in
    rw (offsets_more w (x + span q) rs r, e) (simp append_assoc)

-- the bit that is set, as code has it: where it and those from it on are 0, it is added
bit_small : (j : ℕ) → 1 * 2 ^ (j % 8) % 256 ≡ 2 ^ (j % 8)
bit_small j =
    let seven : j % 8 ≤ 7 = omega arith in
    let top : 2 ^ (j % 8) ≤ 128 = pow_mono seven in
    omega arith

pub bit_added : (x j : ℕ) → x < 2 ^ (j % 8) → bit_or x (1 * 2 ^ (j % 8) % 256) ≡ x + 2 ^ (j % 8)
bit_added x j lt =
    let free : bit_and x (2 ^ (j % 8)) ≡ 0 = and_pow x (j % 8) ∙ rw (div-eq_of_lt lt) (omega arith) in
    rw (bit_small j) (or_disjoint x (2 ^ (j % 8)) free)
