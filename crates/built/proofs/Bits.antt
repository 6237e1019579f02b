-- Bit j of packed bits is the bit numbered j.
-- Byte i of a number is the number from bit 8 * i on, and so bit j of its bytes is its bit j; a number made of bits has them.
use mathlib.Core.Path.{◌≡◌, refl, sym, ap, ◌∙◌}
use mathlib.Core.List.{List, [], ◌∷◌}
use Prim.Native.Nat.{ℕ, zero, suc, ◌+◌, ◌*◌, ◌-◌, ◌/◌, ◌%◌, ◌≤◌, ◌<◌, ◌^◌}
use native.Mathlib.Nat.{zero-add, zero-div}
use native.Mathlib.Omega.{arith}
use lib.ListN.{length, get_or}
use lib.Dec.{eqb}
use lib.Pow.{shr-shr, field, mod-mod-pow}
use Rattle.image.specs.Bytes.{byte_at, number_bytes, bit_at}
use Rattle.image.specs.Row.{Row, Rows, none, more}
use Rattle.image.specs.RowBytes.{count}
use Rattle.laws.proofs.Lengths.{number_length}
use Rattle.image.specs.Built.{bits_number, pack_bits, each_number, nth}

byte_of_number : (w x i : ℕ) → i < w → byte_at (number_bytes w x) i ≡ x / 2 ^ (8 * i) % 256
unfolding number_bytes
byte_of_number zero x i lt = absurd (omega arith)
byte_of_number (suc w) x zero lt = omega arith
byte_of_number (suc w) x (suc i) lt =
    let e : 8 * suc i ≡ 8 + 8 * i = omega arith in
    rw e (byte_of_number w (x / 256) i (omega arith) ∙ ap (λ (n : ℕ). n % 256) (shr-shr x 8 (8 * i)))

-- bit r of a byte, and of the number that it is the lowest byte of
low_bit : (n r : ℕ) → r < 8 → n % 256 / 2 ^ r % 2 ≡ n / 2 ^ r % 2
low_bit n r lt =
    let a : (8 - r) + r ≡ 8 = omega arith in
    let b : 8 - r ≡ (7 - r) + 1 = omega arith in
    ap (λ (k : ℕ). n % 2 ^ k / 2 ^ r % 2) (sym a) ∙ ap (λ (m : ℕ). m % 2) (field n (8 - r) r)
    ∙ ap (λ (k : ℕ). n / 2 ^ r % 2 ^ k % 2) b ∙ mod-mod-pow (n / 2 ^ r) (7 - r) 1

pub bit_of_number : (w x j : ℕ) → j / 8 < w → bit_at (number_bytes w x) 0 j ≡ eqb (x / 2 ^ j % 2) 1
unfolding bit_at
bit_of_number w x j lt =
    let e : 8 * (j / 8) + j % 8 ≡ j = omega arith in
    rw (zero-add (j / 8), byte_of_number w x (j / 8) lt, low_bit (x / 2 ^ (8 * (j / 8))) (j % 8) (omega arith), shr-shr x (8 * (j / 8)) (j % 8), e)

-- a number made of bits, each 0 or 1, has them
pub bits_number_lem : (xs : List ℕ) (j : ℕ) → ((i : ℕ) → get_or xs i 0 ≤ 1) → bits_number xs / 2 ^ j % 2 ≡ get_or xs j 0
unfolding bits_number
bits_number_lem [] j small = rw (zero-div (2 ^ j))
bits_number_lem (x ∷ xs) zero small = omega (arith, small 0)
bits_number_lem (x ∷ xs) (suc j) small =
    let e : suc j ≡ 1 + j = omega arith in
    let half : (x + 2 * bits_number xs) / 2 ≡ bits_number xs = omega (arith, small 0) in
    rw (e, ← shr-shr (x + 2 * bits_number xs) 1 j) (ap (λ (n : ℕ). n / 2 ^ j % 2) half ∙ bits_number_lem xs j (λ i. small (suc i)))

pub pack_length : (xs : List ℕ) → length (pack_bits xs) ≡ (length xs + 7) / 8
unfolding pack_bits
pack_length xs = number_length _ _

-- bit j of packed bits
pub pack_bit : (xs : List ℕ) (j : ℕ) → ((i : ℕ) → get_or xs i 0 ≤ 1) → j < length xs → bit_at (pack_bits xs) 0 j ≡ eqb (get_or xs j 0) 1
unfolding pack_bits
pack_bit xs j small lt =
    bit_of_number ((length xs + 7) / 8) (bits_number xs) j (omega arith) ∙ ap (λ (n : ℕ). eqb n 1) (bits_number_lem xs j small)

-- the numbers that rows have
pub each_length : (f : Row → ℕ) (rs : Rows) → length (each_number f rs) ≡ count rs
unfolding each_number count
each_length f none = refl
each_length f (more r rs) = ap suc (each_length f rs)

pub each_at : (f : Row → ℕ) (rs : Rows) (j : ℕ) → j < count rs → get_or (each_number f rs) j 0 ≡ f (nth rs j)
unfolding each_number count nth
each_at f none j lt = absurd (omega arith)
each_at f (more r rs) zero lt = refl
each_at f (more r rs) (suc j) lt = each_at f rs j (omega arith)

pub each_bits : (f : Row → ℕ) (rs : Rows) → ((i : ℕ) → i < count rs → f (nth rs i) ≤ 1) → (i : ℕ) → get_or (each_number f rs) i 0 ≤ 1
unfolding each_number count nth
each_bits f none small i = omega arith
each_bits f (more r rs) small zero = small 0 (omega arith)
each_bits f (more r rs) small (suc i) = each_bits f rs (λ i lt. small (suc i) (omega arith)) i

-- the bit of row j, of bits that rows have
pub row_bit : (f : Row → ℕ) (rs : Rows) → ((i : ℕ) → i < count rs → f (nth rs i) ≤ 1) → (j : ℕ) → j < count rs → bit_at (pack_bits (each_number f rs)) 0 j ≡ eqb (f (nth rs j)) 1
row_bit f rs small j lt =
    pack_bit (each_number f rs) j (each_bits f rs small) (rw (each_length f rs) lt) ∙ ap (λ (n : ℕ). eqb n 1) (each_at f rs j lt)
