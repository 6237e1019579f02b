-- Laws of little-endian numbers: 0 past the end, a byte more makes the next, four and eight bytes written out, many side by side.
-- By induction over the width; the bounds by powers of 2 and products.
use mathlib.Core.Path.{◌≡◌, refl, sym, ap, ◌∙◌}
use mathlib.Core.Bool.{Bool, true, false, true≢false, ◌||◌}
use mathlib.Core.List.{List}
use Prim.Native.Nat.{ℕ, zero, suc, ◌+◌, ◌*◌, ◌-◌, ◌/◌, ◌%◌, ◌<◌, ◌≤◌, ◌^◌}
use native.Mathlib.Omega.{arith}
use native.Mathlib.Nat.{pow-le-pow_right, zero-div, mul-le-mul, le_refl, suc-mul, add-mul}
use lib.Pow.{pow-add}
use native.Mathlib.Numerals.{add-one, add-two, add-three}
use lib.Dec.{eqb, leb, lit<}
use lib.ListN.{length, get_or-eq_default}
use borrow.Author.Tests.{eqb-true, ne_eqb, leb-true, leb-false}
use Rattle.image.specs.Bytes.{byte_at, number_at, bit_at}
use Rattle.image.specs.Reads.{Read, is_width, Packed}

pub byte_past : (s : List ℕ) (i : ℕ) → length s ≤ i → byte_at s i ≡ 0
byte_past s i le = get_or-eq_default s 0 {n = i} le

-- a number read through another variable
pub read_through : {x y r bits : ℕ} → Read x bits r → Read y bits x → Read y bits r
read_through p q = record { value = p.value ∙ q.value; small = p.small }

-- a number that is the one that was read
pub read_same : {x bits r q : ℕ} → q ≡ r → Read x bits r → Read x bits q
read_same e p = rw e p

-- a byte that stands there
pub read_of : {x r : ℕ} → r ≡ x → x < 256 → Read x 8 r
read_of e h = record { value = e; small = rw e h }

-- a number whose width is known
pub read_as : {w v r : ℕ} (s : List ℕ) (i : ℕ) → w ≡ v → Read (number_at v s i) (8 * v) r → Read (number_at w s i) (8 * w) r
read_as s i e p = rw e p

pub number_past : (w : ℕ) (s : List ℕ) (i : ℕ) → length s ≤ i → number_at w s i ≡ 0
unfolding number_at
number_past zero s i le = refl
number_past (suc w) s i le = rw (byte_past s i le, number_past w s (suc i) (omega arith))

pub read_past : (w : ℕ) (s : List ℕ) (i : ℕ) → length s ≤ i → Read (number_at w s i) (8 * w) 0
read_past w s i le = record { value = sym (number_past w s i le); small = pow-le-pow_right {n = 2} (lit< tt) {i = 0} {j = 8 * w} (omega arith) }

pub read_none : (w : ℕ) (s : List ℕ) (i : ℕ) → Read (number_at (w - w) s (i + w)) (8 * (w - w)) 0
unfolding number_at
read_none w s i =
    let e : w - w ≡ 0 = omega arith in
    rw e (record { value = refl; small = lit< tt })

byte_shift : (n : ℕ) → 2 ^ (8 + n) ≡ 256 * 2 ^ n
byte_shift n = pow-add 2 8 n

-- one byte more, below the bytes that were read
pub read_more : (s : List ℕ) (w i k : ℕ) {x b : ℕ} → 0 < k → k ≤ w → Read (number_at (w - k) s (i + k)) (8 * (w - k)) x → Read (byte_at s (i + (k - 1))) 8 b
    → Read (number_at (w - (k - 1)) s (i + (k - 1))) (8 * (w - (k - 1))) (b + 256 * x)
unfolding number_at
read_more s w i k {x} {b} pos le rx rb =
    let m : w - (k - 1) ≡ suc (w - k) = omega arith in
    let j : suc (i + (k - 1)) ≡ i + k = omega arith in
    let t : 8 * (w - (k - 1)) ≡ 8 + 8 * (w - k) = omega arith in
    record {
      value =
          rw (rx.value, rb.value)
          (sym (ap (λ (n : ℕ). number_at n s (i + (k - 1))) m ∙ ap (λ (n : ℕ). byte_at s (i + (k - 1)) + 256 * number_at (w - k) s n) j));
      small = rw (t, byte_shift (8 * (w - k))) (omega (arith, rx.small, rb.small));
    }

-- all bytes are read
pub read_all : (s : List ℕ) (w i k : ℕ) {x : ℕ} → k ≤ 0 → Read (number_at (w - k) s (i + k)) (8 * (w - k)) x → Read (number_at w s i) (8 * w) x
read_all s w i k {x} le r =
    let m : w - k ≡ w = omega arith in
    let j : i + k ≡ i = omega arith in
    rw (m, j) at r

-- what so many bytes make fits a word
pub fits_word : (w k x : ℕ) → w ≤ 8 → 0 < k → x < 2 ^ (8 * (w - k)) → x < 2 ^ 56
fits_word w k x le pos lt =
    let h : 2 ^ (8 * (w - k)) ≤ 2 ^ 56 = pow-le-pow_right {n = 2} (lit< tt) {i = 8 * (w - k)} {j = 56} (omega arith) in
    omega arith

pub number_two : (s : List ℕ) (i : ℕ) → number_at 2 s i ≡ byte_at s i + 256 * byte_at s (i + 1)
unfolding number_at
number_two s i = rw (add-one i) (omega arith)

pub number_four : (s : List ℕ) (i : ℕ) → number_at 4 s i ≡ byte_at s i + 256 * byte_at s (i + 1) + 65536 * byte_at s (i + 2) + 16777216 * byte_at s (i + 3)
unfolding number_at
number_four s i = rw (add-one i, add-two i, add-three i) (omega arith)

pub number_eight : (s : List ℕ) (i : ℕ) → number_at 8 s i ≡ byte_at s i + 256 * byte_at s (i + 1) + 65536 * byte_at s (i + 2) + 16777216 * byte_at s (i + 3) + 4294967296 * byte_at s (i + 4) + 1099511627776 * byte_at s (i + 5) + 281474976710656 * byte_at s (i + 6) + 72057594037927936 * byte_at s (i + 7)
unfolding number_at
number_eight s i =
    let four : i + 4 ≡ suc (suc (suc (suc i))) = omega arith in
    let five : i + 5 ≡ suc (suc (suc (suc (suc i)))) = omega arith in
    let six : i + 6 ≡ suc (suc (suc (suc (suc (suc i))))) = omega arith in
    let seven : i + 7 ≡ suc (suc (suc (suc (suc (suc (suc i)))))) = omega arith in
    rw (add-one i, add-two i, add-three i, four, five, six, seven) (omega arith)

pub bit_past : (s : List ℕ) (place j : ℕ) → length s ≤ place + j / 8 → false ≡ bit_at s place j
unfolding bit_at
bit_past s place j le = rw (byte_past s (place + j / 8) le, zero-div (2 ^ (j % 8)))

-- a place among elements of at most eight bytes
pub times_small : (j w : ℕ) → j < 2 ^ 40 → w ≤ 8 → j * w ≤ 2 ^ 43
times_small j w few narrow =
    let le : j ≤ 2 ^ 40 = omega arith in
    mul-le-mul le narrow

-- integers have one to eight bytes
pub width_some : (w : ℕ) → is_width w ≡ true → 1 ≤ w
unfolding is_width
width_some zero e = absurd (true≢false (sym e))
width_some (suc w) e = omega arith

pub width_most : (w : ℕ) → is_width w ≡ true → w ≤ 8
unfolding is_width
width_most w e = cases (leb w 8) refl
  where
    cases : (b : Bool) → leb w 8 ≡ b → w ≤ 8
    cases true le = leb-true w 8 le
    cases false gt =
        let lt : 8 < w = leb-false w 8 gt in
        let none : false ≡ true = rw (ne_eqb w 1 (λ q. omega arith), ne_eqb w 2 (λ q. omega arith), ne_eqb w 4 (λ q. omega arith), ne_eqb w 8 (λ q. omega arith)) at e in
        absurd (true≢false (sym none))

-- numbers that lie side by side inside n bytes: there are at most n, fewer lie inside too, and so does each of them
pub packed_few : {n place w count : ℕ} → Packed n place w count → count ≤ n
packed_few {n} {place} {w} {count} p =
    let h : count * 1 ≤ count * w = mul-le-mul (le_refl count) (width_some w p.width) in
    omega (arith, p.inside)

pub packed_fewer : {n place w count : ℕ} (m : ℕ) → m ≤ count → Packed n place w count → Packed n place w m
packed_fewer {n} {place} {w} {count} m le p =
    let h : m * w ≤ count * w = mul-le-mul le (le_refl w) in
    record { width = p.width; inside = omega (arith, p.inside) }

-- those past the first o stand from o widths further on
pub packed_from : {n place w count : ℕ} (o m : ℕ) → o + m ≤ count → Packed n place w count → Packed n (place + o * w) w m
packed_from {n} {place} {w} {count} o m le p =
    let h : (o + m) * w ≤ count * w = mul-le-mul le (le_refl w) in
    let e : (o + m) * w ≡ o * w + m * w = add-mul o m w in
    record { width = p.width; inside = omega (arith, p.inside) }

pub packed_last : {n place w : ℕ} (j : ℕ) → Packed n place w (j + 1) → place + j * w + w ≤ n
packed_last {n} {place} {w} j p =
    let h : (j + 1) * w ≡ j * w + w = rw (add-one j) (suc-mul j w) in
    omega (arith, p.inside)

-- a number of one byte
pub read_byte : {w b r : ℕ} (s : List ℕ) (i : ℕ) → w ≡ 1 → b ≡ byte_at s i → Read b 8 r → Read (number_at w s i) (8 * w) r
unfolding number_at
read_byte s i e at p = rw e (record { value = omega (arith, p.value, at); small = p.small })

-- a width that is not 4, 8 or 2 is 1
pub width_one : {w : ℕ} → is_width w ≡ true → (w ≡ 4 → ⊥) → (w ≡ 8 → ⊥) → (w ≡ 2 → ⊥) → w ≡ 1
unfolding is_width
width_one {w} e four eight two =
    let h : eqb w 1 || false || false || false ≡ true = rw (ne_eqb w 2 two, ne_eqb w 4 four, ne_eqb w 8 eight) at e in
    one (eqb w 1) refl h
  where
    one : (b : Bool) → eqb w 1 ≡ b → b || false || false || false ≡ true → w ≡ 1
    one true q h = eqb-true w 1 q
    one false q h = cc
