-- Whole numbers divided to the nearest: the q of `nearest` is the one whose double times p is at most 2m + p and more than 2m - p;
-- by 1 a number stays; two stored numbers agree where their divided sizes do, and their signs unless that size is 0.
-- By the three cases of what is left over; all arithmetic is on sizes, and one law joins sizes and signs.
use mathlib.Core.Path.{◌≡◌, refl, sym, ap, ap₂, ◌∙◌}
use mathlib.Core.Bool.{Bool, true, false, cond, not, beq, ◌&&◌, ◌||◌, and-true, and-false}
use mathlib.Core.Logic.{◌↔◌}
use Prim.Native.Nat.{ℕ, zero, suc, ◌+◌, ◌*◌, ◌-◌, ◌/◌, ◌%◌, ◌^◌, ◌<◌, ◌≤◌}
use native.Mathlib.Omega.{arith}
use native.Mathlib.Nat.{zero-mod, zero-div, div-add-mod, mod-lt, div-eq_of_lt-le, mul-add, mul-one, mul_assoc, mul_comm}
use lib.Dec.{ltb, eqb, eqb-zero-suc, eqb-suc-zero, eqb-suc-suc}
use lib.IntN.{ℤ, pos, negsuc, neg_ℤ}
use borrow.Author.Tests.{ltb-true, ltb-false, eqb-true, eq-eqb}
use Rattle.image.specs.Digits.{midway, nearest, divided, whole_number, same_whole}
use Rattle.image.specs.TypeCode.{sign_bit}
use Rattle.image.proofs.Bools.{and_left, and_right}
use Rattle.laws.specs.Rounding.{Nearest}

-- the three cases of what is left over
by_rest : (P : ℕ → Type 0) (rule : ℕ → ℕ) (m p : ℕ)
    → (2 * (m % p) < p → P (m / p)) → (p < 2 * (m % p) → P (m / p + 1)) → (2 * (m % p) ≡ p → P (rule (m / p))) → P (nearest rule m p)
unfolding nearest
by_rest P rule m p under over half = cases (ltb (2 * (m % p)) p) (ltb p (2 * (m % p))) refl refl
  where
    cases : (x y : Bool) → ltb (2 * (m % p)) p ≡ x → ltb p (2 * (m % p)) ≡ y → P (cond x (m / p) (cond y (m / p + 1) (rule (m / p))))
    cases true y e f = under (ltb-true _ _ e)
    cases false true e f = over (ltb-true _ _ f)
    cases false false e f =
        let low : p ≤ 2 * (m % p) = ltb-false _ _ e in
        let high : 2 * (m % p) ≤ p = ltb-false _ _ f in
        half (omega arith)

nearest_is : (m p : ℕ) → 0 < p → Nearest m p (nearest midway m p)
unfolding midway
nearest_is m p some =
    let e : p * (m / p) + m % p ≡ m = div-add-mod m p in
    let r : m % p < p = mod-lt m some in
    let next : p * (m / p + 1) ≡ p * (m / p) + p = mul-add p (m / p) 1 ∙ ap (λ (x : ℕ). p * (m / p) + x) (mul-one p) in
    by_rest (λ q. Nearest m p q) midway m p
    (λ h. record { low = omega arith; high = omega arith })
    (λ h. record { low = omega arith; high = omega arith })
    (λ h. record { low = omega arith; high = omega arith })

-- there is one such q
nearest_once : (m p q : ℕ) → 0 < p → Nearest m p q → (2 * m + p) / (2 * p) ≡ q
nearest_once m p q some r =
    let e : q * (2 * p) ≡ 2 * (p * q) = mul_comm q (2 * p) ∙ mul_assoc 2 p q in
    let f : (q + 1) * (2 * p) ≡ 2 * (p * q) + 2 * p =
    mul_comm (q + 1) (2 * p) ∙ mul-add (2 * p) q 1 ∙ ap (λ (x : ℕ). x + 2 * p * 1) (mul_assoc 2 p q) ∙ ap (λ (x : ℕ). 2 * (p * q) + x) (mul-one (2 * p)) in
    let low : q * (2 * p) ≤ 2 * m + p = omega (arith, r.low) in
    let high : 2 * m + p < (q + 1) * (2 * p) = omega (arith, r.high) in
    div-eq_of_lt-le (2 * p) low high

-- the rounding is the nearest, halves away from zero, and no other number is
pub nearest_exactly : (m p q : ℕ) → 0 < p → (nearest midway m p ≡ q) ↔ Nearest m p q
nearest_exactly m p q some =
    (λ e. rw e at (nearest_is m p some), λ r. sym (nearest_once m p (nearest midway m p) some (nearest_is m p some)) ∙ nearest_once m p q some r)

-- divided by 1, a size stays
nearest_one : (rule : ℕ → ℕ) (m : ℕ) → nearest rule m 1 ≡ m
nearest_one rule m =
    let r : m % 1 ≡ 0 = omega arith in
    let q : m / 1 ≡ m = omega arith in
    by_rest (λ x. x ≡ m) rule m 1 (λ h. q) (λ h. absurd (omega arith)) (λ h. absurd (omega arith))

-- and so does a whole number
pub divided_one : (rule : ℕ → ℕ) (x : ℤ) → divided rule 1 x ≡ x
unfolding divided
divided_one rule (pos m) = ap pos (nearest_one rule m)
divided_one rule (negsuc m) = ap (λ (q : ℕ). neg_ℤ (pos q)) (nearest_one rule (suc m))

-- the test of two whole numbers is their equality
pub same_whole_lem : (x y : ℤ) → (same_whole x y ≡ true) ↔ (x ≡ y)
unfolding same_whole
same_whole_lem (pos m) (pos n) = (λ e. ap pos (eqb-true m n e), λ e. eq-eqb m n (cc))
same_whole_lem (pos m) (negsuc n) = (λ e. cc, λ e. cc)
same_whole_lem (negsuc m) (pos n) = (λ e. cc, λ e. cc)
same_whole_lem (negsuc m) (negsuc n) = (λ e. ap negsuc (eqb-true m n e), λ e. eq-eqb m n (cc))

-- Sizes and signs. A sign before a size; a size that is 0 has none.
abbrev signed : Bool → ℕ → ℤ
signed true m = neg_ℤ (pos m)
signed false m = pos m

-- 0 stays 0
nearest_zero : (rule : ℕ → ℕ) (p : ℕ) → 0 < p → nearest rule 0 p ≡ 0
nearest_zero rule p some =
    let r : 0 % p ≡ 0 = zero-mod p in
    by_rest (λ x. x ≡ 0) rule 0 p (λ h. zero-div p) (λ h. absurd (omega arith)) (λ h. absurd (omega arith))

-- the size is divided, and the sign stays
divided_signed : (rule : ℕ → ℕ) (p : ℕ) → 0 < p → (negative : Bool) (m : ℕ) → divided rule p (signed negative m) ≡ signed negative (nearest rule m p)
unfolding divided
divided_signed rule p some false m = refl
divided_signed rule p some true zero =
    let z : nearest rule 0 p ≡ 0 = nearest_zero rule p some in
    ap pos z ∙ ap (λ (q : ℕ). neg_ℤ (pos q)) (sym z)
divided_signed rule p some true (suc m) = refl

-- numbers are the same where sizes are, and signs too unless the size is 0
same_signed : (x y : Bool) (m n : ℕ) → same_whole (signed x m) (signed y n) ≡ eqb m n && (beq x y || eqb m 0)
unfolding same_whole
same_signed false false m n = sym (and-true (eqb m n))
same_signed true true zero zero = refl
same_signed true true zero (suc n) = rw (eqb-zero-suc n)
same_signed true true (suc m) zero = rw (eqb-suc-zero m)
same_signed true true (suc m) (suc n) = rw (eqb-suc-suc m n) (sym (and-true (eqb m n)))
same_signed false true zero zero = refl
same_signed false true (suc m) zero = rw (eqb-suc-zero m)
same_signed false true zero (suc n) = rw (eqb-zero-suc n)
same_signed false true (suc m) (suc n) = rw (eqb-suc-zero m) (sym (and-false (eqb (suc m) (suc n))))
same_signed true false zero zero = refl
same_signed true false zero (suc n) = rw (eqb-zero-suc n)
same_signed true false (suc m) zero = rw (eqb-suc-zero m)
same_signed true false (suc m) (suc n) = rw (eqb-suc-zero m) (sym (and-false (eqb (suc m) (suc n))))

-- the sign and the size of a number of w bytes that reads as x
abbrev pub negative : ℕ → ℕ → Bool
negative w x = not (ltb x (sign_bit w))

abbrev pub size_of : ℕ → ℕ → ℕ
size_of w x = cond (ltb x (sign_bit w)) x (2 ^ (8 * w) - x)

whole_signed : (w x : ℕ) → whole_number w x ≡ signed (negative w x) (size_of w x)
unfolding whole_number
whole_signed w x = cases (ltb x (sign_bit w))
  where
    cases : (t : Bool) → cond t (pos x) (neg_ℤ (pos (2 ^ (8 * w) - x))) ≡ signed (not t) (cond t x (2 ^ (8 * w) - x))
    cases true = refl
    cases false = refl

-- two stored numbers agree once divided: their divided sizes do, and their signs unless that size is 0
pub divided_same : (rule : ℕ → ℕ) (p w x y : ℕ) → 0 < p →
    same_whole (divided rule p (whole_number w x)) (divided rule p (whole_number w y))
    ≡ eqb (nearest rule (size_of w x) p) (nearest rule (size_of w y) p)
    && (beq (negative w x) (negative w y) || eqb (nearest rule (size_of w x) p) 0)
divided_same rule p w x y some =
    ap₂ same_whole (shown x) (shown y) ∙ same_signed (negative w x) (negative w y) (nearest rule (size_of w x) p) (nearest rule (size_of w y) p)
  where
    shown : (x : ℕ) → divided rule p (whole_number w x) ≡ signed (negative w x) (nearest rule (size_of w x) p)
    shown x = ap (divided rule p) (whole_signed w x) ∙ divided_signed rule p some (negative w x) (size_of w x)

-- numbers of w bytes that store the same whole number read as the same
pub whole_once : (w x y : ℕ) → x < 2 ^ (8 * w) → y < 2 ^ (8 * w) → whole_number w x ≡ whole_number w y → x ≡ y
whole_once w x y lx ly e =
    let same : same_whole (signed (negative w x) (size_of w x)) (signed (negative w y) (size_of w y)) ≡ true =
    (same_whole_lem _ _).1 (sym (whole_signed w x) ∙ e ∙ whole_signed w y) in
    cases (ltb x (sign_bit w)) (ltb y (sign_bit w)) (sym (same_signed (negative w x) (negative w y) (size_of w x) (size_of w y)) ∙ same)
  where
    cases : (a b : Bool)
        → eqb (cond a x (2 ^ (8 * w) - x)) (cond b y (2 ^ (8 * w) - y)) && (beq (not a) (not b) || eqb (cond a x (2 ^ (8 * w) - x)) 0) ≡ true → x ≡ y
    cases true true h = eqb-true x y (and_left _ _ h)
    cases false false h = omega (arith, eqb-true (2 ^ (8 * w) - x) (2 ^ (8 * w) - y) (and_left _ _ h))
    cases true false h =
        let z : x ≡ 0 = eqb-true x 0 (and_right (eqb x (2 ^ (8 * w) - y)) _ h) in
        omega (arith, eqb-true x (2 ^ (8 * w) - y) (and_left _ _ h))
    cases false true h =
        let z : 2 ^ (8 * w) - x ≡ 0 = eqb-true (2 ^ (8 * w) - x) 0 (and_right (eqb (2 ^ (8 * w) - x) y) _ h) in
        omega arith
