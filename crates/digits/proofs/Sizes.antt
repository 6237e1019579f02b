-- Numbers of w bytes that agree once they are divided: what the code tests of their sizes and signs.
-- By the law of sizes and signs, for every width at once; the sign bit's double is the number past all of the width.
use mathlib.Core.Path.{◌≡◌, refl, sym, ◌∙◌}
use mathlib.Core.Bool.{Bool, true, false, cond, not, beq, ◌&&◌, ◌||◌}
use mathlib.Core.List.{[], ◌∷◌}
use Prim.Native.Nat.{ℕ, ◌*◌, ◌-◌, ◌^◌, ◌≤◌, ◌<◌}
use native.Mathlib.Omega.{arith}
use lib.ListN.{get_or}
use lib.Dec.{eqb, ltb, leb}
use borrow.Author.Tests.{leb-true}
use Rattle.image.specs.TypeCode.{sign_bit}
use Rattle.image.specs.Digits.{midway, nearest, divided, whole_number, same_whole}
use Rattle.image.proofs.CodeTable.{agree}
use Rattle.laws.proofs.Rounding.{divided_same}
use Rattle.digits.specs.Parts.{Divisor, TwoNumbers}

-- the ten powers
abbrev power_at : ℕ → ℕ
power_at d = get_or (1 ∷ 10 ∷ 100 ∷ 1000 ∷ 10000 ∷ 100000 ∷ 1000000 ∷ 10000000 ∷ 100000000 ∷ 1000000000 ∷ []) d 0

pub power_is : (d : ℕ) → d ≤ 9 → (power_at d ≡ 10 ^ d) × Divisor (power_at d)
power_is d few = (
  agree power_at (λ (d : ℕ). 10 ^ d) 0 10 refl d (omega arith) (omega arith),
  record {
    some = leb-true 1 _ (agree (λ (d : ℕ). leb 1 (power_at d)) (λ (d : ℕ). true) 0 10 refl d (omega arith) (omega arith));
    small = leb-true _ 1000000000 (agree (λ (d : ℕ). leb (power_at d) 1000000000) (λ (d : ℕ). true) 0 10 refl d (omega arith) (omega arith));
  },
)

sign_twice : (w : ℕ) → 1 ≤ w → w ≤ 8 → 2 * sign_bit w ≡ 2 ^ (8 * w)
unfolding sign_bit
sign_twice w low high = agree (λ (w : ℕ). 2 * sign_bit w) (λ (w : ℕ). 2 ^ (8 * w)) 1 8 refl w low (omega arith)

sign_top : (w : ℕ) → 1 ≤ w → w ≤ 8 → sign_bit w ≤ 2 ^ 63
unfolding sign_bit
sign_top w low high = leb-true _ _ (agree (λ (w : ℕ). leb (sign_bit w) (2 ^ 63)) (λ (w : ℕ). true) 1 8 refl w low (omega arith))

nots_same : (x y : Bool) → beq (not x) (not y) ≡ beq x y
nots_same true true = refl
nots_same true false = refl
nots_same false true = refl
nots_same false false = refl

-- the size of a number that reads as x
abbrev pub size : ℕ → ℕ → ℕ
size sign x = cond (ltb x sign) x (2 * sign - x)

-- two numbers of w bytes that read as x and y agree once they are divided by p
abbrev pub agreed_at : ℕ → ℕ → ℕ → ℕ → Bool
agreed_at p w x y = same_whole (divided midway p (whole_number w x)) (divided midway p (whole_number w y))

module _ {w x y sign : ℕ} (n : TwoNumbers w x y) (is : sign ≡ sign_bit w) where
  twice : 2 * sign ≡ 2 ^ (8 * w)
  twice = rw is (sign_twice w n.some n.narrow)

  -- both are below the double of the sign bit
  pub left_fits : (x < 2 * sign) × (sign ≤ 2 ^ 63)
  left_fits = (rw twice n.left, rw is (sign_top w n.some n.narrow))

  pub right_fits : (y < 2 * sign) × (sign ≤ 2 ^ 63)
  right_fits = (rw twice n.right, rw is (sign_top w n.some n.narrow))

  -- u and v are their sizes, divided
  module _ {p i j u v : ℕ} (some : 0 < p) (ei : i ≡ size sign x) (eu : u ≡ nearest midway i p) (ej : j ≡ size sign y) (ev : v ≡ nearest midway j p) where
    pub sizes_decide : eqb u v && (beq (ltb x sign) (ltb y sign) || eqb u 0) ≡ agreed_at p w x y
    sizes_decide = sym (divided_same midway p w x y some ∙ rw (← is, ← twice, ← ei, ← ej, ← eu, ← ev, nots_same (ltb x sign) (ltb y sign)))
