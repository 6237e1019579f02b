-- Bytes as a number: two numbers of w bytes are equal where all pairs of bytes are, and such a number fits 8 bits a byte.
-- By induction over w: the lowest bytes are below 256, so that they and the others decide apart.
use mathlib.Core.Path.{◌≡◌, refl, ap₂, ◌∙◌}
use mathlib.Core.Bool.{Bool, true, false, ◌&&◌}
use mathlib.Core.List.{List}
use Prim.Native.Nat.{ℕ, zero, suc, ◌+◌, ◌*◌, ◌<◌, ◌^◌}
use native.Mathlib.Omega.{arith}
use lib.Pow.{pow-add}
use lib.Dec.{eqb, lit<}
use borrow.Author.Tests.{eqb-true, eqb-false, ne_eqb}
use Rattle.image.specs.Bytes.{byte_at, AllBytes, number_at}
use Rattle.image.specs.Reads.{Read}
use Rattle.values.specs.Pairs.{all, same_byte}
use Rattle.values.proofs.Words.{same_test}

first_bytes : (x y m n : ℕ) → x < 256 → y < 256 → eqb (x + 256 * m) (y + 256 * n) ≡ eqb x y && eqb m n
first_bytes x y m n lx ly = cases (eqb x y) refl
  where
    cases : (t : Bool) → eqb x y ≡ t → eqb (x + 256 * m) (y + 256 * n) ≡ t && eqb m n
    cases true e =
        let h : x ≡ y = eqb-true x y e in
        same_test (x + 256 * m) (y + 256 * n) m n (λ e. omega arith) (λ e. omega arith)
    cases false e = ne_eqb (x + 256 * m) (y + 256 * n) (λ h. eqb-false x y e (omega arith))

pub number_small : (s : List ℕ) → AllBytes s → (w i : ℕ) → number_at w s i < 2 ^ (8 * w)
unfolding number_at
number_small s small zero i = lit< tt
number_small s small (suc w) i =
    let e : 8 * suc w ≡ 8 + 8 * w = omega arith in
    rw (e, pow-add 2 8 (8 * w)) (omega (arith, small i, number_small s small w (suc i)))

module _ (a b : List ℕ) (left : AllBytes a) (right : AllBytes b) where
  pub same_numbers : (w i j : ℕ) → eqb (number_at w a i) (number_at w b j) ≡ all (same_byte a b) i j w
  unfolding number_at all same_byte
  same_numbers zero i j = refl
  same_numbers (suc w) i j =
      first_bytes (byte_at a i) (byte_at b j) (number_at w a (suc i)) (number_at w b (suc j)) (left i) (right j)
      ∙ rw (same_numbers w (suc i) (suc j))

  -- as they are read
  pub numbers_same : (w i j : ℕ) {x y bits : ℕ} → Read (number_at w a i) bits x → Read (number_at w b j) bits y → eqb x y ≡ all (same_byte a b) i j w
  numbers_same w i j ex ey = ap₂ eqb ex.value ey.value ∙ same_numbers w i j
