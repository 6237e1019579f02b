-- The front of a list, taken by its own length, and over what follows it.
-- By induction on the length that is taken.
use mathlib.Core.Path.{◌≡◌, refl, ap}
use mathlib.Core.List.{List, [], ◌∷◌, ◌++◌}
use Prim.Native.Nat.{ℕ, zero, suc, ◌-◌}
use native.Mathlib.Omega.{arith}
use lib.ListN.{length, take, drop, length-drop}
use lib.Seq.{take_all}

pub front : (n : ℕ) (xs : List ℕ) → take (length (take n xs)) xs ≡ take n xs
front zero xs = refl
front (suc n) [] = refl
front (suc n) (x ∷ xs) = ap (λ (r : List ℕ). x ∷ r) (front n xs)

-- a length that is a front's gives that front
module _ (n m : ℕ) (xs : List ℕ) (e : n ≡ length (take m xs)) where
  pub front_same : take n xs ≡ take m xs
  front_same = rw e (front m xs)

-- what stands past a front is not missed where more follows
pub front_over : (n : ℕ) (xs ys : List ℕ) → take n (take n xs ++ ys) ≡ take n (xs ++ ys)
front_over zero xs ys = refl
front_over (suc n) [] ys = refl
front_over (suc n) (x ∷ xs) ys = ap (λ (r : List ℕ). x ∷ r) (front_over n xs ys)

-- what is lent of a list after its first
pub after_first : (xs : List ℕ) → take (length xs - 1) (drop 1 xs) ≡ drop 1 xs
after_first xs = take_all (length xs - 1) (drop 1 xs) (simp length-drop (omega arith))
