-- A slice is the bytes from its start on, as many as it has.
-- By induction over the bytes.
use mathlib.Core.Path.{◌≡◌, refl, ap, ◌∙◌}
use mathlib.Core.List.{List, [], ◌∷◌}
use Prim.Native.Nat.{ℕ, zero, suc}
use lib.ListN.{length}
use Rattle.image.specs.Bytes.{bytes_at}

behind : (x : ℕ) (xs : List ℕ) (i n : ℕ) → bytes_at (x ∷ xs) (suc i) n ≡ bytes_at xs i n
unfolding bytes_at
behind x xs i zero = refl
behind x xs i (suc n) = rw (behind x xs (suc i) n)

pub whole : (s : List ℕ) → bytes_at s 0 (length s) ≡ s
unfolding bytes_at
whole [] = refl
whole (x ∷ xs) = ap (λ (ys : List ℕ). x ∷ ys) (behind x xs 0 (length xs) ∙ whole xs)
