-- Bytes that are read many at a time: a number is 0 where each of its bytes is.
-- By induction over the width; two readings that overlap cover all bytes between their ends.
use mathlib.Core.Path.{◌≡◌, refl, sym, ◌∙◌}
use mathlib.Core.Bool.{Bool, true, false, not, ◌||◌}
use mathlib.Core.List.{List, [], ◌∷◌}
use Prim.Native.Nat.{ℕ, zero, suc, ◌+◌, ◌*◌, ◌-◌, ◌≤◌, ◌<◌}
use native.Mathlib.Omega.{arith}
use native.Mathlib.Nat.{add-zero, zero-add}
use lib.Dec.{eqb}
use lib.ListN.{length, take, drop, get_or}
use Rattle.std.specs.List.{list_any}
use borrow.Author.Tests.{ne_eqb}
use Rattle.std.proofs.lemmas.List.{length-drop, length-take-le, get_or-take, get_or-drop}
use Rattle.image.specs.Ranges.{any}
use Rattle.image.specs.Bytes.{byte_at, number_at}
use Rattle.image.specs.Element.{view_length}
use Rattle.image.specs.Faults.{nonzero, padding_nonzero}
use Rattle.validate.specs.Views.{is_nonzero}
use Rattle.image.proofs.Loops.{rest_none, any_jump, jump_found}
use Rattle.image.proofs.Ranges.{any_false, any_none}

sum_zero : (b m : ℕ) → not (eqb (b + 256 * m) 0) ≡ not (eqb b 0) || not (eqb m 0)
sum_zero zero zero = refl
sum_zero zero (suc m) = rw (ne_eqb (0 + 256 * suc m) 0 (λ e. omega arith), ne_eqb (suc m) 0 (λ e. omega arith))
sum_zero (suc b) m = rw (ne_eqb (suc b + 256 * m) 0 (λ e. omega arith), ne_eqb (suc b) 0 (λ e. omega arith))

-- a number is not 0 where one of its bytes is not
number_nonzero : (w : ℕ) (s : List ℕ) (p : ℕ) → not (eqb (number_at w s p) 0) ≡ any (nonzero s) p w
unfolding number_at any nonzero
number_nonzero zero s p = refl
number_nonzero (suc w) s p = rw (← number_nonzero w s (suc p)) (sum_zero (byte_at s p) (number_at w s (suc p)))

-- a test of n numbers, of which the first w are tested first and then the last w
module _ (p : ℕ → Bool) (i n w : ℕ) (le : w ≤ n) where
  front_found : any p i w ≡ true → true ≡ any p i n
  front_found e = jump_found p i n 0 w (omega arith) (rest_none _ _ _) (rw add-zero e)

  back_left : n ≤ w + w → any p i w ≡ false → any p i n ≡ any p (i + (n - w)) w
  back_left most e =
      let m : n - (0 + (n - w)) ≡ w = omega arith in
      let z : i + (0 + (n - w)) ≡ i + (n - w) = omega arith in
      let none : any p (i + 0) (n - w) ≡ false = rw add-zero (any_none p i (n - w) (λ k from end. any_false p i w e k from (omega arith))) in
      (any_jump p i n 0 (n - w) (omega arith) (rest_none _ _ _) none).same ∙ rw (m, z)

-- n bytes, of which the first w are read as one number and then the last w
module _ (s : List ℕ) (w : ℕ) (le : w ≤ length s) {x : ℕ} (p : x ≡ number_at w s 0) where
  pub front_nonzero : (x ≡ 0 → ⊥) → true ≡ any (nonzero s) 0 (length s)
  front_nonzero ne = front_found (nonzero s) 0 (length s) w le (sym (number_nonzero w s _) ∙ rw (← p, ne_eqb x 0 ne))

  pub back_nonzero : {y : ℕ} → length s ≤ w + w → x ≡ 0 → y ≡ number_at w s (length s - w) → not (eqb y 0) ≡ any (nonzero s) 0 (length s)
  back_nonzero most ends q =
      rw (back_left (nonzero s) 0 (length s) w le most (sym (number_nonzero w s _) ∙ rw (← p, ends)), zero-add, q) (number_nonzero w s (length s - w))

-- a test of n numbers from one on is that of n others that it tells alike
any_alike : (p q : ℕ → Bool) (i j n : ℕ) → ((k : ℕ) → k < n → p (i + k) ≡ q (j + k)) → any p i n ≡ any q j n
unfolding any
any_alike p q i j zero f = refl
any_alike p q i j (suc n) f =
    let here : p i ≡ q j = rw (add-zero, add-zero) at (f 0 (omega arith)) in
    rw (here, any_alike p q (suc i) (suc j) n (λ k lt. let a : suc i + k ≡ i + suc k = omega arith in let b : suc j + k ≡ j + suc k = omega arith in rw (a, b) (f (suc k) (omega arith))))

-- a test of each byte of a list is one of the numbers of their places
any_list : (f : ℕ → Bool) (p : ℕ → Bool) (i : ℕ) (xs : List ℕ) → ((k : ℕ) → k < length xs → f (get_or xs k 0) ≡ p (i + k)) → list_any f xs ≡ any p i (length xs)
unfolding any
any_list f p i [] h = refl
any_list f p i (x ∷ xs) h =
    let here : f x ≡ p i = rw add-zero at (h 0 (omega arith)) in
    rw (here, any_list f p (suc i) xs (λ k lt. let a : suc i + k ≡ i + suc k = omega arith in rw a (h (suc k) (omega arith)))) refl

pub bytes_nonzero : (s : List ℕ) → list_any is_nonzero s ≡ any (nonzero s) 0 (length s)
unfolding nonzero
bytes_nonzero s = any_list _ _ 0 s (λ k lt. rw zero-add refl)

-- the padding of an inline view, as a slice lends it
pub padded : (s : List ℕ) (view len : ℕ) → len ≡ view_length s view → len ≤ 12 → view + 16 ≤ length s
    → any (nonzero (take (view + 16 - (view + 4 + len)) (drop (view + 4 + len) s))) 0 (length (take (view + 16 - (view + 4 + len)) (drop (view + 4 + len) s))) ≡ padding_nonzero s view
unfolding padding_nonzero nonzero
padded s view len e short fits =
    let count : view + 16 - (view + 4 + len) ≡ 12 - len = omega arith in
    let size : length (take (12 - len) (drop (view + 4 + len) s)) ≡ 12 - len = length-take-le (12 - len) (drop (view + 4 + len) s) (omega (arith, length-drop (view + 4 + len) s)) in
    rw (count, size, ← e) (any_alike _ _ 0 (view + 4 + len) (12 - len) (λ k lt. part k lt))
  where
    part : (k : ℕ) → k < 12 - len → nonzero (take (12 - len) (drop (view + 4 + len) s)) (0 + k) ≡ nonzero s (view + 4 + len + k)
    part k lt = rw (zero-add k, get_or-take (12 - len) (drop (view + 4 + len) s) k 0 lt, get_or-drop (view + 4 + len) s k 0) refl
