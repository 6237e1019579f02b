-- How many tests of a range hold up to the first that fails.
-- A test of a range is that of its parts, and the laws of each number of a range are those of Ranges.
use mathlib.Core.Path.{◌≡◌, refl, sym, ◌∙◌}
use mathlib.Core.Bool.{Bool, true, false}
use mathlib.Core.Logic.{⊎_elim}
use Prim.Native.Nat.{ℕ, zero, suc, ◌+◌, ◌-◌, ◌<◌, ◌≤◌}
use native.Mathlib.Nat.{eq-or-lt_of_le}
use native.Mathlib.Omega.{arith}
use lib.Dec.{eqb}
use borrow.Author.Tests.{eq-eqb, ne_eqb}
use Rattle.image.specs.Ranges.{every}
use Rattle.image.proofs.Bools.{and_left, and_right, and_true}
use Rattle.image.proofs.Ranges.{every_at, every_by}
use Rattle.values.specs.Bits.{Leading}

pub every_none : (p : ℕ → Bool) (i : ℕ) → every p i 0 ≡ true
unfolding every
every_none p i = refl

-- m more numbers
pub every_jump : (p : ℕ → Bool) (i k m : ℕ) → every p i k ≡ true → every p (i + k) m ≡ true → every p i (k + m) ≡ true
unfolding every
every_jump p i zero m e f =
    let x : 0 + m ≡ m = omega arith in
    let y : i + 0 ≡ i = omega arith in
    rw x (rw y at f)
every_jump p i (suc k) m e f =
    let x : suc k + m ≡ suc (k + m) = omega arith in
    let y : i + suc k ≡ suc i + k = omega arith in
    rw x (and_true (p i) _ (and_left (p i) _ e) (every_jump p (suc i) k m (and_right (p i) _ e) (rw y at f)))

every_fails : (p : ℕ → Bool) (i n k : ℕ) → i ≤ k → k < i + n → p k ≡ false → every p i n ≡ false
every_fails p i n k le lt f = cases (every p i n) refl
  where
    cases : (t : Bool) → every p i n ≡ t → t ≡ false
    cases true e = sym (every_at p i n e k le lt) ∙ f
    cases false e = refl

module _ (p : ℕ → Bool) (i : ℕ) where
  pub every_more : (k : ℕ) → every p i k ≡ true → p (i + k) ≡ true → every p i (k + 1) ≡ true
  unfolding every
  every_more k e f = every_jump p i k 1 e (rw f)

  module _ (n r : ℕ) where
    pub leading_stops : r < n → every p i r ≡ true → p (i + r) ≡ false → Leading p i n r
    leading_stops lt e f = record { within = omega arith; holds = λ k l. every_at p i r e (i + k) (omega arith) (omega arith); stops = λ l. f }

    pub leading_all : n ≤ r → r ≤ n → every p i r ≡ true → Leading p i n r
    leading_all ge le e = record { within = le; holds = λ k l. every_at p i r e (i + k) (omega arith) (omega arith); stops = λ l. absurd (omega arith) }

    -- all hold exactly where none stops
    pub leading_whole : Leading p i n r → eqb r n ≡ every p i n
    leading_whole l = ⊎_elim whole stopped (eq-or-lt_of_le l.within)
      where
        whole : r ≡ n → eqb r n ≡ every p i n
        whole e =
            eq-eqb r n e
            ∙ sym (every_by p i n (λ k le lt.
            let h : i + (k - i) ≡ k = omega arith in
            rw h at (l.holds (k - i) (omega arith))))

        stopped : r < n → eqb r n ≡ every p i n
        stopped lt = ne_eqb r n (λ e. omega arith) ∙ sym (every_fails p i n (i + r) (omega arith) (omega arith) (l.stops lt))

    pub leading_moved : (q : ℕ → Bool) (j : ℕ) → ((k : ℕ) → p (i + k) ≡ q (j + k)) → Leading p i n r → Leading q j n r
    leading_moved q j e l =
        record { within = l.within; holds = λ k lt. sym (e k) ∙ l.holds k lt; stops = λ lt. sym (e r) ∙ l.stops lt }

  pub leading_every : (n : ℕ) → ((k : ℕ) → p k ≡ true) → Leading p i n n
  leading_every n e = record { within = omega arith; holds = λ k lt. e (i + k); stops = λ lt. absurd (omega arith) }
