-- What the tests, searches and sums over a range of numbers say of each number in it.
-- Each is by induction over the count: a number of the range is its first, or one of the rest.
use mathlib.Core.Path.{◌≡◌, refl, subst}
use mathlib.Core.Bool.{Bool, true, false, cond, ◌&&◌, ◌||◌}
use mathlib.Core.Logic.{◌⊎◌, inl, inr}
use Prim.Native.Nat.{ℕ, zero, suc, ◌+◌, ◌≤◌, ◌<◌}
use native.Mathlib.Nat.{eq-or-lt_of_le, le_of_suc-le-suc, lt_of_not-le, le_refl}
use native.Mathlib.Omega.{arith}
use lib.Dec.{leb}
use borrow.Author.Tests.{leb-true}
use Rattle.image.specs.Ranges.{any, every, first, sum_to, rises}
use Rattle.image.specs.Row.{Row, range}
use Rattle.image.proofs.Bools.{and_left, and_right, and_true, or_left, or_right, or_none}

-- what holds at i and at every k with suc i ≤ k holds at every k with i ≤ k
pub from_here : (P : ℕ → Type 0) (i : ℕ) → P i → (k : ℕ) → i ≤ k → (suc i ≤ k → P k) → P k
from_here P i here k le later = cases (eq-or-lt_of_le le)
  where
    cases : (i ≡ k) ⊎ (i < k) → P k
    cases (inl e) = subst P e here
    cases (inr lt) = later lt

-- none passes: each fails
pub any_false : (p : ℕ → Bool) (i n : ℕ) → any p i n ≡ false → (k : ℕ) → i ≤ k → k < i + n → p k ≡ false
unfolding any
any_false p i zero e k le lt = absurd (omega arith)
any_false p i (suc n) e k le lt =
    from_here (λ k. p k ≡ false) i (or_left _ _ e) k le (λ later. any_false p (suc i) n (or_right (p i) _ e) k later (omega arith))

-- each fails: none passes
pub any_none : (p : ℕ → Bool) (i n : ℕ) → ((k : ℕ) → i ≤ k → k < i + n → p k ≡ false) → any p i n ≡ false
unfolding any
any_none p i zero h = refl
any_none p i (suc n) h = rw (h i (omega arith) (omega arith), any_none p (suc i) n (λ k le lt. h k (omega arith) (omega arith)))

-- each but one fails: that one says whether any passes
pub any_only : (p : ℕ → Bool) (i n j : ℕ) → i ≤ j → j < i + n → ((k : ℕ) → i ≤ k → k < i + n → (k ≡ j → ⊥) → p k ≡ false) → any p i n ≡ p j
unfolding any
any_only p i zero j le lt h = absurd (omega arith)
any_only p i (suc n) j le lt h =
    cases (eq-or-lt_of_le le) (λ past. any_only p (suc i) n j past (omega arith) (λ k later end ne. h k (omega arith) (omega arith) ne))
  where
    cases : (i ≡ j) ⊎ (i < j) → (i < j → any p (suc i) n ≡ p j) → p i || any p (suc i) n ≡ p j
    cases (inl e) f =
        rw (any_none p (suc i) n (λ k later end. h k (omega arith) (omega arith) (λ q. omega arith)), ← e) (or_none (p i))
    cases (inr past) f = rw (h i (omega arith) (omega arith) (λ q. omega arith)) (f past)

-- all pass: each passes
pub every_at : (p : ℕ → Bool) (i n : ℕ) → every p i n ≡ true → (k : ℕ) → i ≤ k → k < i + n → p k ≡ true
unfolding every
every_at p i zero e k le lt = absurd (omega arith)
every_at p i (suc n) e k le lt =
    from_here (λ k. p k ≡ true) i (and_left _ _ e) k le (λ later. every_at p (suc i) n (and_right (p i) _ e) k later (omega arith))

-- each passes: all pass
pub every_by : (p : ℕ → Bool) (i n : ℕ) → ((k : ℕ) → i ≤ k → k < i + n → p k ≡ true) → every p i n ≡ true
unfolding every
every_by p i zero h = refl
every_by p i (suc n) h = and_true (p i) _ (h i (omega arith) (omega arith)) (every_by p (suc i) n (λ k le lt. h k (omega arith) (omega arith)))

-- over the numbers below n
pub every_below : (p : ℕ → Bool) (n : ℕ) → every p 0 n ≡ true → (k : ℕ) → k < n → p k ≡ true
every_below p n e k lt = every_at p 0 n e k (omega arith) (omega arith)

pub every_of_below : (p : ℕ → Bool) (n : ℕ) → ((k : ℕ) → k < n → p k ≡ true) → every p 0 n ≡ true
every_of_below p n h = every_by p 0 n (λ k le lt. h k (omega arith))

pub any_below : (p : ℕ → Bool) (n : ℕ) → any p 0 n ≡ false → (k : ℕ) → k < n → p k ≡ false
any_below p n e k lt = any_false p 0 n e k (omega arith) (omega arith)

-- the first that passes lies in the range or at its end, passes if it is below the end, and all before it fail
module _ (p : ℕ → Bool) where
  first_cases : (i n : ℕ) (b : Bool) → p i ≡ b → (P : ℕ → Type 0) → (p i ≡ true → P i) → (p i ≡ false → P (first p (suc i) n)) → P (cond b i (first p (suc i) n))
  first_cases i n true e P here later = here e
  first_cases i n false e P here later = later e

  pub first_from : (i n : ℕ) → i ≤ first p i n
  unfolding first
  first_from i zero = le_refl i
  first_from i (suc n) =
      let h : suc i ≤ first p (suc i) n = first_from (suc i) n in
      first_cases i n (p i) refl (λ x. i ≤ x) (λ e. le_refl i) (λ e. omega arith)

  pub first_within : (i n : ℕ) → first p i n ≤ i + n
  unfolding first
  first_within i zero = omega arith
  first_within i (suc n) =
      let h : first p (suc i) n ≤ suc i + n = first_within (suc i) n in
      first_cases i n (p i) refl (λ x. x ≤ i + suc n) (λ e. omega arith) (λ e. omega arith)

  pub first_passes : (i n : ℕ) → first p i n < i + n → p (first p i n) ≡ true
  unfolding first
  first_passes i zero lt = absurd (omega arith)
  first_passes i (suc n) lt =
      first_cases i n (p i) refl (λ x. x < i + suc n → p x ≡ true) (λ e l. e) (λ e l. first_passes (suc i) n (omega arith)) lt

  pub first_before : (i n k : ℕ) → i ≤ k → k < first p i n → p k ≡ false
  unfolding first
  first_before i zero k le lt = absurd (omega arith)
  first_before i (suc n) k le lt =
      first_cases i n (p i) refl (λ x. k < x → p k ≡ false) (λ e l. absurd (omega arith))
      (λ e l. from_here (λ k. p k ≡ false) i e k le (λ later. first_before (suc i) n k later l)) lt

  pub first_at_most : (i n k : ℕ) → i ≤ k → p k ≡ true → first p i n ≤ k
  first_at_most i n k le passes = le_of_suc-le-suc (lt_of_not-le (λ past. differ (first_before i n k le past)))
    where
      differ : p k ≡ false → ⊥
      differ fails =
          let z : ◌≡◌ {A = ℕ} 0 1 = cc in
          omega arith

-- sums grow
pub sum_grows : (f : ℕ → ℕ) (a b : ℕ) → a ≤ b → sum_to f a ≤ sum_to f b
unfolding sum_to
sum_grows f a zero le =
    let e : a ≡ 0 = omega arith in
    rw e (le_refl 0)
sum_grows f a (suc b) le = cases (eq-or-lt_of_le le) (λ lt. sum_grows f a b (omega arith))
  where
    cases : (a ≡ suc b) ⊎ (a < suc b) → (a < suc b → sum_to f a ≤ sum_to f b) → sum_to f a ≤ sum_to f (suc b)
    cases (inl e) h = rw e (le_refl (sum_to f (suc b)))
    cases (inr lt) h =
        let g : sum_to f a ≤ sum_to f b = h lt in
        omega arith

-- a sum of more numbers holds the next one
pub sum_next : (f : ℕ → ℕ) (k n : ℕ) → k < n → sum_to f k + f k ≤ sum_to f n
unfolding sum_to
sum_next f k n lt = sum_grows f (suc k) n lt

-- Numbers that rise by a step within bounds.
module _ (step : ℕ) (f : ℕ → ℕ) (top : ℕ) where
  -- each is at least the least
  pub rises_least : (least i n : ℕ) → rises step f top least i n ≡ true → (k : ℕ) → i ≤ k → k < i + n → least ≤ f k
  unfolding rises
  rises_least least i zero e k le lt = absurd (omega arith)
  rises_least least i (suc n) e k le lt =
      let here : least ≤ f i = leb-true _ _ (and_left _ _ (and_left _ _ e)) in
      let rest : rises step f top (f i + step) (suc i) n ≡ true = and_right (leb least (f i) && leb (f i) top) _ e in
      from_here (λ k. least ≤ f k) i here k le (λ later.
      let h : f i + step ≤ f k = rises_least (f i + step) (suc i) n rest k later (omega arith) in
      omega arith)

  -- each is at most the top
  pub rises_top : (least i n : ℕ) → rises step f top least i n ≡ true → (k : ℕ) → i ≤ k → k < i + n → f k ≤ top
  unfolding rises
  rises_top least i zero e k le lt = absurd (omega arith)
  rises_top least i (suc n) e k le lt =
      let here : f i ≤ top = leb-true _ _ (and_right (leb least (f i)) _ (and_left _ _ e)) in
      let rest : rises step f top (f i + step) (suc i) n ≡ true = and_right (leb least (f i) && leb (f i) top) _ e in
      from_here (λ k. f k ≤ top) i here k le (λ later. rises_top (f i + step) (suc i) n rest k later (omega arith))

  -- each is at least a step above any before it
  pub rises_apart : (least i n : ℕ) → rises step f top least i n ≡ true → (j k : ℕ) → i ≤ j → j < k → k < i + n → f j + step ≤ f k
  unfolding rises
  rises_apart least i zero e j k le lt end = absurd (omega arith)
  rises_apart least i (suc n) e j k le lt end =
      let rest : rises step f top (f i + step) (suc i) n ≡ true = and_right (leb least (f i) && leb (f i) top) _ e in
      from_here (λ j. j < k → f j + step ≤ f k) i (λ l. rises_least (f i + step) (suc i) n rest k l (omega arith)) j le
      (λ later l. rises_apart (f i + step) (suc i) n rest j k later l (omega arith)) lt

-- two functions that agree on a range of numbers give the same rows
pub range_same : (g h : ℕ → Row) (i n : ℕ) → ((k : ℕ) → i ≤ k → k < i + n → g k ≡ h k) → range g i n ≡ range h i n
unfolding range
range_same g h i zero e = refl
range_same g h i (suc n) e = rw (e i (omega arith) (omega arith), range_same g h (suc i) n (λ k le lt. e k (omega arith) (omega arith)))
