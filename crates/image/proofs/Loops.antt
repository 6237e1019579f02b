-- What a loop over a range keeps: a test, a search or a rise over all numbers is that over those from number k on.
-- One record for tests and searches, one for rises, whose least allowed number changes; a turn takes one number off.
use mathlib.Core.Path.{◌≡◌, refl, sym, ap, ◌∙◌}
use mathlib.Core.Bool.{Bool, true, false, ◌&&◌, ◌||◌}
use Prim.Native.Nat.{ℕ, zero, suc, ◌+◌, ◌-◌, ◌<◌, ◌≤◌}
use native.Mathlib.Omega.{arith}
use native.Mathlib.Nat.{add-zero, zero-add, sub-zero}
use native.Mathlib.Numerals.{add-one}
use lib.Dec.{leb}
use borrow.Author.Tests.{le-leb, lt-leb}
use Rattle.image.specs.Ranges.{any, every, first, sum_to, rises}
use Rattle.image.proofs.Bools.{or_none}

-- F over n numbers from i on is F over those from i + k on
pub record Rest {A : Type 0} (F : ℕ → ℕ → A) (i n k : ℕ) : Type 0 where
  pub within : k ≤ n
  pub same : F i n ≡ F (i + k) (n - k)

module _ {A : Type 0} (F : ℕ → ℕ → A) (i n : ℕ) where
  pub rest_none : Rest F i n 0
  rest_none = record { within = omega arith; same = simp (add-zero, sub-zero) }

  ahead : (k : ℕ) → k < n → Rest F i n k → F i n ≡ F (i + k) (suc (n - (k + 1)))
  ahead k lt r =
      let e : n - k ≡ suc (n - (k + 1)) = omega arith in
      r.same ∙ ap (F (i + k)) e

  over : (k : ℕ) → n ≤ k → Rest F i n k → F i n ≡ F (i + k) 0
  over k le r =
      let e : n - k ≡ 0 = omega arith in
      r.same ∙ ap (F (i + k)) e

  more : (k : ℕ) → k < n → Rest F i n k → F (i + k) (suc (n - (k + 1))) ≡ F (suc (i + k)) (n - (k + 1)) → Rest F i n (k + 1)
  more k lt r e =
      let x : i + (k + 1) ≡ suc (i + k) = omega arith in
      record { within = omega arith; same = ahead k lt r ∙ e ∙ ap (λ (m : ℕ). F m (n - (k + 1))) (sym x) }

or_assoc : (x y z : Bool) → x || (y || z) ≡ x || y || z
or_assoc true y z = refl
or_assoc false y z = refl

any_split : (p : ℕ → Bool) (i m n : ℕ) → any p i (m + n) ≡ any p i m || any p (i + m) n
unfolding any
any_split p i zero n = rw (zero-add n, add-zero i)
any_split p i (suc m) n =
    let e : suc m + n ≡ suc (m + n) = omega arith in
    let x : i + suc m ≡ suc i + m = omega arith in
    rw (e, x, any_split p (suc i) m n) (or_assoc (p i) _ _)

-- a test of one number more at the end
pub any_snoc : (p : ℕ → Bool) (i k : ℕ) → any p i (k + 1) ≡ any p i k || p (i + k)
unfolding any
any_snoc p i k = any_split p i k 1 ∙ ap (λ (x : Bool). any p i k || x) (or_none (p (i + k)))

pub any_empty : (p : ℕ → Bool) (i : ℕ) → false ≡ any p i 0
unfolding any
any_empty p i = refl

module _ (p : ℕ → Bool) (i n : ℕ) where
  pub any_more : (k : ℕ) → k < n → Rest (any p) i n k → p (i + k) ≡ false → Rest (any p) i n (k + 1)
  unfolding any
  any_more k lt r e = more (any p) i n k lt r (rw e)

  pub any_found : (k : ℕ) → k < n → Rest (any p) i n k → p (i + k) ≡ true → true ≡ any p i n
  unfolding any
  any_found k lt r e = sym (ahead (any p) i n k lt r ∙ rw e)

  pub any_done : (k : ℕ) → n ≤ k → Rest (any p) i n k → false ≡ any p i n
  unfolding any
  any_done k le r = sym (over (any p) i n k le r)

  -- m numbers at once
  jump : (k m : ℕ) → m ≤ n - k → any p (i + k) (n - k) ≡ any p (i + k) m || any p (i + (k + m)) (n - (k + m))
  jump k m le =
      let e : n - k ≡ m + (n - (k + m)) = omega arith in
      let x : i + (k + m) ≡ i + k + m = omega arith in
      rw (e, x) (any_split p (i + k) m (n - (k + m)))

  pub any_jump : (k m : ℕ) → m ≤ n - k → Rest (any p) i n k → any p (i + k) m ≡ false → Rest (any p) i n (k + m)
  any_jump k m le r e = record { within = omega (arith, r.within); same = r.same ∙ jump k m le ∙ rw e }

  pub jump_found : (k m : ℕ) → m ≤ n - k → Rest (any p) i n k → any p (i + k) m ≡ true → true ≡ any p i n
  jump_found k m le r e = sym (r.same ∙ jump k m le ∙ rw e)

  pub every_more : (k : ℕ) → k < n → Rest (every p) i n k → p (i + k) ≡ true → Rest (every p) i n (k + 1)
  unfolding every
  every_more k lt r e = more (every p) i n k lt r (rw e)

  pub every_fails : (k : ℕ) → k < n → Rest (every p) i n k → p (i + k) ≡ false → false ≡ every p i n
  unfolding every
  every_fails k lt r e = sym (ahead (every p) i n k lt r ∙ rw e)

  pub every_done : (k : ℕ) → n ≤ k → Rest (every p) i n k → true ≡ every p i n
  unfolding every
  every_done k le r = sym (over (every p) i n k le r)

  pub first_more : (k : ℕ) → k < n → Rest (first p) i n k → p (i + k) ≡ false → Rest (first p) i n (k + 1)
  unfolding first
  first_more k lt r e = more (first p) i n k lt r (rw e)

  pub first_found : (k : ℕ) → k < n → Rest (first p) i n k → p (i + k) ≡ true → i + k ≡ first p i n
  unfolding first
  first_found k lt r e = sym (ahead (first p) i n k lt r ∙ rw e)

  pub first_done : (k : ℕ) → n ≤ k → Rest (first p) i n k → i + n ≡ first p i n
  unfolding first
  first_done k le r =
      let e : n ≡ k = omega (arith, r.within) in
      sym (over (first p) i n k le r ∙ ap (λ (m : ℕ). i + m) (sym e))

-- a rise over n numbers from i on, none below least, is that over those from i + k on, none below now
pub record Rising (step : ℕ) (f : ℕ → ℕ) (top least i n k now : ℕ) : Type 0 where
  pub within : k ≤ n
  pub same : rises step f top least i n ≡ rises step f top now (i + k) (n - k)

module _ (step : ℕ) (f : ℕ → ℕ) (top least i n : ℕ) where
  pub rising_none : Rising step f top least i n 0 least
  rising_none = record { within = omega arith; same = simp (add-zero, sub-zero) }

  turn : (k now : ℕ) → k < n → Rising step f top least i n k now
      → rises step f top least i n ≡ leb now (f (i + k)) && leb (f (i + k)) top && rises step f top (f (i + k) + step) (i + (k + 1)) (n - (k + 1))
  unfolding rises
  turn k now lt r =
      let e : n - k ≡ suc (n - (k + 1)) = omega arith in
      let x : i + (k + 1) ≡ suc (i + k) = omega arith in
      r.same ∙ rw (e, x)

  pub rising_more : (k now x : ℕ) → k < n → Rising step f top least i n k now → x ≡ f (i + k) → now ≤ x → x ≤ top → Rising step f top least i n (k + 1) (x + step)
  rising_more k now x lt r e lo hi =
      record {
        within = omega arith;
        same =
            turn k now lt r
            ∙ rw (← e, le-leb now x lo, le-leb x top hi);
      }

  pub rising_below : (k now x : ℕ) → k < n → Rising step f top least i n k now → x ≡ f (i + k) → x < now → false ≡ rises step f top least i n
  rising_below k now x lt r e lo = sym (turn k now lt r ∙ rw (← e, lt-leb now x lo))

  pub rising_above : (k now x : ℕ) → k < n → Rising step f top least i n k now → x ≡ f (i + k) → now ≤ x → top < x → false ≡ rises step f top least i n
  rising_above k now x lt r e lo hi = sym (turn k now lt r ∙ rw (← e, le-leb now x lo, lt-leb x top hi))

  pub rising_done : (k now : ℕ) → n ≤ k → Rising step f top least i n k now → true ≡ rises step f top least i n
  unfolding rises
  rising_done k now le r =
      let e : n - k ≡ 0 = omega arith in
      sym (r.same ∙ rw e)

-- tests that agree at each number agree over a range; so do rises
pub any_same : (p q : ℕ → Bool) (i n : ℕ) → ((k : ℕ) → p k ≡ q k) → any p i n ≡ any q i n
unfolding any
any_same p q i zero e = refl
any_same p q i (suc n) e = rw (e i, any_same p q (suc i) n e)

pub rises_same : (step : ℕ) (f g : ℕ → ℕ) (top least i j n : ℕ) → ((k : ℕ) → f (i + k) ≡ g (j + k)) → rises step f top least i n ≡ rises step g top least j n
unfolding rises
rises_same step f g top least i j zero e = refl
rises_same step f g top least i j (suc n) e =
    let h : f i ≡ g j = ap f (sym (add-zero i)) ∙ e 0 ∙ ap g (add-zero j) in
    rw (h, rises_same step f g top (g j + step) (suc i) (suc j) n (λ k. ap f (shift i k) ∙ e (suc k) ∙ ap g (sym (shift j k))))
  where
    shift : (a k : ℕ) → suc a + k ≡ a + suc k
    shift a k = omega arith

-- one term more of a sum
pub sum_more : (f : ℕ → ℕ) (k x : ℕ) → x ≡ f k → sum_to f k + x ≡ sum_to f (k + 1)
unfolding sum_to
sum_more f k x e = rw (add-one k, e)
