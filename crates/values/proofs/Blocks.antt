-- Rows of texts or lists without nulls are equal exactly where they are equally long in turn and all that they hold is
-- the same as one block.
-- By induction over the rows: the block of the first and the block of the others make the whole, since offsets rise.
use mathlib.Core.Path.{◌≡◌, refl}
use mathlib.Core.Bool.{Bool, true, false, ◌&&◌}
use Prim.Native.Nat.{ℕ, zero, suc, ◌+◌, ◌-◌, ◌<◌, ◌≤◌}
use native.Mathlib.Omega.{arith}
use Rattle.image.proofs.Bools.{and_left, and_right}
use Rattle.values.specs.Pairs.{all}
use Rattle.values.proofs.Steps.{all_split}

-- all pairs pass: each does
pub all_at : (p : ℕ → ℕ → Bool) (i j n : ℕ) → all p i j n ≡ true → (k : ℕ) → k < n → p (i + k) (j + k) ≡ true
unfolding all
all_at p i j zero e k lt = absurd (omega arith)
all_at p i j (suc n) e zero lt =
    let x : i + 0 ≡ i = omega arith in
    let y : j + 0 ≡ j = omega arith in
    rw (x, y) (and_left _ _ e)
all_at p i j (suc n) e (suc k) lt =
    let x : i + suc k ≡ suc i + k = omega arith in
    let y : j + suc k ≡ suc j + k = omega arith in
    rw (x, y) (all_at p (suc i) (suc j) n (and_right (p i j) _ e) k (omega arith))

-- a test that fails wherever another does fails over a range where the other does
pub all_weaker : (p q : ℕ → ℕ → Bool) (i j n : ℕ) → ((k : ℕ) → k < n → p (i + k) (j + k) ≡ false → q (i + k) (j + k) ≡ false) → all p i j n ≡ false → all q i j n ≡ false
unfolding all
all_weaker p q i j zero h e = e
all_weaker p q i j (suc n) h e =
    let x : i + 0 ≡ i = omega arith in
    let y : j + 0 ≡ j = omega arith in
    let here : p i j ≡ false → q i j ≡ false = rw (x, y) at (h 0 (omega arith)) in
    cases (p i j) (q i j) e here
    (all_weaker p q (suc i) (suc j) n (λ k lt.
    let u : suc i + k ≡ i + suc k = omega arith in
    let v : suc j + k ≡ j + suc k = omega arith in
    rw (u, v) (h (suc k) (omega arith))))
  where
    and_false : (x : Bool) → x && false ≡ false
    and_false true = refl
    and_false false = refl

    cases : (x y : Bool) → x && all p (suc i) (suc j) n ≡ false → (x ≡ false → y ≡ false) → (all p (suc i) (suc j) n ≡ false → all q (suc i) (suc j) n ≡ false) → y && all q (suc i) (suc j) n ≡ false
    cases true y e h r = rw (r e) (and_false y)
    cases false y e h r = rw (h refl)

-- the offsets f from i on rise over n places
abbrev pub Rise : (ℕ → ℕ) → ℕ → ℕ → Type 0
Rise f i n = (h : ℕ) → i ≤ h → h < i + n → f h ≤ f (suc h)

pub rise_far : (f : ℕ → ℕ) (i n : ℕ) → Rise f i n → f i ≤ f (i + n)
rise_far f i zero r =
    let e : i + 0 ≡ i = omega arith in
    rw e (omega arith)
rise_far f i (suc n) r =
    let e : i + suc n ≡ suc i + n = omega arith in
    let rest : f (suc i) ≤ f (suc i + n) = rise_far f (suc i) n (λ h le lt. r h (omega arith) (omega arith)) in
    let here : f i ≤ f (suc i) = r i (omega arith) (omega arith) in
    rw e (omega arith)

module _ (p q : ℕ → ℕ → Bool) (f g : ℕ → ℕ) (P Q : ℕ) where
  pub blocks : (i j n : ℕ) → Rise f i n → Rise g j n
      → ((k : ℕ) → k < n → f (suc (i + k)) - f (i + k) ≡ g (suc (j + k)) - g (j + k))
      → ((k : ℕ) → k < n → q (i + k) (j + k) ≡ all p (P + f (i + k)) (Q + g (j + k)) (f (suc (i + k)) - f (i + k)))
      → all q i j n ≡ all p (P + f i) (Q + g j) (f (i + n) - f i)
  unfolding all
  blocks i j zero rf rg same row =
      let e : i + 0 ≡ i = omega arith in
      let z : f i - f i ≡ 0 = omega arith in
      rw (e, z)
  blocks i j (suc n) rf rg same row =
      let x : i + 0 ≡ i = omega arith in
      let y : j + 0 ≡ j = omega arith in
      let span : f (suc i) - f i ≡ g (suc j) - g j = rw (x, y) at (same 0 (omega arith)) in
      let here : q i j ≡ all p (P + f i) (Q + g j) (f (suc i) - f i) = rw (x, y) at (row 0 (omega arith)) in
      let up : f i ≤ f (suc i) = rf i (omega arith) (omega arith) in
      let ug : g j ≤ g (suc j) = rg j (omega arith) (omega arith) in
      let far : f (suc i) ≤ f (suc i + n) = rise_far f (suc i) n (λ h le lt. rf h (omega arith) (omega arith)) in
      let e : i + suc n ≡ suc i + n = omega arith in
      let rest : all q (suc i) (suc j) n ≡ all p (P + f (suc i)) (Q + g (suc j)) (f (suc i + n) - f (suc i)) =
      blocks (suc i) (suc j) n (λ h le lt. rf h (omega arith) (omega arith)) (λ h le lt. rg h (omega arith) (omega arith))
      (λ k lt. shift k (λ u v. f (suc u) - f u ≡ g (suc v) - g v) (same (suc k) (omega arith)))
      (λ k lt. shift k (λ u v. q u v ≡ all p (P + f u) (Q + g v) (f (suc u) - f u)) (row (suc k) (omega arith))) in
      let whole : f (suc i + n) - f i ≡ f (suc i) - f i + (f (suc i + n) - f (suc i)) = omega arith in
      let u : P + f i + (f (suc i) - f i) ≡ P + f (suc i) = omega arith in
      let v : Q + g j + (f (suc i) - f i) ≡ Q + g (suc j) = omega arith in
      rw (here, rest, e, whole, all_split p (P + f i) (Q + g j) (f (suc i) - f i) (f (suc i + n) - f (suc i)), u, v)
    where
      shift : (k : ℕ) (T : ℕ → ℕ → Type 0) → T (i + suc k) (j + suc k) → T (suc i + k) (suc j + k)
      shift k T t =
          let u : suc i + k ≡ i + suc k = omega arith in
          let v : suc j + k ≡ j + suc k = omega arith in
          rw (u, v) t

-- equal spans in turn make equally long blocks
pub equal_spans : (f g : ℕ → ℕ) (i j n : ℕ) → Rise f i n → Rise g j n → ((k : ℕ) → k < n → f (suc (i + k)) - f (i + k) ≡ g (suc (j + k)) - g (j + k))
    → g j + (f (i + n) - f i) ≡ g (j + n)
equal_spans f g i j zero rf rg same =
    let e : i + 0 ≡ i = omega arith in
    let d : j + 0 ≡ j = omega arith in
    rw (e, d) (omega arith)
equal_spans f g i j (suc n) rf rg same =
    let x : i + 0 ≡ i = omega arith in
    let y : j + 0 ≡ j = omega arith in
    let span : f (suc i) - f i ≡ g (suc j) - g j = rw (x, y) at (same 0 (omega arith)) in
    let up : f i ≤ f (suc i) = rf i (omega arith) (omega arith) in
    let ug : g j ≤ g (suc j) = rg j (omega arith) (omega arith) in
    let far : f (suc i) ≤ f (suc i + n) = rise_far f (suc i) n (λ h le lt. rf h (omega arith) (omega arith)) in
    let e : i + suc n ≡ suc i + n = omega arith in
    let d : j + suc n ≡ suc j + n = omega arith in
    let rest : g (suc j) + (f (suc i + n) - f (suc i)) ≡ g (suc j + n) =
    equal_spans f g (suc i) (suc j) n (λ h le lt. rf h (omega arith) (omega arith)) (λ h le lt. rg h (omega arith) (omega arith))
    (λ k lt.
    let u : suc i + k ≡ i + suc k = omega arith in
    let v : suc j + k ≡ j + suc k = omega arith in
    rw (u, v) (same (suc k) (omega arith))) in
    rw (e, d) (omega arith)
