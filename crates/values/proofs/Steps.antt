-- A test of pairs in step: what the loops that compare keep.
-- The test of all n pairs is that of those from pair k on; a turn takes one pair off, a jump several. Where the last pairs
-- are looked at once more, the loop keeps that the first k pass.
use mathlib.Core.Path.{◌≡◌, refl, sym, ap, ◌∙◌}
use mathlib.Core.Bool.{Bool, true, false, ◌&&◌}
use mathlib.Core.List.{List}
use Prim.Native.Nat.{ℕ, zero, suc, ◌+◌, ◌-◌, ◌*◌, ◌/◌, ◌<◌, ◌≤◌}
use native.Mathlib.Omega.{arith}
use native.Mathlib.Nat.{add-zero, sub-zero, mul_comm}
use Rattle.std.proofs.Math.Nat.{mul-suc, mul-div-le, mul-le-mul_left, lt-div-mul-add}
use Rattle.std.proofs.Math.Numerals.{suc-eq-add-one}
use borrow.Author.Tests.{eq-eqb, ne_eqb}
use Rattle.image.specs.Bytes.{byte_at, bytes_at}
use Rattle.image.specs.Types.{same_bytes}
use Rattle.image.specs.Row.{Row, range}
use Rattle.image.specs.Equality.{row_equal}
use Rattle.image.proofs.Bools.{and_left}
use Rattle.values.specs.Pairs.{all, same_row, range_equal, same_byte}

-- the test of n pairs from i and j on is that of those from pair k on
pub record Left (p : ℕ → ℕ → Bool) (i j n k : ℕ) : Type 0 where
  pub within : k ≤ n
  pub same : all p i j n ≡ all p (i + k) (j + k) (n - k)

and_assoc : (x y z : Bool) → x && (y && z) ≡ x && y && z
and_assoc true y z = refl
and_assoc false y z = refl

pub all_split : (p : ℕ → ℕ → Bool) (i j m n : ℕ) → all p i j (m + n) ≡ all p i j m && all p (i + m) (j + m) n
unfolding all
all_split p i j zero n =
    let e : 0 + n ≡ n = omega arith in
    let x : i + 0 ≡ i = omega arith in
    let y : j + 0 ≡ j = omega arith in
    rw (e, x, y)
all_split p i j (suc m) n =
    let e : suc m + n ≡ suc (m + n) = omega arith in
    let x : i + suc m ≡ suc i + m = omega arith in
    let y : j + suc m ≡ suc j + m = omega arith in
    rw (e, x, y, all_split p (suc i) (suc j) m n) (and_assoc (p i j) _ _)

module _ (p : ℕ → ℕ → Bool) (i j n : ℕ) where
  pub left_none : Left p i j n 0
  left_none = record { within = omega arith; same = simp (add-zero, sub-zero) }

  step : (k : ℕ) → k < n → all p (i + k) (j + k) (n - k) ≡ p (i + k) (j + k) && all p (i + (k + 1)) (j + (k + 1)) (n - (k + 1))
  unfolding all
  step k lt =
      let e : n - k ≡ suc (n - (k + 1)) = omega arith in
      let x : i + (k + 1) ≡ suc (i + k) = omega arith in
      let y : j + (k + 1) ≡ suc (j + k) = omega arith in
      rw (e, x, y)

  pub left_more : (k : ℕ) → k < n → Left p i j n k → p (i + k) (j + k) ≡ true → Left p i j n (k + 1)
  left_more k lt r e = record { within = omega arith; same = r.same ∙ step k lt ∙ rw e }

  pub left_fails : (k : ℕ) → k < n → Left p i j n k → p (i + k) (j + k) ≡ false → false ≡ all p i j n
  left_fails k lt r e = sym (r.same ∙ step k lt ∙ rw e)

  pub left_done : (k : ℕ) → n ≤ k → Left p i j n k → true ≡ all p i j n
  unfolding all
  left_done k le r =
      let e : n - k ≡ 0 = omega arith in
      sym (r.same ∙ rw e)

  -- what is left is the answer
  pub left_rest : (k : ℕ) → Left p i j n k → {x : Bool} → x ≡ all p (i + k) (j + k) (n - k) → x ≡ all p i j n
  left_rest k r e = e ∙ sym r.same

  -- m pairs at once
  jump : (k m : ℕ) → m ≤ n - k → all p (i + k) (j + k) (n - k) ≡ all p (i + k) (j + k) m && all p (i + (k + m)) (j + (k + m)) (n - (k + m))
  jump k m le =
      let e : n - k ≡ m + (n - (k + m)) = omega arith in
      let x : i + (k + m) ≡ i + k + m = omega arith in
      let y : j + (k + m) ≡ j + k + m = omega arith in
      rw (e, x, y) (all_split p (i + k) (j + k) m (n - (k + m)))

  pub left_jump : (k m : ℕ) → k ≤ n → m ≤ n - k → Left p i j n k → all p (i + k) (j + k) m ≡ true → Left p i j n (k + m)
  left_jump k m kn le r e = record { within = omega arith; same = r.same ∙ jump k m le ∙ rw e }

  pub jump_fails : (k m : ℕ) → m ≤ n - k → Left p i j n k → all p (i + k) (j + k) m ≡ false → false ≡ all p i j n
  jump_fails k m le r e = sym (r.same ∙ jump k m le ∙ rw e)

-- of n pairs block h, of w pairs, lies before the whole blocks' end, and behind that are fewer
module _ (n w h : ℕ) where
  pub block_next : w * (h + 1) ≡ w * h + w
  block_next = rw (← suc-eq-add-one h) (mul-suc w h)

  pub block_inside : h < n / w → w * h + w ≤ n
  block_inside lt =
      let up : w * (h + 1) ≤ w * (n / w) = mul-le-mul_left w (omega (arith, lt)) in
      omega (arith, up, mul-div-le n w, block_next)

pub blocks_inside : (n w : ℕ) → w * (n / w) ≤ n
blocks_inside n w = mul-div-le n w

pub blocks_rest : (n w : ℕ) → 0 < w → n - w * (n / w) ≤ w
blocks_rest n w some = omega (arith, lt-div-mul-add {a = n} {b = w} some, mul_comm w (n / w))

pub all_none : (p : ℕ → ℕ → Bool) (i j : ℕ) → true ≡ all p i j 0
unfolding all
all_none p i j = refl

-- where n pairs pass, the first m of them do; where these do not, the n do not
module _ (p : ℕ → ℕ → Bool) (i j m n : ℕ) (le : m ≤ n) where
  front : all p i j n ≡ all p i j m && all p (i + m) (j + m) (n - m)
  front = let e : m + (n - m) ≡ n = omega arith in rw e at (all_split p i j m (n - m))

  pub front_passes : all p i j n ≡ true → all p i j m ≡ true
  front_passes e = and_left _ _ (sym front ∙ e)

  pub front_fails : all p i j m ≡ false → false ≡ all p i j n
  front_fails e = sym (front ∙ rw e)

pub and_true : (x : Bool) → x && true ≡ x
and_true true = refl
and_true false = refl

-- one pair more at the end
pub all_snoc : (p : ℕ → ℕ → Bool) (i j k : ℕ) → all p i j (k + 1) ≡ all p i j k && p (i + k) (j + k)
unfolding all
all_snoc p i j k = all_split p i j k 1 ∙ ap (λ (x : Bool). all p i j k && x) (and_true (p (i + k) (j + k)))

-- the first k of n pairs pass
pub record Passed (p : ℕ → ℕ → Bool) (i j n k : ℕ) : Type 0 where
  pub within : k ≤ n
  pub passes : all p i j k ≡ true

module _ (p : ℕ → ℕ → Bool) (i j n : ℕ) where
  pub passed_none : Passed p i j n 0
  passed_none = record { within = omega arith; passes = sym (all_none p i j) }

  -- m more at once
  pub passed_more : (k m : ℕ) → m ≤ n - k → Passed p i j n k → all p (i + k) (j + k) m ≡ true → Passed p i j n (k + m)
  passed_more k m le r e = record { within = omega arith; passes = all_split p i j k m ∙ rw r.passes e }

  -- one more
  pub passed_one : (k : ℕ) → k < n → Passed p i j n k → p (i + k) (j + k) ≡ true → Passed p i j n (k + 1)
  passed_one k lt r e = record { within = omega arith; passes = all_snoc p i j k ∙ rw r.passes e }

  pub passed_fails : (k m : ℕ) → m ≤ n - k → Passed p i j n k → all p (i + k) (j + k) m ≡ false → false ≡ all p i j n
  passed_fails k m le r e = front_fails p i j (k + m) n (omega arith) (all_split p i j k m ∙ rw r.passes e)

  -- the last w, some of them once more, are the answer
  pub passed_tail : (k w : ℕ) → w ≤ n → n - k ≤ w → Passed p i j n k → all p (i + (n - w)) (j + (n - w)) w ≡ all p i j n
  passed_tail k w le near r =
      let e : n - w + w ≡ n = omega arith in
      let f : all p i j (n - w) ≡ true = front_passes p i j (n - w) k (omega arith) r.passes in
      sym (rw (e, f) at (all_split p i j (n - w) w))

-- a range of rows is equal where all its pairs are
pub by_rows : (g h : ℕ → Row) (i j n : ℕ) → all (same_row g h) i j n ≡ range_equal g h i j n
unfolding all range row_equal same_row
by_rows g h i j zero = refl
by_rows g h i j (suc n) = rw (by_rows g h (suc i) (suc j) n)

-- bytes are the same where all pairs are
pub by_bytes : (a b : List ℕ) (i j n : ℕ) → all (same_byte a b) i j n ≡ same_bytes (bytes_at a i n) (bytes_at b j n)
unfolding all same_byte bytes_at same_bytes
by_bytes a b i j zero = refl
by_bytes a b i j (suc n) = rw (by_bytes a b (suc i) (suc j) n)

-- two bytes that are the same, or not
pub same_byte_lem : (a b : List ℕ) (i j : ℕ) → byte_at a i ≡ byte_at b j → same_byte a b i j ≡ true
unfolding same_byte
same_byte_lem a b i j e = eq-eqb _ _ e

pub other_byte : (a b : List ℕ) (i j : ℕ) → (byte_at a i ≡ byte_at b j → ⊥) → same_byte a b i j ≡ false
unfolding same_byte
other_byte a b i j e = ne_eqb _ _ e

-- a row's test that was made
pub row_test : (g h : ℕ → Row) (i j : ℕ) {x : Bool} → x ≡ row_equal (g i) (h j) → same_row g h i j ≡ x
unfolding same_row
row_test g h i j e = sym e

-- a test at some places that is another test at other places
pub all_moved : (p q : ℕ → ℕ → Bool) (i j x y n : ℕ) → ((k : ℕ) → k < n → p (i + k) (j + k) ≡ q (x + k) (y + k)) → all p i j n ≡ all q x y n
unfolding all
all_moved p q i j x y zero e = refl
all_moved p q i j x y (suc n) e =
    let zi : i + 0 ≡ i = omega arith in
    let zj : j + 0 ≡ j = omega arith in
    let zx : x + 0 ≡ x = omega arith in
    let zy : y + 0 ≡ y = omega arith in
    let here : p i j ≡ q x y = rw (zi, zj, zx, zy) at (e 0 (omega arith)) in
    rw (
      here,
      all_moved p q (suc i) (suc j) (suc x) (suc y) n (λ k lt.
          let ui : suc i + k ≡ i + suc k = omega arith in
          let uj : suc j + k ≡ j + suc k = omega arith in
          let ux : suc x + k ≡ x + suc k = omega arith in
          let uy : suc y + k ≡ y + suc k = omega arith in
          rw (ui, uj, ux, uy) (e (suc k) (omega arith))),
    )

-- each pair passes: all do
pub all_by : (p : ℕ → ℕ → Bool) (i j n : ℕ) → ((h : ℕ) → h < n → p (i + h) (j + h) ≡ true) → all p i j n ≡ true
unfolding all
all_by p i j zero e = refl
all_by p i j (suc n) e =
    let x : i + 0 ≡ i = omega arith in
    let y : j + 0 ≡ j = omega arith in
    let here : p i j ≡ true = rw (x, y) at (e 0 (omega arith)) in
    rw (
      here,
      all_by p (suc i) (suc j) n (λ h lt.
          let u : suc i + h ≡ i + suc h = omega arith in
          let v : suc j + h ≡ j + suc h = omega arith in
          rw (u, v) (e (suc h) (omega arith))),
    )
