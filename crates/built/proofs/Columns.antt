-- The rows of a child are those that its parent's rows give it: row by row of a Struct, list by list of a list.
-- A node's parent is found by its number, since children are numbered in the order of their parents.
use mathlib.Core.Path.{◌≡◌, refl, ap, ◌∙◌}
use mathlib.Core.Bool.{false}
use mathlib.Core.List.{List}
use mathlib.Core.Logic.{◌⊎◌, inl, inr}
use Prim.Native.Nat.{ℕ, zero, suc, ◌+◌, ◌*◌, ◌-◌, ◌≤◌, ◌<◌}
use native.Mathlib.Nat.{eq-or-lt_of_le, zero-add, zero-mul, suc-mul}
use native.Mathlib.Omega.{arith}
use lib.Dec.{eqb}
use borrow.Author.Tests.{lt-ltb, ltb-true, ltb-false, ne_eqb}
use Rattle.image.specs.Ranges.{sum_to}
use Rattle.image.specs.Record.{node_count, first_child, child_count, child_start}
use Rattle.image.specs.Element.{child_end}
use Rattle.image.specs.Row.{Row, Rows, none, more}
use Rattle.image.specs.RowBytes.{count}
use Rattle.image.proofs.Ranges.{first_at_most, first_before, first_passes, sum_grows}
use Rattle.laws.specs.Accepted.{AcceptedImage}
use Rattle.image.specs.Row.{rows_then}
use Rattle.image.specs.Built.{from_each, nth, ends_past, parent_of, rows_to_child, under_null, child_column, column_at, column}
use Rattle.built.proofs.Offsets.{sum_over}

-- The parent of a node.

module _ (s : List ℕ) (image : AcceptedImage s) where
  -- the children of an earlier node end before those of a later one start
  pub ends_before : (q p : ℕ) → q < p → p < node_count s → child_end s q ≤ first_child s p
  unfolding child_end child_start sum_to
  ends_before q p lt node =
      let sums : sum_to (child_count s) (suc q) ≤ sum_to (child_count s) p = sum_grows (child_count s) (suc q) p lt in
      omega (arith, (image.node q (omega arith)).tree.numbered, (image.node p node).tree.numbered)

  -- each node but the root has an earlier parent
  pub parent_before : (k : ℕ) → k < node_count s → 0 < k → parent_of s k < k
  unfolding parent_of ends_past child_end child_start sum_to
  parent_before (suc k) node some =
      let mine = (image.node (suc k) node).tree in
      let before = (image.node k (omega arith)).tree in
      let past : suc k < child_end s k = omega (arith, mine.numbered, mine.below, before.numbered) in
      let le : parent_of s (suc k) ≤ k = first_at_most (ends_past s (suc k)) 0 (suc k) k (omega arith) (lt-ltb (suc k) (child_end s k) past) in
      omega arith
  parent_before zero node some = absurd (omega arith)

  -- and it is the node whose child it is
  pub parent_is : (p i : ℕ) → p < node_count s → i < child_count s p → parent_of s (first_child s p + i) ≡ p
  unfolding parent_of ends_past child_end
  parent_is p i node few =
      let le : parent_of s (first_child s p + i) ≤ p =
      first_at_most (ends_past s (first_child s p + i)) 0 (first_child s p + i) p (omega arith) (lt-ltb (first_child s p + i) (child_end s p) (omega arith)) in
      cases (eq-or-lt_of_le le)
    where
      cases : (parent_of s (first_child s p + i) ≡ p) ⊎ (parent_of s (first_child s p + i) < p) → parent_of s (first_child s p + i) ≡ p
      cases (inl e) = e
      cases (inr lt) =
          let passes = first_passes (ends_past s (first_child s p + i)) 0 (first_child s p + i) (omega (arith, (image.node p node).tree.below)) in
          absurd (omega (arith, ltb-true (first_child s p + i) (child_end s (parent_of s (first_child s p + i))) passes, ends_before (parent_of s (first_child s p + i)) p lt node))

  -- a node is one of its parent's children
  pub parent_starts : (k : ℕ) → k < node_count s → 0 < k → first_child s (parent_of s k) ≤ k
  unfolding parent_of ends_past child_end child_start sum_to
  parent_starts k node some = cases (parent_of s k) refl (parent_before k node some)
    where
      cases : (p : ℕ) → parent_of s k ≡ p → parent_of s k < k → first_child s p ≤ k
      cases zero is lt = omega (arith, (image.node 0 (omega arith)).tree.numbered)
      cases (suc q) is lt =
          let fails = first_before (ends_past s k) 0 k q (omega arith) (omega arith) in
          omega (arith, ltb-false k (child_end s q) fails, (image.node (suc q) (omega arith)).tree.numbered, (image.node q (omega arith)).tree.numbered)

  pub parent_ends : (k : ℕ) → k < node_count s → 0 < k → k < child_end s (parent_of s k)
  unfolding parent_of ends_past
  parent_ends k node some =
      let before = parent_before k node some in
      ltb-true k _ (first_passes (ends_past s k) 0 k (omega arith))

  -- The rows of a child.

  -- the first argument may be larger
  column_more : (rs : Rows) (d e k : ℕ) → k ≤ d → k ≤ e → k < node_count s → column_at d s rs k ≡ column_at e s rs k
  unfolding column_at
  column_more rs zero zero k ld le node = refl
  column_more rs zero (suc e) k ld le node =
      let root : k ≡ 0 = omega arith in
      rw root
  column_more rs (suc d) zero k ld le node =
      let root : k ≡ 0 = omega arith in
      rw root
  column_more rs (suc d) (suc e) zero ld le node = refl
  column_more rs (suc d) (suc e) (suc k) ld le node =
      let p : parent_of s (suc k) < suc k = parent_before (suc k) node (omega arith) in
      let other : eqb (suc k) 0 ≡ false = ne_eqb (suc k) 0 (λ e. omega arith) in
      rw other
      (ap (child_column s (parent_of s (suc k)) (suc k)) (column_more rs d e (parent_of s (suc k)) (omega arith) (omega arith) (omega arith)))

  column_step : (rs : Rows) (k : ℕ) → 0 < k → k < node_count s → column s rs k ≡ child_column s (parent_of s k) k (column s rs (parent_of s k))
  unfolding column column_at
  column_step rs zero some node = absurd (omega arith)
  column_step rs (suc k) some node =
      let p : parent_of s (suc k) < suc k = parent_before (suc k) node some in
      let other : eqb (suc k) 0 ≡ false = ne_eqb (suc k) 0 (λ e. omega arith) in
      rw other
      (ap (child_column s (parent_of s (suc k)) (suc k)) (column_more rs k (parent_of s (suc k)) (parent_of s (suc k)) (omega arith) (omega arith) (omega arith)))

  pub column_child : (rs : Rows) (p i : ℕ) → p < node_count s → i < child_count s p → column s rs (first_child s p + i) ≡ from_each (rows_to_child (under_null s p (first_child s p + i)) i) (column s rs p)
  unfolding child_column child_end
  column_child rs p i node few =
      let there : first_child s p + i < node_count s = omega (arith, (image.node p node).tree.ends) in
      let some : 0 < first_child s p + i = omega (arith, (image.node p node).tree.below) in
      let step = column_step rs (first_child s p + i) some there in
      let back : first_child s p + i - first_child s p ≡ i = omega arith in
      rw (parent_is p i node few, back) at step

pub column_root : (s : List ℕ) (rs : Rows) → column s rs 0 ≡ rs
unfolding column column_at
column_root s rs = refl

-- Rows from each row.

pub count_join : (rs qs : Rows) → count (rows_then rs qs) ≡ count rs + count qs
unfolding rows_then count
count_join none qs = omega arith
count_join (more r rs) qs = rw (count_join rs qs) (omega arith)

join_left : (rs qs : Rows) (i : ℕ) → i < count rs → nth (rows_then rs qs) i ≡ nth rs i
unfolding rows_then count nth
join_left none qs i lt = absurd (omega arith)
join_left (more r rs) qs zero lt = refl
join_left (more r rs) qs (suc i) lt = join_left rs qs i (omega arith)

join_right : (rs qs : Rows) (i : ℕ) → nth (rows_then rs qs) (count rs + i) ≡ nth qs i
unfolding rows_then count nth
join_right none qs i = rw (zero-add i)
join_right (more r rs) qs i =
    let e : suc (count rs) + i ≡ suc (count rs + i) = omega arith in
    rw e (join_right rs qs i)

module _ (f : Row → Rows) where
  pub from_count : (rs : Rows) → count (from_each f rs) ≡ sum_over (λ r. count (f r)) rs (count rs)
  unfolding from_each count sum_over
  from_count none = refl
  from_count (more r rs) = count_join (f r) (from_each f rs) ∙ rw (from_count rs)

  -- row m of those that row j gives
  pub from_nth : (rs : Rows) (j m : ℕ) → j < count rs → m < count (f (nth rs j)) → nth (from_each f rs) (sum_over (λ r. count (f r)) rs j + m) ≡ nth (f (nth rs j)) m
  unfolding from_each count sum_over nth
  from_nth none j m lt few = absurd (omega arith)
  from_nth (more r rs) zero m lt few = rw (zero-add m) (join_left (f r) (from_each f rs) m few)
  from_nth (more r rs) (suc j) m lt few =
      let e : count (f r) + sum_over (λ r. count (f r)) rs j + m ≡ count (f r) + (sum_over (λ r. count (f r)) rs j + m) = omega arith in
      rw e (join_right (f r) (from_each f rs) (sum_over (λ r. count (f r)) rs j + m) ∙ from_nth rs j m (omega arith) few)

-- sums over rows on which two functions agree
pub sum_same : (f g : Row → ℕ) (rs : Rows) (j : ℕ) → ((i : ℕ) → i < count rs → f (nth rs i) ≡ g (nth rs i)) → sum_over f rs j ≡ sum_over g rs j
unfolding sum_over count nth
sum_same f g none j same = refl
sum_same f g (more r rs) zero same = refl
sum_same f g (more r rs) (suc j) same = rw (same 0 (omega arith), sum_same f g rs j (λ i lt. same (suc i) (omega arith)))

-- a sum of equal numbers
pub sum_even : (f : Row → ℕ) (w : ℕ) (rs : Rows) (j : ℕ) → ((i : ℕ) → i < count rs → f (nth rs i) ≡ w) → j ≤ count rs → sum_over f rs j ≡ j * w
unfolding sum_over count nth
sum_even f w none j same le =
    let e : j ≡ 0 = omega arith in
    rw (e, zero-mul w)
sum_even f w (more r rs) zero same le = rw (zero-mul w)
sum_even f w (more r rs) (suc j) same le =
    rw (same 0 (omega arith), sum_even f w rs j (λ i lt. same (suc i) (omega arith)) (omega arith), suc-mul j w) (omega arith)

-- the next sum
sum_none : (f : Row → ℕ) (rs : Rows) → sum_over f rs 0 ≡ 0
unfolding sum_over
sum_none f none = refl
sum_none f (more r rs) = refl

pub sum_step : (f : Row → ℕ) (rs : Rows) (j : ℕ) → j < count rs → sum_over f rs (suc j) ≡ sum_over f rs j + f (nth rs j)
unfolding sum_over count nth
sum_step f none j lt = absurd (omega arith)
sum_step f (more r rs) zero lt = omega (arith, sum_none f rs)
sum_step f (more r rs) (suc j) lt =
    let h = sum_step f rs j (omega arith) in
    omega arith
