-- The rows of every node are rows that the node can have, if the root's are.
-- From a node to its children: a row that passes the test of its node gives each child rows that pass the child's.
use mathlib.Core.Path.{◌≡◌, refl, sym, subst}
use mathlib.Core.Bool.{Bool, true, false, cond, not, ◌||◌, false≢true}
use mathlib.Core.List.{List, []}
use mathlib.Core.Logic.{◌⊎◌, inl, inr}
use Prim.Native.Nat.{ℕ, zero, suc, ◌+◌, ◌-◌, ◌≤◌, ◌<◌}
use native.Mathlib.Nat.{add-zero, eq-zero-or-pos}
use native.Mathlib.Omega.{arith}
use lib.Dec.{eqb, leb, ltb}
use borrow.Author.Tests.{eqb-true, leb-true, not-true}
use Rattle.image.specs.declared.type_code.Layout.{Layout}
use Rattle.image.specs.declared.type_code.Layout.TheVariants.{Null, Boolean, FixedWidth, VariableSize, View, List as Lists, ListView, FixedList, Struct, DenseUnion, SparseUnion, Dictionary, Runs}
use Rattle.image.specs.Ranges.{every}
use Rattle.image.specs.Record.{node_count, code_of, first_child, child_count}
use Rattle.image.specs.TypeCode.{entries, entry_of, layout_of, takes_bitmap, width_of}
use Rattle.image.specs.Element.{child_end}
use Rattle.image.specs.Faults.{level_end}
use Rattle.image.specs.Row.{Row, Rows, null, fixed, sized, joined, counted, tagged, none, more, one, rows_then}
use Rattle.image.specs.RowBytes.{count}
use Rattle.image.proofs.Bools.{and_left, and_right, and_true}
use Rattle.image.proofs.Ranges.{every_below}
use Rattle.image.proofs.Widths.{code_passes, own_width, own_width_lem}
use Rattle.laws.specs.Accepted.{AcceptedImage}
use Rattle.laws.proofs.Fuel.{level_below}
use Rattle.image.specs.Parse.{readable_code, readable}
use Rattle.image.specs.Built.{from_each, nth, parent_of, rows_to_child, under_null, column}
use Rattle.built.specs.Typed.{all_rows, each_row, is_value, is_marked, is_row}
use Rattle.built.proofs.Columns.{parent_before, parent_starts, parent_ends, column_child, column_root}

-- a test that all rows pass
pub all_at : (f : Row → Bool) (rs : Rows) → all_rows f rs ≡ true → (j : ℕ) → j < count rs → f (nth rs j) ≡ true
unfolding all_rows count nth
all_at f none e j lt = absurd (omega arith)
all_at f (more r rs) e zero lt = and_left _ _ e
all_at f (more r rs) e (suc j) lt = all_at f rs (and_right (f r) _ e) j (omega arith)

pub each_passes : (f : ℕ → Row → Bool) (c : ℕ) (rs : Rows) → each_row f c rs ≡ true → (i : ℕ) → i < count rs → f (c + i) (nth rs i) ≡ true
unfolding each_row count nth
each_passes f c none e i lt = absurd (omega arith)
each_passes f c (more r rs) e zero lt = rw (add-zero c) (and_left _ _ e)
each_passes f c (more r rs) e (suc i) lt =
    let j : suc c + i ≡ c + suc i = omega arith in
    rw (← j) (each_passes f (suc c) rs (and_right (f c r) _ e) i (omega arith))

all_join : (f : Row → Bool) (rs qs : Rows) → all_rows f rs ≡ true → all_rows f qs ≡ true → all_rows f (rows_then rs qs) ≡ true
unfolding all_rows rows_then
all_join f none qs a b = b
all_join f (more r rs) qs a b = and_true (f r) (all_rows f (rows_then rs qs)) (and_left (f r) (all_rows f rs) a) (all_join f rs qs (and_right (f r) _ a) b)

all_from : (f g : Row → Bool) (h : Row → Rows) → ((r : Row) → f r ≡ true → all_rows g (h r) ≡ true) → (rs : Rows) → all_rows f rs ≡ true → all_rows g (from_each h rs) ≡ true
unfolding all_rows from_each
all_from f g h each none e = refl
all_from f g h each (more r rs) e = all_join g (h r) (from_each h rs) (each r (and_left _ _ e)) (all_from f g h each rs (and_right (f r) _ e))

-- What the layout says of the code.

pub struct_code : (code : ℕ) → layout_of code ≡ Struct → eqb code 38 ≡ true
unfolding every layout_of entry_of entries
struct_code code e = code_passes Struct (λ c. eqb c 38) refl code e

pub list_code : (code : ℕ) → layout_of code ≡ Lists → eqb code 38 ≡ false
unfolding every layout_of entry_of entries
list_code code e = not-true _ (code_passes Lists (λ c. not (eqb c 38)) refl code e)

pub text_code : (code : ℕ) → layout_of code ≡ VariableSize → eqb code 31 ≡ false
unfolding every layout_of entry_of entries
text_code code e = not-true _ (code_passes VariableSize (λ c. not (eqb c 31)) refl code e)

pub list_wide : (code p1 : ℕ) → layout_of code ≡ Lists → 4 ≤ width_of code p1
unfolding every layout_of entry_of entries width_of
list_wide code p1 e = leb-true _ _ (own_width_lem (λ w. leb 4 w) code p1 (code_passes Lists (own_width (λ w. leb 4 w)) refl code e))

pub text_wide : (code p1 : ℕ) → layout_of code ≡ VariableSize → 4 ≤ width_of code p1
unfolding every layout_of entry_of entries width_of
text_wide code p1 e = leb-true _ _ (own_width_lem (λ w. leb 4 w) code p1 (code_passes VariableSize (own_width (λ w. leb 4 w)) refl code e))

abbrev pub code_readable : ℕ → Bool
code_readable c = leb c 30 || eqb c 33 || eqb c 34 || eqb c 38

abbrev pub unreadable : Layout → Type 0
unreadable l = (code : ℕ) → layout_of code ≡ l → code_readable code ≡ false

pub not_view : unreadable View
unfolding every layout_of entry_of entries
not_view code e = not-true _ (code_passes View (λ c. not (code_readable c)) refl code e)

pub not_list_view : unreadable ListView
unfolding every layout_of entry_of entries
not_list_view code e = not-true _ (code_passes ListView (λ c. not (code_readable c)) refl code e)

pub not_fixed_list : unreadable FixedList
unfolding every layout_of entry_of entries
not_fixed_list code e = not-true _ (code_passes FixedList (λ c. not (code_readable c)) refl code e)

pub not_dense : unreadable DenseUnion
unfolding every layout_of entry_of entries
not_dense code e = not-true _ (code_passes DenseUnion (λ c. not (code_readable c)) refl code e)

pub not_sparse : unreadable SparseUnion
unfolding every layout_of entry_of entries
not_sparse code e = not-true _ (code_passes SparseUnion (λ c. not (code_readable c)) refl code e)

pub not_dictionary : unreadable Dictionary
unfolding every layout_of entry_of entries
not_dictionary code e = not-true _ (code_passes Dictionary (λ c. not (code_readable c)) refl code e)

pub not_runs : unreadable Runs
unfolding every layout_of entry_of entries
not_runs code e = not-true _ (code_passes Runs (λ c. not (code_readable c)) refl code e)

-- Under a null.

-- what stands under a null is a row of the child
pub gap_fits : (l : Layout) (sub : ℕ → Row → Bool) (s : List ℕ) (k : ℕ) → layout_of (code_of s k) ≡ l → readable_code s k ≡ true
    → is_marked (takes_bitmap l) (is_value l sub s k) (cond (takes_bitmap l) null (fixed [])) ≡ true
unfolding readable_code
gap_fits Null sub s k e r = refl
gap_fits Boolean sub s k e r = refl
gap_fits FixedWidth sub s k e r = refl
gap_fits VariableSize sub s k e r = refl
gap_fits View sub s k e r = refl
gap_fits Lists sub s k e r = refl
gap_fits ListView sub s k e r = refl
gap_fits FixedList sub s k e r = refl
gap_fits Struct sub s k e r = refl
gap_fits DenseUnion sub s k e r =
    let h = not_dense (code_of s k) e in
    cc
gap_fits SparseUnion sub s k e r =
    let h = not_sparse (code_of s k) e in
    cc
gap_fits Dictionary sub s k e r = refl
gap_fits Runs sub s k e r =
    let h = not_runs (code_of s k) e in
    cc

under_fits : (d : ℕ) (s : List ℕ) (p k : ℕ) → 0 < d → readable_code s k ≡ true → all_rows (is_row d s k) (under_null s p k) ≡ true
unfolding under_null is_row all_rows
under_fits zero s p k some r = absurd (omega arith)
under_fits (suc d) s p k some r = cases (eqb (code_of s p) 38) (gap_fits (layout_of (code_of s k)) (is_row d s) s k refl r)
  where
    cases : (b : Bool) → is_row (suc d) s k (cond (takes_bitmap (layout_of (code_of s k))) null (fixed [])) ≡ true
        → all_rows (is_row (suc d) s k) (cond b (one (cond (takes_bitmap (layout_of (code_of s k))) null (fixed []))) none) ≡ true
    cases true h = and_true _ _ h refl
    cases false h = refl

-- From a node to a child.

module _ (s : List ℕ) (image : AcceptedImage s) (coded : readable s ≡ true) (rs : Rows) where
  pub coded_at : (k : ℕ) → k < node_count s → readable_code s k ≡ true
  unfolding readable
  coded_at k lt = every_below (readable_code s) (node_count s) coded k lt

  module _ (d p i : ℕ) (node : p < node_count s) (few : i < child_count s p) (under : Rows) (fits : all_rows (is_row d s (first_child s p + i)) under ≡ true) where
    joined_gives : (l : Layout) → (qs : Rows) → is_value l (is_row d s) s p (joined qs) ≡ true → all_rows (is_row d s (first_child s p + i)) (one (nth qs i)) ≡ true
    unfolding all_rows
    joined_gives Null qs e = absurd (false≢true e)
    joined_gives Boolean qs e = absurd (false≢true e)
    joined_gives FixedWidth qs e = absurd (false≢true e)
    joined_gives VariableSize qs e = absurd (false≢true e)
    joined_gives View qs e = absurd (false≢true e)
    joined_gives Lists qs e = absurd (false≢true e)
    joined_gives ListView qs e = absurd (false≢true e)
    joined_gives FixedList qs e = absurd (false≢true e)
    joined_gives Struct qs e =
        let many : count qs ≡ child_count s p = eqb-true _ _ (and_left _ _ e) in
        and_true _ _ (each_passes (is_row d s) (first_child s p) qs (and_right (eqb (count qs) (child_count s p)) _ e) i (omega arith)) refl
    joined_gives DenseUnion qs e = absurd (false≢true e)
    joined_gives SparseUnion qs e = absurd (false≢true e)
    joined_gives Dictionary qs e = absurd (false≢true e)
    joined_gives Runs qs e = absurd (false≢true e)

    counted_gives : (l : Layout) → layout_of (code_of s p) ≡ l → (qs : Rows) → is_value l (is_row d s) s p (counted qs) ≡ true → all_rows (is_row d s (first_child s p + i)) qs ≡ true
    counted_gives Null l qs e = absurd (false≢true e)
    counted_gives Boolean l qs e = absurd (false≢true e)
    counted_gives FixedWidth l qs e = absurd (false≢true e)
    counted_gives VariableSize l qs e = absurd (false≢true e)
    counted_gives View l qs e = absurd (false≢true e)
    counted_gives Lists l qs e =
        let single : child_count s p ≡ 1 = (image.node p node).tree.exactly 1 (rw l) in
        let only : first_child s p + i ≡ first_child s p = omega arith in
        rw only (and_right (ltb (count qs) 4294967296) _ e)
    counted_gives ListView l qs e = absurd (false≢true e)
    counted_gives FixedList l qs e = absurd (false≢true e)
    counted_gives Struct l qs e = absurd (false≢true e)
    counted_gives DenseUnion l qs e = absurd (false≢true e)
    counted_gives SparseUnion l qs e = absurd (false≢true e)
    counted_gives Dictionary l qs e = absurd (false≢true e)
    counted_gives Runs l qs e = absurd (false≢true e)

    row_gives_lem : (r : Row) → is_row (suc d) s p r ≡ true → all_rows (is_row d s (first_child s p + i)) (rows_to_child under i r) ≡ true
    unfolding is_row all_rows
    row_gives_lem null e = fits
    row_gives_lem (fixed b) e = refl
    row_gives_lem (sized b) e = refl
    row_gives_lem (joined qs) e = joined_gives (layout_of (code_of s p)) qs e
    row_gives_lem (counted qs) e = counted_gives (layout_of (code_of s p)) refl qs e
    row_gives_lem (tagged id r) e = refl

  -- a child's rows
  pub child_typed : (d p i : ℕ) → 0 < d → p < node_count s → i < child_count s p → first_child s p + i < node_count s
      → all_rows (is_row (suc d) s p) (column s rs p) ≡ true → all_rows (is_row d s (first_child s p + i)) (column s rs (first_child s p + i)) ≡ true
  child_typed d p i some node few there e =
      let under = under_fits d s p (first_child s p + i) some (coded_at (first_child s p + i) there) in
      rw (column_child s image rs p i node few)
      (all_from (is_row (suc d) s p) (is_row d s (first_child s p + i)) (rows_to_child (under_null s p (first_child s p + i)) i)
      (row_gives_lem d p i node few (under_null s p (first_child s p + i)) under) (column s rs p) e)

-- The rows of every node.

-- the rows of node k are rows that it can have, at the depth that is left there
pub record NodeTyped (s : List ℕ) (rs : Rows) (k : ℕ) : Type 0 where
  pub left : ℕ
  pub level : ℕ
  pub depth : suc left + level ≡ 16
  pub past : level_end s level ≤ k
  pub typed : all_rows (is_row (suc left) s k) (column s rs k) ≡ true

-- a node that lies past level e has depth left
pub deep : (s : List ℕ) → AcceptedImage s → (d e k : ℕ) → d + e ≡ 16 → level_end s e ≤ k → k < node_count s → 0 < d
deep s image zero e k sum past node =
    let last : e ≡ 16 = omega arith in
    let low : level_end s 16 ≤ k = rw last at past in
    absurd (omega (arith, (image.node k node).tree.shallow))
deep s image (suc d) e k sum past node = omega arith

module _ (s : List ℕ) (image : AcceptedImage s) (coded : readable s ≡ true) (rs : Rows) (root : all_rows (is_row 16 s 0) rs ≡ true) where
  root_typed : NodeTyped s rs 0
  unfolding level_end
  root_typed = record { left = 15; level = 0; depth = refl; past = omega arith; typed = rw (column_root s rs) root }

  -- from its parent's rows
  from_parent : (k : ℕ) → 0 < k → k < node_count s → NodeTyped s rs (parent_of s k) → NodeTyped s rs k
  unfolding child_end
  from_parent k pos lt parent =
      let before = parent_before s image k lt pos in
      let starts = parent_starts s image k lt pos in
      let ends = parent_ends s image k lt pos in
      let node : parent_of s k < node_count s = omega arith in
      let is : first_child s (parent_of s k) + (k - first_child s (parent_of s k)) ≡ k = omega arith in
      let low : level_end s (suc parent.level) ≤ k = omega (arith, level_below s parent.level (parent_of s k) parent.past, (image.node (parent_of s k) node).tree.numbered) in
      let some : 0 < parent.left = deep s image parent.left (suc parent.level) k (omega (arith, parent.depth)) low lt in
      let child = child_typed s image coded rs parent.left (parent_of s k) (k - first_child s (parent_of s k)) some node (omega arith) (rw is lt) parent.typed in
      let same : suc (parent.left - 1) ≡ parent.left = omega arith in
      record { left = parent.left - 1; level = suc parent.level; depth = omega (arith, parent.depth); past = low; typed = rw same (rw is at child) }

  typed_below : (m k : ℕ) → k ≤ m → k < node_count s → NodeTyped s rs k
  typed_below zero k le lt =
      let e : k ≡ 0 = omega arith in
      subst (NodeTyped s rs) (sym e) root_typed
  typed_below (suc m) k le lt = cases (eq-zero-or-pos k) (λ p small node. typed_below m p small node)
    where
      cases : (k ≡ 0) ⊎ (0 < k) → ((p : ℕ) → p ≤ m → p < node_count s → NodeTyped s rs p) → NodeTyped s rs k
      cases (inl e) earlier = subst (NodeTyped s rs) (sym e) root_typed
      cases (inr pos) earlier =
          let before = parent_before s image k lt pos in
          from_parent k pos lt (earlier (parent_of s k) (omega arith) (omega arith))

  pub node_typed : (k : ℕ) → k < node_count s → NodeTyped s rs k
  node_typed k lt = typed_below k k (omega arith) lt
