-- The rows of each node in the order in which a walk over the string meets them: what a row of node k gives node j, itself
-- and through the rows below it. The columns of the definition are these.
-- A row gives a node's child what it gives the node, child by child; only the parent's rows give the child something.
use mathlib.Core.Path.{◌≡◌, refl, sym, ap, subst, ◌∙◌}
use mathlib.Core.Bool.{Bool, true, false, cond, false≢true}
use mathlib.Core.List.{List}
use mathlib.Core.Logic.{◌⊎◌, inl, inr}
use Prim.Native.Nat.{ℕ, zero, suc, ◌+◌, ◌-◌, ◌≤◌, ◌<◌}
use native.Mathlib.Nat.{add-zero, eq-or-lt_of_le, eq-zero-or-pos}
use native.Mathlib.Omega.{arith}
use lib.Dec.{eqb, ltb}
use borrow.Author.Tests.{eqb-true, eq-eqb, ne_eqb, ltb-true, ltb-false}
use Rattle.image.specs.declared.type_code.Layout.{Layout}
use Rattle.image.specs.declared.type_code.Layout.TheVariants.{Null, Boolean, FixedWidth, VariableSize, View, List as Lists, ListView, FixedList, Struct, DenseUnion, SparseUnion, Dictionary, Runs}
use Rattle.image.specs.Record.{node_count, code_of, first_child, child_count}
use Rattle.image.specs.TypeCode.{layout_of}
use Rattle.image.specs.Element.{child_end}
use Rattle.image.specs.Faults.{level_end}
use Rattle.image.specs.Row.{Row, Rows, null, fixed, sized, joined, counted, tagged, none, more, one, rows_then}
use Rattle.image.specs.RowBytes.{count}
use Rattle.image.proofs.Bools.{and_left, and_right}
use Rattle.laws.specs.Accepted.{AcceptedImage}
use Rattle.laws.proofs.Fuel.{level_below}
use Rattle.image.specs.Parse.{readable}
use Rattle.image.specs.Built.{from_each, nth, gap_row, rows_to_child, under_null, parent_of, column}
use Rattle.built.specs.Walk.{over_nodes, over_each, deeper, gives}
use Rattle.built.specs.Typed.{all_rows, each_row, is_value, is_row}
use Rattle.built.proofs.Columns.{column_child, column_root, parent_is, parent_before, parent_starts, parent_ends}
use Rattle.built.proofs.TypedColumns.{each_passes, coded_at, gap_fits, deep}

-- rows, then no rows; rows in three parts
pub then_none : (rs : Rows) → rows_then rs none ≡ rs
unfolding rows_then
then_none none = refl
then_none (more r rs) = ap (more r) (then_none rs)

pub then_assoc : (a b c : Rows) → rows_then (rows_then a b) c ≡ rows_then a (rows_then b c)
unfolding rows_then
then_assoc none b c = refl
then_assoc (more r a) b c = ap (more r) (then_assoc a b c)

-- rows from rows that are joined
from_join : (f : Row → Rows) (rs qs : Rows) → from_each f (rows_then rs qs) ≡ rows_then (from_each f rs) (from_each f qs)
unfolding from_each rows_then
from_join f none qs = refl
from_join f (more r rs) qs = rw (from_join f rs qs) (sym (then_assoc (f r) (from_each f rs) (from_each f qs)))

from_none : (rs : Rows) → from_each (λ r. none) rs ≡ none
unfolding from_each rows_then
from_none none = refl
from_none (more r rs) = from_none rs

from_same : (f g : Row → Rows) (t : Row → Bool) → ((r : Row) → t r ≡ true → f r ≡ g r) → (rs : Rows) → all_rows t rs ≡ true → from_each f rs ≡ from_each g rs
unfolding from_each all_rows
from_same f g t same none e = refl
from_same f g t same (more r rs) e = rw (same r (and_left _ _ e), from_same f g t same rs (and_right (t r) _ e))

from_itself : (rs : Rows) → from_each one rs ≡ rs
unfolding from_each rows_then
from_itself none = refl
from_itself (more r rs) = ap (more r) (from_itself rs)

from_twice : (f g : Row → Rows) (rs : Rows) → from_each g (from_each f rs) ≡ from_each (λ r. from_each g (f r)) rs
unfolding from_each
from_twice f g none = refl
from_twice f g (more r rs) = from_join g (f r) (from_each f rs) ∙ rw (from_twice f g rs)

nodes_map : (f : Row → Rows) (g h : ℕ → Rows) (c n : ℕ) → ((i : ℕ) → i < n → h (c + i) ≡ from_each f (g (c + i))) → over_nodes h c n ≡ from_each f (over_nodes g c n)
unfolding over_nodes from_each
nodes_map f g h c zero same = refl
nodes_map f g h c (suc n) same =
    let here : h c ≡ from_each f (g c) = rw (add-zero c) at (same 0 (omega arith)) in
    let rest = nodes_map f g h (suc c) n (λ i lt.
    let e : suc c + i ≡ c + suc i = omega arith in
    rw e (same (suc i) (omega arith))) in
    rw (here, rest) (sym (from_join f (g c) (over_nodes g (suc c) n)))

each_map : (f : Row → Rows) (g h : ℕ → Row → Rows) (c : ℕ) (rs : Rows) → ((i : ℕ) → i < count rs → h (c + i) (nth rs i) ≡ from_each f (g (c + i) (nth rs i))) → over_each h c rs ≡ from_each f (over_each g c rs)
unfolding over_each from_each count nth
each_map f g h c none same = refl
each_map f g h c (more r rs) same =
    let here : h c r ≡ from_each f (g c r) = rw (add-zero c) at (same 0 (omega arith)) in
    let rest = each_map f g h (suc c) rs (λ i lt.
    let e : suc c + i ≡ c + suc i = omega arith in
    rw e (same (suc i) (omega arith))) in
    rw (here, rest) (sym (from_join f (g c r) (over_each g (suc c) rs)))

-- only one of them gives something
nodes_none : (g : ℕ → Rows) (c n : ℕ) → ((i : ℕ) → i < n → g (c + i) ≡ none) → over_nodes g c n ≡ none
nodes_none g c n same = nodes_map (λ r. none) g g c n (λ i lt. same i lt ∙ sym (from_none (g (c + i)))) ∙ from_none (over_nodes g c n)

nodes_only : (g : ℕ → Rows) (x : Rows) (c n i : ℕ) → i < n → g (c + i) ≡ x → ((m : ℕ) → m < n → (m ≡ i → ⊥) → g (c + m) ≡ none) → over_nodes g c n ≡ x
unfolding over_nodes rows_then
nodes_only g x c zero i lt here others = absurd (omega arith)
nodes_only g x c (suc n) zero lt here others =
    let first : g c ≡ x = rw (add-zero c) at here in
    let rest : over_nodes g (suc c) n ≡ none = nodes_none g (suc c) n (λ m few.
    let e : suc c + m ≡ c + suc m = omega arith in
    rw e (others (suc m) (omega arith) (λ q. omega arith))) in
    rw (first, rest) (then_none x)
nodes_only g x c (suc n) (suc i) lt here others =
    let first : g c ≡ none = rw (add-zero c) at (others 0 (omega arith) (λ q. omega arith)) in
    let e : c + suc i ≡ suc c + i = omega arith in
    rw first (nodes_only g x (suc c) n i (omega arith) (rw e at here) (λ m few differ.
    let p : suc c + m ≡ c + suc m = omega arith in
    rw p (others (suc m) (omega arith) (λ q. differ (omega arith)))))

each_none : (g : ℕ → Row → Rows) (c : ℕ) (rs : Rows) → ((i : ℕ) → i < count rs → g (c + i) (nth rs i) ≡ none) → over_each g c rs ≡ none
each_none g c rs same = each_map (λ r. none) g g c rs (λ i lt. same i lt ∙ sym (from_none (g (c + i) (nth rs i)))) ∙ from_none (over_each g c rs)

each_only : (g : ℕ → Row → Rows) (x : Rows) (c : ℕ) (rs : Rows) (i : ℕ) → i < count rs → g (c + i) (nth rs i) ≡ x
    → ((m : ℕ) → m < count rs → (m ≡ i → ⊥) → g (c + m) (nth rs m) ≡ none) → over_each g c rs ≡ x
unfolding over_each rows_then count nth
each_only g x c none i lt here others = absurd (omega arith)
each_only g x c (more r rs) zero lt here others =
    let first : g c r ≡ x = rw (add-zero c) at here in
    let rest : over_each g (suc c) rs ≡ none = each_none g (suc c) rs (λ m few.
    let e : suc c + m ≡ c + suc m = omega arith in
    rw e (others (suc m) (omega arith) (λ q. omega arith))) in
    rw (first, rest) (then_none x)
each_only g x c (more r rs) (suc i) lt here others =
    let first : g c r ≡ none = rw (add-zero c) at (others 0 (omega arith) (λ q. omega arith)) in
    let e : c + suc i ≡ suc c + i = omega arith in
    rw first (each_only g x (suc c) rs i (omega arith) (rw e at here) (λ m few differ.
    let p : suc c + m ≡ c + suc m = omega arith in
    rw p (others (suc m) (omega arith) (λ q. differ (omega arith)))))

-- what the test of a row says of the rows below it
joined_typed : (l : Layout) (sub : ℕ → Row → Bool) (s : List ℕ) (k : ℕ) (qs : Rows) → is_value l sub s k (joined qs) ≡ true → (count qs ≡ child_count s k) × (each_row sub (first_child s k) qs ≡ true)
joined_typed Null sub s k qs e = absurd (false≢true e)
joined_typed Boolean sub s k qs e = absurd (false≢true e)
joined_typed FixedWidth sub s k qs e = absurd (false≢true e)
joined_typed VariableSize sub s k qs e = absurd (false≢true e)
joined_typed View sub s k qs e = absurd (false≢true e)
joined_typed Lists sub s k qs e = absurd (false≢true e)
joined_typed ListView sub s k qs e = absurd (false≢true e)
joined_typed FixedList sub s k qs e = absurd (false≢true e)
joined_typed Struct sub s k qs e = (eqb-true _ _ (and_left _ _ e), and_right (eqb (count qs) (child_count s k)) _ e)
joined_typed DenseUnion sub s k qs e = absurd (false≢true e)
joined_typed SparseUnion sub s k qs e = absurd (false≢true e)
joined_typed Dictionary sub s k qs e = absurd (false≢true e)
joined_typed Runs sub s k qs e = absurd (false≢true e)

counted_typed : (l : Layout) (sub : ℕ → Row → Bool) (s : List ℕ) (k : ℕ) (qs : Rows) → is_value l sub s k (counted qs) ≡ true → (l ≡ Lists) × (all_rows (sub (first_child s k)) qs ≡ true)
counted_typed Null sub s k qs e = absurd (false≢true e)
counted_typed Boolean sub s k qs e = absurd (false≢true e)
counted_typed FixedWidth sub s k qs e = absurd (false≢true e)
counted_typed VariableSize sub s k qs e = absurd (false≢true e)
counted_typed View sub s k qs e = absurd (false≢true e)
counted_typed Lists sub s k qs e = (refl, and_right (ltb (count qs) 4294967296) _ e)
counted_typed ListView sub s k qs e = absurd (false≢true e)
counted_typed FixedList sub s k qs e = absurd (false≢true e)
counted_typed Struct sub s k qs e = absurd (false≢true e)
counted_typed DenseUnion sub s k qs e = absurd (false≢true e)
counted_typed SparseUnion sub s k qs e = absurd (false≢true e)
counted_typed Dictionary sub s k qs e = absurd (false≢true e)
counted_typed Runs sub s k qs e = absurd (false≢true e)

module _ (s : List ℕ) (image : AcceptedImage s) (readable-all : readable s ≡ true) where
  -- a row of the node, where depth is left
  abbrev Good : ℕ → ℕ → Row → Type 0
  Good d k r = 0 < d → is_row d s k r ≡ true

  gap_good : (d k : ℕ) → k < node_count s → Good d k (gap_row s k)
  unfolding is_row
  gap_good zero k lt some = absurd (omega arith)
  gap_good (suc d) k lt some = gap_fits (layout_of (code_of s k)) (is_row d s) s k refl (coded_at s image readable-all none k lt)

  child_node : (k i : ℕ) → k < node_count s → i < child_count s k → first_child s k + i < node_count s
  unfolding child_end
  child_node k i lt few = omega (arith, (image.node k lt).tree.ends)

  -- all that is below a row, mapped
  deeper_map : (f : Row → Rows) (g h : ℕ → Row → Rows) (d k : ℕ) → k < node_count s → (r : Row) → is_row (suc d) s k r ≡ true
      → ((i : ℕ) → i < child_count s k → (q : Row) → Good d (first_child s k + i) q → h (first_child s k + i) q ≡ from_each f (g (first_child s k + i) q))
      → deeper h s k r ≡ from_each f (deeper g s k r)
  unfolding from_each is_row
  deeper_map f g h d k lt null e same = cases (eqb (code_of s k) 38)
    where
      cases : (b : Bool) → cond b (over_nodes (λ c. h c (gap_row s c)) (first_child s k) (child_count s k)) none ≡ from_each f (cond b (over_nodes (λ c. g c (gap_row s c)) (first_child s k) (child_count s k)) none)
      cases true =
          nodes_map f (λ c. g c (gap_row s c)) (λ c. h c (gap_row s c)) (first_child s k) (child_count s k)
          (λ i few. same i few (gap_row s (first_child s k + i)) (gap_good d (first_child s k + i) (child_node k i lt few)))
      cases false = refl
  deeper_map f g h d k lt (fixed b) e same = refl
  deeper_map f g h d k lt (sized b) e same = refl
  deeper_map f g h d k lt (joined qs) e same =
      let t = joined_typed (layout_of (code_of s k)) (is_row d s) s k qs e in
      each_map f g h (first_child s k) qs (λ i few. same i (omega (arith, t.0)) (nth qs i) (λ some. each_passes (is_row d s) (first_child s k) qs t.1 i few))
  deeper_map f g h d k lt (counted qs) e same =
      let t = counted_typed (layout_of (code_of s k)) (is_row d s) s k qs e in
      let single : 0 < child_count s k = omega (arith, (image.node k lt).tree.exactly 1 (rw t.0)) in
      from_same (h (first_child s k)) (λ r. from_each f (g (first_child s k) r)) (is_row d s (first_child s k))
      (λ r fits.
      let first : is_row d s (first_child s k + 0) r ≡ true = rw (add-zero (first_child s k)) fits in
      rw (add-zero (first_child s k)) at (same 0 single r (λ some. first))) qs t.1
      ∙ sym (from_twice (g (first_child s k)) f qs)
  deeper_map f g h d k lt (tagged id r) e same = refl

  deeper_none : (g : ℕ → Row → Rows) (d k : ℕ) → k < node_count s → (r : Row) → is_row (suc d) s k r ≡ true
      → ((i : ℕ) → i < child_count s k → (q : Row) → Good d (first_child s k + i) q → g (first_child s k + i) q ≡ none) → deeper g s k r ≡ none
  deeper_none g d k lt r e same =
      deeper_map (λ q. none) g g d k lt r e (λ i few q good. same i few q good ∙ sym (from_none (g (first_child s k + i) q))) ∙ from_none (deeper g s k r)

  -- nothing goes to an earlier node
  none_earlier : (d k : ℕ) → k < node_count s → (r : Row) → Good d k r → (j : ℕ) → j < k → gives d s k r j ≡ none
  unfolding gives rows_then
  none_earlier zero k lt r good j less = refl
  none_earlier (suc d) k lt r good j less =
      rw (ne_eqb k j (λ e. omega arith))
      (deeper_none (λ c q. gives d s c q j) d k lt r (good (omega arith))
      (λ i few q fits. none_earlier d (first_child s k + i) (child_node k i lt few) q fits j (omega (arith, (image.node k lt).tree.below))))

  -- a row goes to its own node once
  itself : (d k : ℕ) → k < node_count s → (r : Row) → is_row (suc d) s k r ≡ true → gives (suc d) s k r k ≡ one r
  unfolding gives rows_then
  itself d k lt r e =
      rw (
        eq-eqb k k refl,
        deeper_none (λ c q. gives d s c q k) d k lt r e (λ i few q fits. none_earlier d (first_child s k + i) (child_node k i lt few) q fits k (omega (arith, (image.node k lt).tree.below))),
      )

  -- child i of node p
  module _ (p i : ℕ) (node : p < node_count s) (few : i < child_count s p) where
    -- nothing goes to it from a later node than its parent
    none_later : (d k : ℕ) → k < node_count s → p < k → (k ≡ first_child s p + i → ⊥) → (r : Row) → Good d k r → gives d s k r (first_child s p + i) ≡ none
    unfolding gives rows_then
    none_later zero k lt later differ r good = refl
    none_later (suc d) k lt later differ r good =
        rw (ne_eqb k (first_child s p + i) differ)
        (deeper_none (λ c q. gives d s c q (first_child s p + i)) d k lt r (good (omega arith))
        (λ m less q fits. none_later d (first_child s k + m) (child_node k m lt less) (omega (arith, (image.node k lt).tree.below))
        (λ e. omega (arith, sym (parent_is s image k m lt less) ∙ ap (parent_of s) e ∙ parent_is s image p i node few)) q fits))

    -- what a row of its parent gives it
    from_own : (d : ℕ) (r : Row) → is_row (suc (suc d)) s p r ≡ true → deeper (λ c q. gives (suc d) s c q (first_child s p + i)) s p r ≡ rows_to_child (under_null s p (first_child s p + i)) i r
    unfolding under_null is_row
    from_own d null e = cases (eqb (code_of s p) 38)
      where
        child : first_child s p + i < node_count s
        child = child_node p i node few

        cases : (b : Bool) → cond b (over_nodes (λ c. gives (suc d) s c (gap_row s c) (first_child s p + i)) (first_child s p) (child_count s p)) none ≡ cond b (one (gap_row s (first_child s p + i))) none
        cases true =
            nodes_only (λ c. gives (suc d) s c (gap_row s c) (first_child s p + i)) (one (gap_row s (first_child s p + i))) (first_child s p) (child_count s p) i few
            (itself d (first_child s p + i) child (gap_row s (first_child s p + i)) (gap_good (suc d) (first_child s p + i) child (omega arith)))
            (λ m less differ. none_later (suc d) (first_child s p + m) (child_node p m node less) (omega (arith, (image.node p node).tree.below)) (λ q. differ (omega arith)) (gap_row s (first_child s p + m)) (gap_good (suc d) (first_child s p + m) (child_node p m node less)))
        cases false = refl
    from_own d (fixed b) e = refl
    from_own d (sized b) e = refl
    from_own d (joined qs) e =
        let t = joined_typed (layout_of (code_of s p)) (is_row (suc d) s) s p qs e in
        each_only (λ c q. gives (suc d) s c q (first_child s p + i)) (one (nth qs i)) (first_child s p) qs i (omega (arith, t.0))
        (itself d (first_child s p + i) (child_node p i node few) (nth qs i) (each_passes (is_row (suc d) s) (first_child s p) qs t.1 i (omega (arith, t.0))))
        (λ m less differ. none_later (suc d) (first_child s p + m) (child_node p m node (omega (arith, t.0))) (omega (arith, (image.node p node).tree.below)) (λ q. differ (omega arith)) (nth qs m)
        (λ some. each_passes (is_row (suc d) s) (first_child s p) qs t.1 m less))
    from_own d (counted qs) e =
        let t = counted_typed (layout_of (code_of s p)) (is_row (suc d) s) s p qs e in
        let single : child_count s p ≡ 1 = (image.node p node).tree.exactly 1 (rw t.0) in
        let only : first_child s p + i ≡ first_child s p = omega arith in
        rw only
        (from_same (λ q. gives (suc d) s (first_child s p) q (first_child s p)) one (is_row (suc d) s (first_child s p))
        (λ q fits. itself d (first_child s p) (rw only at (child_node p i node few)) q fits) qs t.1
        ∙ from_itself qs)
    from_own d (tagged id r) e = refl

    level_child : (e k m : ℕ) → level_end s e ≤ k → k < node_count s → level_end s (suc e) ≤ first_child s k + m
    level_child e k m past lt = omega (arith, level_below s e k past, (image.node k lt).tree.numbered)

    -- what a row of its parent gives it, as a whole
    from_parent : (d e : ℕ) → suc d + e ≡ 16 → level_end s e ≤ p → (r : Row) → is_row (suc d) s p r ≡ true
        → gives (suc d) s p r (first_child s p + i) ≡ from_each (rows_to_child (under_null s p (first_child s p + i)) i) (gives (suc d) s p r p)
    unfolding gives rows_then from_each
    from_parent zero e sum past r typed =
        absurd (omega (arith, deep s image 0 (suc e) (first_child s p + i) (omega arith) (level_child e p i past node) (child_node p i node few)))
    from_parent (suc d) e sum past r typed =
        rw (itself (suc d) p node r typed, ne_eqb p (first_child s p + i) (λ q. omega (arith, (image.node p node).tree.below)), from_own d r typed)
        (sym (then_none (rows_to_child (under_null s p (first_child s p + i)) i r)))

    -- of an earlier node than the parent: by the rows below
    below_parent : (d k : ℕ) → k < node_count s → k < p → (r : Row) → is_row (suc d) s k r ≡ true
        → ((m : ℕ) → m < child_count s k → first_child s k + m ≤ p → (q : Row) → Good d (first_child s k + m) q → gives d s (first_child s k + m) q (first_child s p + i) ≡ from_each (rows_to_child (under_null s p (first_child s p + i)) i) (gives d s (first_child s k + m) q p))
        → gives (suc d) s k r (first_child s p + i) ≡ from_each (rows_to_child (under_null s p (first_child s p + i)) i) (gives (suc d) s k r p)
    unfolding gives rows_then from_each
    below_parent d k lt less r typed below =
        rw (ne_eqb k (first_child s p + i) (λ q. omega (arith, (image.node p node).tree.below)), ne_eqb k p (λ q. omega arith))
        (deeper_map (rows_to_child (under_null s p (first_child s p + i)) i) (λ c q. gives d s c q p) (λ c q. gives d s c q (first_child s p + i)) d k lt r typed
        (λ m few-k q fits. cases m few-k q fits (ltb p (first_child s k + m)) refl))
      where
        cases : (m : ℕ) → m < child_count s k → (q : Row) → Good d (first_child s k + m) q → (b : Bool) → ltb p (first_child s k + m) ≡ b
            → gives d s (first_child s k + m) q (first_child s p + i) ≡ from_each (rows_to_child (under_null s p (first_child s p + i)) i) (gives d s (first_child s k + m) q p)
        cases m few-k q fits false t = below m few-k (ltb-false p (first_child s k + m) t) q fits
        cases m few-k q fits true t =
            let later : p < first_child s k + m = ltb-true p (first_child s k + m) t in
            let child = child_node k m lt few-k in
            let nothing = none_earlier d (first_child s k + m) child q fits p later in
            none_later d (first_child s k + m) child later (λ e. omega (arith, sym (parent_is s image k m lt few-k) ∙ ap (parent_of s) e ∙ parent_is s image p i node few)) q fits
            ∙ ap (from_each (rows_to_child (under_null s p (first_child s p + i)) i)) (sym nothing)

    -- what any row gives it is what its parent's rows give it
    through : (d e : ℕ) → d + e ≡ 16 → (k : ℕ) → level_end s e ≤ k → k < node_count s → k ≤ p → (r : Row) → is_row d s k r ≡ true
        → gives d s k r (first_child s p + i) ≡ from_each (rows_to_child (under_null s p (first_child s p + i)) i) (gives d s k r p)
    through zero e sum k past lt le r typed = absurd (omega (arith, deep s image 0 e k sum past lt))
    through (suc d) e sum k past lt le r typed =
        cases (eq-or-lt_of_le le)
        (λ m less c-le q fits. through d (suc e) (omega arith) (first_child s k + m) (level_child e k m past lt) (child_node k m lt less) c-le q (fits (deep s image d (suc e) (first_child s k + m) (omega arith) (level_child e k m past lt) (child_node k m lt less))))
      where
        cases : (k ≡ p) ⊎ (k < p)
            → ((m : ℕ) → m < child_count s k → first_child s k + m ≤ p → (q : Row) → Good d (first_child s k + m) q → gives d s (first_child s k + m) q (first_child s p + i) ≡ from_each (rows_to_child (under_null s p (first_child s p + i)) i) (gives d s (first_child s k + m) q p))
            → gives (suc d) s k r (first_child s p + i) ≡ from_each (rows_to_child (under_null s p (first_child s p + i)) i) (gives (suc d) s k r p)
        cases (inl is) below = rw is (from_parent d e sum (rw is at past) r (rw is at typed))
        cases (inr less) below = below_parent d k lt less r typed below

  -- the columns are what the rows of the root give
  module _ (rs : Rows) (typed : all_rows (is_row 16 s 0) rs ≡ true) where
    Given : ℕ → Type 0
    Given j = column s rs j ≡ from_each (λ r. gives 16 s 0 r j) rs

    root_given : Given 0
    unfolding Given
    root_given =
        let some : 0 < node_count s = omega (arith, image.tables.some_nodes) in
        column_root s rs ∙ sym (from_same (λ r. gives 16 s 0 r 0) one (is_row 16 s 0) (λ r fits. itself 15 0 some r fits) rs typed ∙ from_itself rs)

    child_given : (p i : ℕ) → p < node_count s → i < child_count s p → Given p → Given (first_child s p + i)
    unfolding Given level_end
    child_given p i node few h =
        let f = rows_to_child (under_null s p (first_child s p + i)) i in
        column_child s image rs p i node few
        ∙ ap (from_each (rows_to_child (under_null s p (first_child s p + i)) i)) h
        ∙ from_twice (λ r. gives 16 s 0 r p) (rows_to_child (under_null s p (first_child s p + i)) i) rs
        ∙ sym (from_same (λ r. gives 16 s 0 r (first_child s p + i)) (λ r. from_each (rows_to_child (under_null s p (first_child s p + i)) i) (gives 16 s 0 r p)) (is_row 16 s 0)
        (λ r fits. through p i node few 16 0 refl 0 (omega arith) (omega (arith, image.tables.some_nodes)) (omega arith) r fits) rs typed)

    given_below : (m j : ℕ) → j ≤ m → j < node_count s → Given j
    unfolding child_end
    given_below zero j le lt =
        let e : j ≡ 0 = omega arith in
        subst Given (sym e) root_given
    given_below (suc m) j le lt = cases (eq-zero-or-pos j) (λ p small node. given_below m p small node)
      where
        cases : (j ≡ 0) ⊎ (0 < j) → ((p : ℕ) → p ≤ m → p < node_count s → Given p) → Given j
        cases (inl e) earlier = subst Given (sym e) root_given
        cases (inr some) earlier =
            let before = parent_before s image j lt some in
            let starts = parent_starts s image j lt some in
            let ends = parent_ends s image j lt some in
            let is : first_child s (parent_of s j) + (j - first_child s (parent_of s j)) ≡ j = omega arith in
            subst Given is (child_given (parent_of s j) (j - first_child s (parent_of s j)) (omega arith) (omega arith) (earlier (parent_of s j) (omega arith) (omega arith)))

    pub columns_given : (j : ℕ) → j < node_count s → column s rs j ≡ from_each (λ r. gives 16 s 0 r j) rs
    unfolding Given
    columns_given j lt = given_below j j (omega arith) lt
