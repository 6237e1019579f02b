-- What a row adds to the span of a node, by the kind of row.
-- A row's own span and what the rows below it add are summed; under a null nothing is added.
use mathlib.Core.Path.{◌≡◌, refl, sym, ◌∙◌}
use mathlib.Core.Bool.{Bool, true, false, cond}
use mathlib.Core.List.{List, []}
use Prim.Native.Nat.{ℕ, zero, suc, ◌+◌}
use native.Mathlib.Nat.{zero-add, add-zero}
use native.Mathlib.Omega.{arith}
use lib.Dec.{eqb}
use lib.ListN.{length}
use Rattle.image.specs.Record.{code_of, first_child, child_count}
use Rattle.image.specs.TypeCode.{layout_of, takes_bitmap}
use Rattle.image.specs.Row.{Row, Rows, null, fixed, sized, joined, counted, none, more, one, rows_then}
use Rattle.image.specs.Built.{from_each, gap_row, span}
use Rattle.built.specs.Walk.{over_nodes, over_each, gives, total}
use Rattle.parse.specs.Scan.{row_adds, rows_add, each_adds, sized_adds, counted_adds}

total_join : (a b : Rows) → total (rows_then a b) ≡ total a + total b
unfolding total rows_then
total_join none b = sym (zero-add (total b))
total_join (more r a) b =
    let e = total_join a b in
    omega arith

-- a row's own span, where the node is its own, and what the rest adds
own_total : (t : Bool) (r : Row) (rest : Rows) → total (rows_then (cond t (one r) none) rest) ≡ cond t (span r) 0 + total rest
unfolding total rows_then
own_total true r rest = refl
own_total false r rest = sym (zero-add (total rest))

same_either : (t : Bool) → ◌≡◌ {A = ℕ} (cond t 0 0) 0
same_either true = refl
same_either false = refl

-- a row that has no span of its own
own_none : (t : Bool) (r : Row) (rest : Rows) → span r ≡ 0 → total (rows_then (cond t (one r) none) rest) ≡ total rest
own_none t r rest e = own_total t r rest ∙ rw (e, same_either t) (zero-add (total rest))

pub fixed_adds : (d : ℕ) (s : List ℕ) (k : ℕ) (x : List ℕ) (j : ℕ) → row_adds d s k (fixed x) j ≡ 0
unfolding row_adds gives total
fixed_adds zero s k x j = refl
fixed_adds (suc d) s k x j = own_none (eqb k j) (fixed x) none refl

nodes_add : (f : ℕ → Rows) → ((c : ℕ) → total (f c) ≡ 0) → (c n : ℕ) → total (over_nodes f c n) ≡ 0
unfolding over_nodes total
nodes_add f zeros c zero = refl
nodes_add f zeros c (suc n) = total_join (f c) (over_nodes f (suc c) n) ∙ rw (zeros c, nodes_add f zeros (suc c) n)

-- a row under a null
gap_adds : (d : ℕ) (s : List ℕ) (k j : ℕ) (t : Bool) → row_adds d s k null j ≡ 0 → row_adds d s k (cond t null (fixed [])) j ≡ 0
gap_adds d s k j true e = e
gap_adds d s k j false e = fixed_adds d s k [] j

pub null_adds : (d : ℕ) (s : List ℕ) (k j : ℕ) → row_adds d s k null j ≡ 0
unfolding row_adds gives total
null_adds zero s k j = refl
null_adds (suc d) s k j =
    own_none (eqb k j) null (cond (eqb (code_of s k) 38) (over_nodes (λ c. gives d s c (gap_row s c) j) (first_child s k) (child_count s k)) none) refl
    ∙ below (eqb (code_of s k) 38) (λ c. gap_adds d s c j (takes_bitmap (layout_of (code_of s c))) (null_adds d s c j))
  where
    below : (t : Bool) → ((c : ℕ) → row_adds d s c (gap_row s c) j ≡ 0) → total (cond t (over_nodes (λ c. gives d s c (gap_row s c) j) (first_child s k) (child_count s k)) none) ≡ 0
    below true gaps = nodes_add (λ c. gives d s c (gap_row s c) j) gaps (first_child s k) (child_count s k)
    below false gaps = refl

pub sized_adds_lem : (d : ℕ) (s : List ℕ) (k : ℕ) (x : List ℕ) (j : ℕ) → row_adds (suc d) s k (sized x) j ≡ sized_adds k x j
unfolding row_adds gives total sized_adds
sized_adds_lem d s k x j = own_total (eqb k j) (sized x) none ∙ add-zero (cond (eqb k j) (length x) 0)

pub counted_adds_lem : (d : ℕ) (s : List ℕ) (k : ℕ) (rs : Rows) (j : ℕ) → row_adds (suc d) s k (counted rs) j ≡ counted_adds d s k rs j
unfolding row_adds gives counted_adds rows_add
counted_adds_lem d s k rs j = own_total (eqb k j) (counted rs) (from_each (λ r. gives d s (first_child s k) r j) rs)

pub joined_adds_lem : (d : ℕ) (s : List ℕ) (k : ℕ) (rs : Rows) (j : ℕ) → row_adds (suc d) s k (joined rs) j ≡ each_adds d s (first_child s k) rs j
unfolding row_adds gives each_adds
joined_adds_lem d s k rs j = own_none (eqb k j) (joined rs) (over_each (λ c r. gives d s c r j) (first_child s k) rs) refl

pub no_rows_add : (d : ℕ) (s : List ℕ) (k j : ℕ) → rows_add d s k none j ≡ 0
unfolding rows_add from_each total
no_rows_add d s k j = refl

pub more_rows_add : (d : ℕ) (s : List ℕ) (k : ℕ) (r : Row) (rs : Rows) (j : ℕ) → rows_add d s k (more r rs) j ≡ row_adds d s k r j + rows_add d s k rs j
unfolding rows_add row_adds from_each
more_rows_add d s k r rs j = total_join (gives d s k r j) (from_each (λ r. gives d s k r j) rs)

pub no_child_adds : (d : ℕ) (s : List ℕ) (c j : ℕ) → each_adds d s c none j ≡ 0
unfolding each_adds over_each total
no_child_adds d s c j = refl

pub more_children_add : (d : ℕ) (s : List ℕ) (c : ℕ) (r : Row) (rs : Rows) (j : ℕ) → each_adds d s c (more r rs) j ≡ row_adds d s c r j + each_adds d s (suc c) rs j
unfolding each_adds row_adds over_each
more_children_add d s c r rs j = total_join (gives d s c r j) (over_each (λ k r. gives d s k r j) (suc c) rs)
