-- The rows of an accepted image do not depend on how much depth is left over.
-- A row looks only at rows of the node's children, each a level deeper; a node with no depth left would lie below the last level.
use mathlib.Core.Path.{◌≡◌, refl, ap}
use mathlib.Core.Bool.{Bool, true, false, cond}
use mathlib.Core.List.{List}
use Prim.Native.Nat.{ℕ, zero, suc, ◌+◌, ◌≤◌, ◌<◌}
use native.Mathlib.Omega.{arith}
use lib.Dec.{ltb}
use borrow.Author.Tests.{ltb-true}
use Rattle.image.specs.declared.type_code.Layout.{Layout}
use Rattle.image.specs.declared.type_code.Layout.TheVariants.{Null, Boolean, FixedWidth, VariableSize, View, List as Lists, ListView, FixedList, Struct, DenseUnion, SparseUnion, Dictionary, Runs}
use Rattle.image.specs.declared.type_code.Count.TheVariants.{Exactly}
use Rattle.image.specs.Ranges.{sum_to}
use Rattle.image.specs.Record.{max_depth, node_count, code_of, first_child, child_count, child_start, offset_of}
use Rattle.image.specs.TypeCode.{layout_of, child_rule}
use Rattle.image.specs.Element.{valid, type_id_at, dense_offset_at, child_end, child_with_id, has_id, run_at}
use Rattle.image.specs.Faults.{level_end}
use Rattle.image.specs.Row.{Row, range, joined, counted, tagged, null, one, list_row, list_view_row, fixed_list_row, struct_row, union_row, dense_row, sparse_row, dictionary_row, run_row, value_at, masked, row_at, table_rows}
use Rattle.image.proofs.Ranges.{sum_grows, first_from, range_same}
use Rattle.laws.specs.Accepted.{AcceptedImage}

-- The value at an element looks only at rows of children: two ways to find child rows that agree on the children of k
-- give the same value.
module _ (g h : ℕ → ℕ → Row) (s : List ℕ) (k : ℕ) (same : (c i : ℕ) → first_child s k ≤ c → c < child_end s k → g c i ≡ h c i) where
  -- rows of the first child, where there is one
  first_same : 0 < child_count s k → (i : ℕ) → g (first_child s k) i ≡ h (first_child s k) i
  unfolding child_end
  first_same some i = same (first_child s k) i (omega arith) (omega arith)

  -- rows of a range of the first child
  first_range : 0 < child_count s k → (i n : ℕ) → range (g (first_child s k)) i n ≡ range (h (first_child s k)) i n
  first_range some i n = range_same _ _ i n (λ j le lt. first_same some j)

  -- the row of the child with an id, or null where there is none
  union_same : (id i : ℕ) → union_row g s k id i ≡ union_row h s k id i
  unfolding child_with_id
  union_same id i = cases (ltb (child_with_id s k id) (child_end s k)) refl
    where
      cases : (b : Bool) → ltb (child_with_id s k id) (child_end s k) ≡ b
          → cond b (tagged id (g (child_with_id s k id) i)) null ≡ cond b (tagged id (h (child_with_id s k id) i)) null
      cases true e = ap (tagged id) (same (child_with_id s k id) i (first_from (has_id s id) (first_child s k) (child_count s k)) (ltb-true _ _ e))
      cases false e = refl

  value_same : (l : Layout) → ((n : ℕ) → child_rule l ≡ Exactly n → child_count s k ≡ n) → (j : ℕ) → value_at l g s k j ≡ value_at l h s k j
  unfolding list_row list_view_row fixed_list_row struct_row dense_row sparse_row dictionary_row run_row child_end
  value_same Null exactly j = refl
  value_same Boolean exactly j = refl
  value_same FixedWidth exactly j = refl
  value_same VariableSize exactly j = refl
  value_same View exactly j = refl
  value_same Lists exactly j = ap counted (first_range (omega (arith, exactly 1 refl)) _ _)
  value_same ListView exactly j = ap counted (first_range (omega (arith, exactly 1 refl)) _ _)
  value_same FixedList exactly j = ap joined (first_range (omega (arith, exactly 1 refl)) _ _)
  value_same Struct exactly j = ap joined (range_same (λ c. g c j) (λ c. h c j) _ _ (λ c le lt. same c j le lt))
  value_same DenseUnion exactly j = union_same (type_id_at s k j) (dense_offset_at s k j)
  value_same SparseUnion exactly j = union_same (type_id_at s k j) j
  value_same Dictionary exactly j = ap (λ r. joined (one r)) (first_same (omega (arith, exactly 1 refl)) _)
  value_same Runs exactly j = ap (λ r. joined (one r)) (same (first_child s k + 1) (run_at s k j) (omega arith) (omega (arith, exactly 2 refl)))

-- the children of a node past a level lie past the next
pub level_below : (s : List ℕ) (d k : ℕ) → level_end s d ≤ k → level_end s (suc d) ≤ child_start s k
unfolding level_end child_start
level_below s d k le =
    let h : sum_to (child_count s) (level_end s d) ≤ sum_to (child_count s) k = sum_grows (child_count s) (level_end s d) k le in
    omega arith

module _ (s : List ℕ) (a : AcceptedImage s) where
  -- a node at the level that the remaining depth says has the same rows with more depth
  pub depth_enough : (f d : ℕ) → f + d ≡ max_depth → (k : ℕ) → level_end s d ≤ k → k < node_count s → (m i : ℕ) → row_at (f + m) s k i ≡ row_at f s k i
  unfolding row_at
  depth_enough zero d e k le lt m i =
      let last : d ≡ max_depth = omega arith in
      let past : level_end s max_depth ≤ k = rw last at le in
      absurd (omega (arith, (a.node k lt).tree.shallow))
  depth_enough (suc f) d e k le lt m i =
      let t = (a.node k lt).tree in
      let plus : suc f + m ≡ suc (f + m) = omega arith in
      let below : (c i : ℕ) → first_child s k ≤ c → c < child_end s k → row_at (f + m) s c i ≡ row_at f s c i =
      λ c i from end. depth_enough f (suc d) (omega arith) c (omega (arith, level_below s d k le, t.numbered)) (omega (arith, t.ends)) m i in
      rw plus (ap (masked (valid s k i)) (value_same (row_at (f + m) s) (row_at f s) s k below (layout_of (code_of s k)) t.exactly (offset_of s k + i)))

-- an accepted image never runs out of depth
pub row_deeper : (s : List ℕ) → AcceptedImage s → (m i : ℕ) → row_at (max_depth + m) s 0 i ≡ row_at max_depth s 0 i
unfolding level_end
row_deeper s a m i = depth_enough s a max_depth 0 (omega arith) 0 (omega arith) (omega (arith, a.tables.some_nodes)) m i

pub rows_deeper : (s : List ℕ) → AcceptedImage s → (m i n : ℕ) → range (row_at (max_depth + m) s 0) i n ≡ table_rows s i n
unfolding table_rows
rows_deeper s a m i n = range_same (row_at (max_depth + m) s 0) (row_at max_depth s 0) i n (λ j le lt. row_deeper s a m j)
