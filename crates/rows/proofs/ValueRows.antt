-- The row at an element is the row that its value makes, for every layout, image and element; and its bytes are those of
-- the value, for an element of an accepted image.
-- Rows of one child, and one row of each of several, are a range; the rest is the definitions. The bytes follow by what
-- kind of row it is: lengths and counts are those of the bytes and rows that follow, and an id is a byte.
use mathlib.Core.Path.{◌≡◌, refl, sym, ap, ◌∙◌}
use mathlib.Core.Bool.{Bool, true, false, cond}
use mathlib.Core.List.{List, [], ◌∷◌, ◌++◌, append-nil}
use Prim.Native.Nat.{ℕ, zero, suc, ◌%◌, ◌≤◌}
use native.Mathlib.Nat.{mod-eq_of_lt}
use native.Mathlib.Omega.{arith}
use lib.Dec.{ltb}
use borrow.Author.Tests.{lt-ltb}
use Rattle.image.specs.declared.type_code.Layout.{Layout}
use Rattle.image.specs.declared.type_code.Layout.TheVariants.{Null, Boolean, FixedWidth, VariableSize, View, List as Lists, ListView, FixedList, Struct, DenseUnion, SparseUnion, Dictionary, Runs}
use Rattle.image.specs.Bytes.{bit_at, number_bytes}
use Rattle.image.specs.Record.{code_of, id_of, buffer_place}
use Rattle.image.specs.TypeCode.{layout_of, is_union}
use Rattle.image.specs.Element.{child_end, child_with_id, type_id_at, dense_offset_at}
use Rattle.image.specs.Row.{Row, Rows, null, fixed, sized, joined, counted, tagged, none, more, range, rows_then, value_at, boolean_row, fixed_row, variable_row, view_row, list_row, list_view_row, fixed_list_row, struct_row, dense_row, sparse_row, dictionary_row, run_row}
use Rattle.image.specs.RowBytes.{row_bytes, rows_bytes}
use Rattle.laws.specs.Accepted.{IdKnown}
use Rattle.laws.proofs.Codes.{dense_code, sparse_code}
use Rattle.laws.proofs.Lengths.{range_count}
use Rattle.accepted.specs.Parts.{Part}
use Rattle.accepted.proofs.Nodes.{part_node}
use Rattle.accepted.proofs.ChildRows.{dense_known, sparse_known}
use Rattle.rows.specs.Value.{Content, leaf_value, nested_value, front_bytes, own_bytes, part_rows, child_rows, row_of}
use Rattle.rows.specs.ValueOf.{byte_value, text_value, list_value, union_value, value_of}

then_none : (rs : Rows) → rows_then rs none ≡ rs
unfolding rows_then
then_none none = refl
then_none (more r rs) = ap (more r) (then_none rs)

-- rows of one child
pub one_part : (sub : ℕ → ℕ → Row) (c i n : ℕ) → part_rows sub c 1 i n ≡ range (sub c) i n
unfolding part_rows
one_part sub c i n = then_none (range (sub c) i n)

-- one row of each child
pub each_part : (sub : ℕ → ℕ → Row) (c parts i : ℕ) → part_rows sub c parts i 1 ≡ range (λ x. sub x i) c parts
unfolding part_rows range rows_then
each_part sub c zero i = refl
each_part sub c (suc parts) i = ap (more (sub c i)) (each_part sub (suc c) parts i)

-- a Boolean's byte
bit_byte : (b : Bool) → cond b 1 0 ∷ [] ≡ number_bytes 1 (cond b 1 0) ++ []
unfolding number_bytes
bit_byte true = refl
bit_byte false = refl

-- a union's row: by whether a child has its id
union_row_lem : (sub : ℕ → ℕ → Row) (c i id : ℕ) (known : Bool) → cond known (tagged id (sub c i)) null ≡ row_of DenseUnion sub (cond known (nested_value id 1 c 1 i 1) (byte_value id))
unfolding child_rows part_rows range rows_then
union_row_lem sub c i id true = refl
union_row_lem sub c i id false = refl

pub value_row : (x : Layout) (sub : ℕ → ℕ → Row) (s : List ℕ) (k j : ℕ) → value_at x sub s k j ≡ row_of x sub (value_of x s k j)
unfolding boolean_row fixed_row variable_row view_row list_row list_view_row fixed_list_row struct_row dense_row sparse_row dictionary_row run_row child_rows front_bytes number_bytes range
value_row Null sub s k j = refl
value_row Boolean sub s k j = ap fixed (bit_byte (bit_at s (buffer_place s k 0) j))
value_row FixedWidth sub s k j = refl
value_row VariableSize sub s k j = refl
value_row View sub s k j = refl
value_row Lists sub s k j = ap counted (sym (one_part sub _ _ _))
value_row ListView sub s k j = ap counted (sym (one_part sub _ _ _))
value_row FixedList sub s k j = ap joined (sym (one_part sub _ _ _))
value_row Struct sub s k j = ap joined (sym (each_part sub _ _ _))
value_row DenseUnion sub s k j = union_row_lem sub _ (dense_offset_at s k j) (type_id_at s k j) (ltb (child_with_id s k (type_id_at s k j)) (child_end s k))
value_row SparseUnion sub s k j = union_row_lem sub _ j (type_id_at s k j) (ltb (child_with_id s k (type_id_at s k j)) (child_end s k))
value_row Dictionary sub s k j = ap joined (sym (one_part sub _ _ _))
value_row Runs sub s k j = ap joined (sym (one_part sub _ _ _))

-- The bytes of a row that a value makes are its own bytes, and then those of its child rows.
abbrev Written : (ℕ → ℕ → Row) → Content → Row → Type 0
Written sub v row = row_bytes row ≡ own_bytes v ++ rows_bytes (child_rows sub v)

module _ (sub : ℕ → ℕ → Row) where
  -- bytes without child rows, a text, child rows
  leaf_written : (head width : ℕ) (bytes : List ℕ) → Written sub (leaf_value head width bytes) (fixed (front_bytes (leaf_value head width bytes)))
  unfolding row_bytes rows_bytes own_bytes child_rows
  leaf_written head width bytes = sym (append-nil _)

  text_written : (bytes : List ℕ) → Written sub (text_value bytes) (sized bytes)
  unfolding row_bytes rows_bytes own_bytes front_bytes child_rows
  text_written bytes = sym (append-nil _)

  list_written : (child start count : ℕ) → Written sub (list_value child start count) (counted (child_rows sub (list_value child start count)))
  unfolding row_bytes own_bytes front_bytes child_rows
  list_written child start count = rw (one_part sub child start count, range_count (sub child) start count, append-nil (number_bytes 4 count))

  rows_written : (child parts start count : ℕ) → Written sub (nested_value 0 0 child parts start count) (joined (child_rows sub (nested_value 0 0 child parts start count)))
  unfolding row_bytes own_bytes front_bytes number_bytes
  rows_written child parts start count = refl

  -- a union's id and row, where the id is known
  union_written : {s : List ℕ} {k j : ℕ} (i : ℕ) → IdKnown s k j → id_of s (child_with_id s k (type_id_at s k j)) ≤ 127
      → Written sub (union_value s k (type_id_at s k j) i) (row_of DenseUnion sub (union_value s k (type_id_at s k j) i))
  unfolding row_bytes own_bytes front_bytes number_bytes child_rows part_rows range rows_then
  union_written {s} {k} {j} i known small =
      let byte : type_id_at s k j % 256 ≡ type_id_at s k j = mod-eq_of_lt (omega (arith, known.same)) in
      rw (lt-ltb _ _ known.high, byte, append-nil (row_bytes (sub (child_with_id s k (type_id_at s k j)) i)))

module _ {s : List ℕ} {k j : ℕ} (r : Part s k j 1) (sub : ℕ → ℕ → Row) where
  id_small : is_union (code_of s k) ≡ true → IdKnown s k j → id_of s (child_with_id s k (type_id_at s k j)) ≤ 127
  id_small union known = ((part_node r).tree.ids union).small (child_with_id s k (type_id_at s k j)) known.low known.high

  by_layout : (x : Layout) → layout_of (code_of s k) ≡ x → Written sub (value_of x s k j) (row_of x sub (value_of x s k j))
  by_layout Null e = leaf_written sub 0 0 []
  by_layout Boolean e = leaf_written sub _ 1 []
  by_layout FixedWidth e = leaf_written sub 0 0 _
  by_layout VariableSize e = text_written sub _
  by_layout View e = text_written sub _
  by_layout Lists e = list_written sub _ _ _
  by_layout ListView e = list_written sub _ _ _
  by_layout FixedList e = rows_written sub _ _ _ _
  by_layout Struct e = rows_written sub _ _ _ _
  by_layout DenseUnion e = union_written sub _ (dense_known r e) (id_small (dense_code (code_of s k) e) (dense_known r e))
  by_layout SparseUnion e = union_written sub _ (sparse_known r e) (id_small (sparse_code (code_of s k) e) (sparse_known r e))
  by_layout Dictionary e = rows_written sub _ _ _ _
  by_layout Runs e = rows_written sub _ _ _ _

  pub value_written : row_bytes (value_at (layout_of (code_of s k)) sub s k j) ≡ own_bytes (value_of (layout_of (code_of s k)) s k j) ++ rows_bytes (child_rows sub (value_of (layout_of (code_of s k)) s k j))
  value_written = ap row_bytes (value_row (layout_of (code_of s k)) sub s k j) ∙ by_layout (layout_of (code_of s k)) refl
