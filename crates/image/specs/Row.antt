-- What a row is, and the row that stands at each place ("Rows of two nodes whose types agree are equal if both are
-- null, or neither is and the values agree").
use Rattle.std.specs.Prelude.{Bool, true, false, cond, List, [], ◌∷◌, ℕ, zero, suc, ◌+◌, ◌*◌, ◌-◌, ltb}
use Rattle.image.specs.declared.type_code.Layout.{Layout}
use Rattle.image.specs.declared.type_code.Layout.TheVariants.{Null, Boolean, FixedWidth, VariableSize, View, List as Lists, ListView, FixedList, Struct, DenseUnion, SparseUnion, Dictionary, Runs}
use Rattle.image.specs.Bytes.{bit_at, bytes_at}
use Rattle.image.specs.Record.{max_depth, code_of, p1_of, offset_of, first_child, child_count, buffer_place}
use Rattle.image.specs.TypeCode.{layout_of}
use Rattle.image.specs.Element.{valid, element_width, element_place, element_at, variable_text, size_at, type_id_at, dense_offset_at, child_end, child_with_id, view_text, run_at}

mutual
  pub data Row : Type 0 where
    -- the bitmap's bit is 0
    null : Row
    -- Null (no bytes), Boolean (one byte), fixed widths
    fixed : List ℕ → Row
    -- text, binary, views
    sized : List ℕ → Row
    -- Struct and fixed lists; a Dictionary's and a run's one row of the values child
    joined : Rows → Row
    -- list kinds and Map
    counted : Rows → Row
    -- a union's id, and the row of the child that it names
    tagged : ℕ → Row → Row

  pub data Rows : Type 0 where
    none : Rows
    more : Row → Rows → Rows

-- the n rows g i, g (i + 1), ..
unfoldable pub range : (ℕ → Row) → ℕ → ℕ → Rows
range g i zero = none
range g i (suc n) = more (g i) (range g (suc i) n)

abbrev pub one : Row → Rows
one r = more r none

-- rows, and then more rows
unfoldable pub rows_then : Rows → Rows → Rows
rows_then none rest = rest
rows_then (more r rs) rest = more r (rows_then rs rest)

-- The value at element j of node k, for each layout. `sub c i` is row i of node c.

-- "Boolean: the bit", as the byte that is written
unfoldable pub boolean_row : List ℕ → ℕ → ℕ → Row
boolean_row s k j = fixed (cond (bit_at s (buffer_place s k 0) j) 1 0 ∷ [])

-- "Fixed widths: the bytes."
unfoldable pub fixed_row : List ℕ → ℕ → ℕ → Row
fixed_row s k j = fixed (bytes_at s (element_place s k j) (element_width s k))

-- "Text, binary ..: length and bytes", from the offset at j up to the next
unfoldable pub variable_row : List ℕ → ℕ → ℕ → Row
variable_row s k j = sized (variable_text s k j)

-- "views: length and bytes"
unfoldable pub view_row : List ℕ → ℕ → ℕ → Row
view_row s k j = sized (view_text s k j)

-- "List kinds and Map: count, and child rows in turn", at the stored offset
unfoldable pub list_row : (ℕ → ℕ → Row) → List ℕ → ℕ → ℕ → Row
list_row sub s k j = counted (range (sub (first_child s k)) (element_at s k j) (element_at s k (suc j) - element_at s k j))

unfoldable pub list_view_row : (ℕ → ℕ → Row) → List ℕ → ℕ → ℕ → Row
list_view_row sub s k j = counted (range (sub (first_child s k)) (element_at s k j) (size_at s k j))

-- "Fixed lists .. child rows in turn", at "that sum × p1"
unfoldable pub fixed_list_row : (ℕ → ℕ → Row) → List ℕ → ℕ → ℕ → Row
fixed_list_row sub s k j = joined (range (sub (first_child s k)) (j * p1_of s k) (p1_of s k))

-- "Structs: child rows in turn", "at the parent's offset plus the row"
unfoldable pub struct_row : (ℕ → ℕ → Row) → List ℕ → ℕ → ℕ → Row
struct_row sub s k j = joined (range (λ c. sub c j) (first_child s k) (child_count s k))

-- "Union: the id, and the row of the child it names". No accepted row's id is without a child.
abbrev pub union_row : (ℕ → ℕ → Row) → List ℕ → ℕ → ℕ → ℕ → Row
union_row sub s k id i = cond (ltb (child_with_id s k id) (child_end s k)) (tagged id (sub (child_with_id s k id) i)) null

unfoldable pub dense_row : (ℕ → ℕ → Row) → List ℕ → ℕ → ℕ → Row
dense_row sub s k j = union_row sub s k (type_id_at s k j) (dense_offset_at s k j)

unfoldable pub sparse_row : (ℕ → ℕ → Row) → List ℕ → ℕ → ℕ → Row
sparse_row sub s k j = union_row sub s k (type_id_at s k j) j

-- "Dictionary, runs: the rows of the values child."
unfoldable pub dictionary_row : (ℕ → ℕ → Row) → List ℕ → ℕ → ℕ → Row
dictionary_row sub s k j = joined (one (sub (first_child s k) (element_at s k j)))

unfoldable pub run_row : (ℕ → ℕ → Row) → List ℕ → ℕ → ℕ → Row
run_row sub s k j = joined (one (sub (first_child s k + 1) (run_at s k j)))

-- the value at element j of node k
abbrev pub value_at : Layout → (ℕ → ℕ → Row) → List ℕ → ℕ → ℕ → Row
value_at Null sub s k j = fixed []
value_at Boolean sub s k j = boolean_row s k j
value_at FixedWidth sub s k j = fixed_row s k j
value_at VariableSize sub s k j = variable_row s k j
value_at View sub s k j = view_row s k j
value_at Lists sub s k j = list_row sub s k j
value_at ListView sub s k j = list_view_row sub s k j
value_at FixedList sub s k j = fixed_list_row sub s k j
value_at Struct sub s k j = struct_row sub s k j
value_at DenseUnion sub s k j = dense_row sub s k j
value_at SparseUnion sub s k j = sparse_row sub s k j
value_at Dictionary sub s k j = dictionary_row sub s k j
value_at Runs sub s k j = run_row sub s k j

-- null, or the value, by a bit
abbrev pub masked : Bool → Row → Row
masked true r = r
masked false r = null

-- Row i of node k: "Row i, from 0, reads bitmap bit first bit + i (no bitmap: not null) and element offset + i". The
-- first argument is the remaining depth, 16 at the root; an accepted image never runs out of it.
unfoldable pub row_at : ℕ → List ℕ → ℕ → ℕ → Row
row_at zero s k i = null
row_at (suc depth) s k i = masked (valid s k i) (value_at (layout_of (code_of s k)) (row_at depth s) s k (offset_of s k + i))

-- the n rows of the table from row i on
unfoldable pub table_rows : List ℕ → ℕ → ℕ → Rows
table_rows s i n = range (row_at max_depth s 0) i n
