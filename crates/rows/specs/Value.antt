-- A value: what a row that is not null is made of. The bytes that stand before its child rows, its child rows, and the row
-- that it makes.
use Rattle.std.specs.Prelude.{Bool, true, not, Option, Some, None, List, [], ◌∷◌, ◌++◌, ℕ, zero, suc}
use Rattle.image.specs.declared.type_code.Layout.{Layout}
use Rattle.image.specs.declared.type_code.Layout.TheVariants.{Null, Boolean, FixedWidth, VariableSize, View, List as Lists, ListView, FixedList, Struct, DenseUnion, SparseUnion, Dictionary, Runs}
use Rattle.image.specs.Bytes.{number_bytes}
use Rattle.image.specs.Element.{valid}
use Rattle.image.specs.Row.{Row, Rows, null, fixed, sized, joined, counted, tagged, none, more, range, rows_then}
use Rattle.rows.specs.declared.value.ChildRows.{ChildRows}
use Rattle.rows.specs.declared.value.Value.{Value}

-- a row is null: no depth is left, or its bit is 0
unfoldable pub is_null : ℕ → List ℕ → ℕ → ℕ → Bool
is_null zero s k i = true
is_null (suc depth) s k i = not (valid s k i)

-- What a row that is not null is made of: the number `head` in `width` bytes, then bytes, then child rows.
pub record Content : Type 0 where
  pub head : ℕ
  pub width : ℕ
  pub bytes : List ℕ
  pub rows : Option ChildRows

-- what a value says that it is made of
abbrev pub content : Value → Content
content v = record { head = v.head; width = v.width; bytes = v.bytes.now; rows = v.rows }

-- a number and bytes, without child rows
abbrev pub leaf_value : ℕ → ℕ → List ℕ → Content
leaf_value head width bytes = record { head = head; width = width; bytes = bytes; rows = None }

-- a number, and `count` rows from row `start` on of each of `parts` children, the first of them node `child`
abbrev pub nested_value : ℕ → ℕ → ℕ → ℕ → ℕ → ℕ → Content
nested_value head width child parts start count = record { head = head; width = width; bytes = []; rows = Some (record { child = child; parts = parts; start = start; count = count }) }

-- the number in front and the bytes
unfoldable pub front_bytes : Content → List ℕ
front_bytes v = number_bytes v.width v.head ++ v.bytes

-- what is written of a row before its child rows: "01 and the value"
unfoldable pub own_bytes : Content → List ℕ
own_bytes v = 1 ∷ front_bytes v

-- n rows from row i on of each of so many children from c on; `sub c i` is row i of node c
unfoldable pub part_rows : (ℕ → ℕ → Row) → ℕ → ℕ → ℕ → ℕ → Rows
part_rows sub c zero i n = none
part_rows sub c (suc parts) i n = rows_then (range (sub c) i n) (part_rows sub (suc c) parts i n)

-- child rows, and those of a value, where it has some
abbrev pub rows_of : (ℕ → ℕ → Row) → Option ChildRows → Rows
rows_of sub None = none
rows_of sub (Some c) = part_rows sub c.child c.parts c.start c.count

unfoldable pub child_rows : (ℕ → ℕ → Row) → Content → Rows
child_rows sub v = rows_of sub v.rows

-- an id and the first of some rows
abbrev pub tagged_first : ℕ → Rows → Row
tagged_first id none = null
tagged_first id (more r rs) = tagged id r

-- The row that a value of a layout makes.
abbrev pub row_of : Layout → (ℕ → ℕ → Row) → Content → Row
row_of Null sub v = fixed (front_bytes v)
row_of Boolean sub v = fixed (front_bytes v)
row_of FixedWidth sub v = fixed (front_bytes v)
row_of VariableSize sub v = sized v.bytes
row_of View sub v = sized v.bytes
row_of Lists sub v = counted (child_rows sub v)
row_of ListView sub v = counted (child_rows sub v)
row_of FixedList sub v = joined (child_rows sub v)
row_of Struct sub v = joined (child_rows sub v)
row_of DenseUnion sub v = tagged_first v.head (child_rows sub v)
row_of SparseUnion sub v = tagged_first v.head (child_rows sub v)
row_of Dictionary sub v = joined (child_rows sub v)
row_of Runs sub v = joined (child_rows sub v)
