-- The value at an element of a node, for every layout: a number in front, bytes of the image, child rows. Which they are is
-- document 01's rule of what is written of a row whose bitmap bit is not 0, "01 and the value".
use Rattle.std.specs.Prelude.{cond, List, [], ℕ, suc, ◌+◌, ◌*◌, ◌-◌, length, ltb}
use Rattle.image.specs.declared.type_code.Layout.{Layout}
use Rattle.image.specs.declared.type_code.Layout.TheVariants.{Null, Boolean, FixedWidth, VariableSize, View, List as Lists, ListView, FixedList, Struct, DenseUnion, SparseUnion, Dictionary, Runs}
use Rattle.image.specs.Bytes.{bit_at, bytes_at}
use Rattle.image.specs.Record.{p1_of, first_child, child_count, buffer_place}
use Rattle.image.specs.Element.{element_width, element_place, element_at, variable_text, size_at, type_id_at, dense_offset_at, child_end, child_with_id, view_text, run_at}
use Rattle.rows.specs.Value.{Content, leaf_value, nested_value}

-- one byte
abbrev pub byte_value : ℕ → Content
byte_value byte = leaf_value byte 1 []

-- bytes, without and with their u32 length in front
abbrev pub bytes_value : List ℕ → Content
bytes_value bytes = leaf_value 0 0 bytes

abbrev pub text_value : List ℕ → Content
text_value bytes = leaf_value (length bytes) 4 bytes

-- rows of one child from a row on, without and with their u32 count in front
abbrev pub rows_value : ℕ → ℕ → ℕ → Content
rows_value child start count = nested_value 0 0 child 1 start count

abbrev pub list_value : ℕ → ℕ → ℕ → Content
list_value child start count = nested_value count 4 child 1 start count

-- an id byte, and row i of the child of union k that the id names. No accepted row's id is without a child.
abbrev pub union_value : List ℕ → ℕ → ℕ → ℕ → Content
union_value s k id i = cond (ltb (child_with_id s k id) (child_end s k)) (nested_value id 1 (child_with_id s k id) 1 i 1) (byte_value id)

-- the value at element j of node k
abbrev pub value_of : Layout → List ℕ → ℕ → ℕ → Content
-- "Null: nothing."
value_of Null s k j = bytes_value []
-- "Boolean: 00 or 01."
value_of Boolean s k j = byte_value (cond (bit_at s (buffer_place s k 0) j) 1 0)
-- "Fixed widths: the bytes."
value_of FixedWidth s k j = bytes_value (bytes_at s (element_place s k j) (element_width s k))
-- "Text, binary, views: u32 length, bytes." A text's bytes stand from the offset at j up to the next.
value_of VariableSize s k j = text_value (variable_text s k j)
value_of View s k j = text_value (view_text s k j)
-- "List kinds and Map: u32 count, child rows." A list's rows stand from the offset at j up to the next.
value_of Lists s k j = list_value (first_child s k) (element_at s k j) (element_at s k (suc j) - element_at s k j)
value_of ListView s k j = list_value (first_child s k) (element_at s k j) (size_at s k j)
-- "Fixed lists, Structs: child rows." A Struct has one row of each child.
value_of FixedList s k j = rows_value (first_child s k) (j * p1_of s k) (p1_of s k)
value_of Struct s k j = nested_value 0 0 (first_child s k) (child_count s k) j 1
-- "Union: the id byte, child row." It is the row at the stored offset, or at the same place.
value_of DenseUnion s k j = union_value s k (type_id_at s k j) (dense_offset_at s k j)
value_of SparseUnion s k j = union_value s k (type_id_at s k j) j
-- "Dictionary, runs: the row of the values child." A run's values are the second child.
value_of Dictionary s k j = rows_value (first_child s k) (element_at s k j) 1
value_of Runs s k j = rows_value (first_child s k + 1) (run_at s k j) 1
