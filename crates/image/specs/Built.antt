-- The image that rows make ("From written rows back to a table"). "Its types, p1, p2, names and nullable flags are those
-- of the given image" s; rs are the rows of its root.
use Rattle.std.specs.Prelude.{Bool, cond, List, [], ◌∷◌, ◌++◌, ℕ, zero, suc, ◌+◌, ◌*◌, ◌-◌, ◌/◌, ◌%◌, length, get_or, replicate, eqb, ltb}
use Rattle.image.specs.declared.type_code.Layout.{Layout}
use Rattle.image.specs.declared.type_code.Layout.TheVariants.{Null, Boolean, FixedWidth, VariableSize, View, List as Lists, ListView, FixedList, Struct, DenseUnion, SparseUnion, Dictionary, Runs}
use Rattle.image.specs.Ranges.{first, sum_to, pieces}
use Rattle.image.specs.Bytes.{byte_at, number_bytes}
use Rattle.image.specs.Record.{node_count, buffer_total, tables_end, code_of, flags_of, name_length, p1_of, p2_of, first_child, child_count, first_buffer, buffer_count}
use Rattle.image.specs.TypeCode.{layout_of, takes_bitmap}
use Rattle.image.specs.Element.{element_width, child_end}
use Rattle.image.specs.Types.{name_of}
use Rattle.image.specs.Row.{Row, Rows, null, fixed, sized, joined, counted, tagged, none, more, one, rows_then}
use Rattle.image.specs.RowBytes.{count}

-- The rows of each node.

-- the rows that each row gives, joined
unfoldable pub from_each : (Row → Rows) → Rows → Rows
from_each f none = none
from_each f (more r rs) = rows_then (f r) (from_each f rs)

-- row i, from 0
unfoldable pub nth : Rows → ℕ → Row
nth none i = null
nth (more r rs) zero = r
nth (more r rs) (suc i) = nth rs i

-- the children of node p end past node k
unfoldable pub ends_past : List ℕ → ℕ → ℕ → Bool
ends_past s k p = ltb k (child_end s p)

-- the node whose child node k is: children are numbered in the order of their parents
unfoldable pub parent_of : List ℕ → ℕ → ℕ
parent_of s k = first (ends_past s k) 0 k

-- the row that node k gets under a null row of a Struct: "struct children null where they can be", which is where the code may
-- have a bitmap; Null has its one row there
abbrev pub gap_row : List ℕ → ℕ → Row
gap_row s k = cond (takes_bitmap (layout_of (code_of s k))) null (fixed [])

-- the rows that node k gets under a null row of node p: "Under a null, .. lists .. empty"
unfoldable pub under_null : List ℕ → ℕ → ℕ → Rows
under_null s p k = cond (eqb (code_of s p) 38) (one (gap_row s k)) none

-- the rows that child i of a node gets from a row of the node: a Struct's row i, all rows of a list
abbrev pub rows_to_child : Rows → ℕ → Row → Rows
rows_to_child under i null = under
rows_to_child under i (fixed b) = none
rows_to_child under i (sized b) = none
rows_to_child under i (joined rs) = one (nth rs i)
rows_to_child under i (counted rs) = rs
rows_to_child under i (tagged id r) = none

-- the rows that node k gets from those of node p, its parent
unfoldable pub child_column : List ℕ → ℕ → ℕ → Rows → Rows
child_column s p k rs = from_each (rows_to_child (under_null s p k) (k - first_child s p)) rs

-- The rows of node k: the root's are rs. A parent's number is lower than its child's, so that the first argument, k or
-- more, never runs out.
unfoldable pub column_at : ℕ → List ℕ → Rows → ℕ → Rows
column_at zero s rs k = rs
column_at (suc d) s rs k =
    let child = child_column s (parent_of s k) k (column_at d s rs (parent_of s k)) in
    cond (eqb k 0) rs child

unfoldable pub column : List ℕ → Rows → ℕ → Rows
column s rs k = column_at k s rs k

-- The parts of each node: what its rows have in the bitmap and in the buffers.

-- what each row has, in turn: a number, or bytes
unfoldable pub each_number : (Row → ℕ) → Rows → List ℕ
each_number f none = []
each_number f (more r rs) = f r ∷ each_number f rs

unfoldable pub each_bytes : (Row → List ℕ) → Rows → List ℕ
each_bytes f none = []
each_bytes f (more r rs) = f r ++ each_bytes f rs

-- bits as a number, the first lowest
unfoldable pub bits_number : List ℕ → ℕ
bits_number [] = 0
bits_number (x ∷ xs) = x + 2 * bits_number xs

-- "spare bits are 0"
unfoldable pub pack_bits : List ℕ → List ℕ
pack_bits xs = number_bytes ((length xs + 7) / 8) (bits_number xs)

-- a row's bitmap bit
abbrev pub valid_bit : Row → ℕ
valid_bit null = 0
valid_bit (fixed b) = 1
valid_bit (sized b) = 1
valid_bit (joined rs) = 1
valid_bit (counted rs) = 1
valid_bit (tagged id r) = 1

-- a Boolean's bit; "Under a null, values are zero"
abbrev pub value_bit : Row → ℕ
value_bit null = 0
value_bit (fixed b) = byte_at b 0
value_bit (sized b) = 0
value_bit (joined rs) = 0
value_bit (counted rs) = 0
value_bit (tagged id r) = 0

-- a fixed width's bytes; "Under a null, values are zero"
abbrev pub value_bytes : ℕ → Row → List ℕ
value_bytes w null = replicate w 0
value_bytes w (fixed b) = b
value_bytes w (sized b) = []
value_bytes w (joined rs) = []
value_bytes w (counted rs) = []
value_bytes w (tagged id r) = []

-- a text's bytes; "Under a null, .. lists and texts empty"
abbrev pub text_bytes : Row → List ℕ
text_bytes null = []
text_bytes (fixed b) = []
text_bytes (sized b) = b
text_bytes (joined rs) = []
text_bytes (counted rs) = []
text_bytes (tagged id r) = []

-- how far a row's offset and the next lie apart
abbrev pub span : Row → ℕ
span null = 0
span (fixed b) = 0
span (sized b) = length b
span (joined rs) = 0
span (counted rs) = count rs
span (tagged id r) = 0

-- the offsets of rows, w bytes each, the first of them x, and the end of the last row
unfoldable pub offsets_from : ℕ → ℕ → Rows → List ℕ
offsets_from w x none = number_bytes w x
offsets_from w x (more r rs) = number_bytes w x ++ offsets_from w (x + span r) rs

-- the bitmap of rows: "bitmaps stand wherever a code may have one, from bit 0"
unfoldable pub bitmap_of : Layout → Rows → List ℕ
bitmap_of l rs = cond (takes_bitmap l) (pack_bits (each_number valid_bit rs)) []

-- the buffers of rows, where an element is w bytes wide: "list and text offsets begin at 0"
abbrev pub buffers_of : Layout → ℕ → Rows → List (List ℕ)
buffers_of Null w rs = []
buffers_of Boolean w rs = pack_bits (each_number value_bit rs) ∷ []
buffers_of FixedWidth w rs = each_bytes (value_bytes w) rs ∷ []
buffers_of VariableSize w rs = offsets_from w 0 rs ∷ each_bytes text_bytes rs ∷ []
buffers_of Lists w rs = offsets_from w 0 rs ∷ []
buffers_of Struct w rs = []
-- 23 keeps the other layouts out
buffers_of View w rs = []
buffers_of ListView w rs = []
buffers_of FixedList w rs = []
buffers_of DenseUnion w rs = []
buffers_of SparseUnion w rs = []
buffers_of Dictionary w rs = []
buffers_of Runs w rs = []

-- "each node's bitmap and buffers": what the rows of node k make, at most three parts
unfoldable pub parts_of : List ℕ → ℕ → Rows → List (List ℕ)
parts_of s k rows = bitmap_of (layout_of (code_of s k)) rows ∷ buffers_of (layout_of (code_of s k)) (element_width s k) rows

-- part i of them, empty where the node has no such part
unfoldable pub node_part : List ℕ → ℕ → Rows → ℕ → List ℕ
node_part s k rows i = get_or (parts_of s k rows) i []

-- part q of all: of node q / 3 the part q % 3
unfoldable pub part_at : List ℕ → Rows → ℕ → List ℕ
part_at s rs q = node_part s (q / 3) (column s rs (q / 3)) (q % 3)

-- Where names and parts stand.

-- "Names come first in node order": where node k's name would stand
unfoldable pub name_start : List ℕ → ℕ → ℕ
name_start s k = tables_end s + sum_to (name_length s) k

unfoldable pub part_length : List ℕ → Rows → ℕ → ℕ
part_length s rs q = length (part_at s rs q)

-- "then each node's bitmap and buffers, without gaps": where part q stands, an empty one too
unfoldable pub part_start : List ℕ → Rows → ℕ → ℕ
part_start s rs q = name_start s (node_count s) + sum_to (part_length s rs) q

-- The image.

abbrev pub u8 : ℕ → List ℕ
u8 x = number_bytes 1 x

abbrev pub u16 : ℕ → List ℕ
u16 x = number_bytes 2 x

abbrev pub u32 : ℕ → List ℕ
u32 x = number_bytes 4 x

-- the 44 bytes of node k's record: "Node offsets are 0", "unread fields .. are 0"
unfoldable pub record_of : List ℕ → Rows → ℕ → List ℕ
record_of s rs k =
    let bitmap = takes_bitmap (layout_of (code_of s k)) in
    u8 (code_of s k)
    ++ u8 (flags_of s k % 2 + cond bitmap 2 0)
    ++ u8 0
    ++ u8 (name_length s k)
    ++ u32 (p1_of s k)
    ++ u32 (p2_of s k)
    ++ u32 (count (column s rs k))
    ++ u32 0
    ++ u32 (cond (eqb (name_length s k) 0) 0 (name_start s k))
    ++ u32 (cond bitmap (part_start s rs (3 * k)) 0)
    ++ u32 (part_length s rs (3 * k))
    ++ u32 0
    ++ u16 (first_child s k)
    ++ u16 (child_count s k)
    ++ u16 (first_buffer s k)
    ++ u16 (buffer_count s k)

-- the entry of a buffer that is part q
unfoldable pub buffer_entry : List ℕ → Rows → ℕ → List ℕ
buffer_entry s rs q = u32 (part_start s rs q) ++ u32 (part_length s rs q)

-- the entries of node k's buffers: buffer j is its part 1 + j
unfoldable pub entries_of : List ℕ → Rows → ℕ → List ℕ
entries_of s rs k = pieces (buffer_entry s rs) (3 * k + 1) (buffer_count s k)

-- header, records, entries, names, parts
unfoldable pub built_image : List ℕ → Rows → List ℕ
built_image s rs =
    u16 (node_count s)
    ++ u16 (buffer_total s)
    ++ pieces (record_of s rs) 0 (node_count s)
    ++ pieces (entries_of s rs) 0 (node_count s)
    ++ pieces (name_of s) 0 (node_count s)
    ++ pieces (part_at s rs) 0 (3 * node_count s)
