-- What stands at an element of a node's buffers ("Row i .. reads bitmap bit first bit + i (no bitmap: not null) and
-- element offset + i").
use Rattle.std.specs.Prelude.{Bool, cond, not, ◌||◌, List, ℕ, suc, ◌+◌, ◌*◌, ◌-◌, eqb, leb, ltb}
use Rattle.image.specs.Ranges.{first}
use Rattle.image.specs.Bytes.{byte_at, number_at, bit_at, bytes_at}
use Rattle.image.specs.Record.{code_of, id_of, p1_of, offset_of, has_bitmap, bitmap_place, first_bit, first_child, child_count, buffer_place, length_of}
use Rattle.image.specs.TypeCode.{integer_width, width_of}

-- row i of node k is not null: its bitmap bit is 1, or there is no bitmap
unfoldable pub valid : List ℕ → ℕ → ℕ → Bool
valid s k i = not (has_bitmap s k) || bit_at s (bitmap_place s k) (first_bit s k + i)

-- the width of an element of node k's first buffer
unfoldable pub element_width : List ℕ → ℕ → ℕ
element_width s k = width_of (code_of s k) (p1_of s k)

-- where element j of the first buffer of node k starts
unfoldable pub element_place : List ℕ → ℕ → ℕ → ℕ
element_place s k j = buffer_place s k 0 + j * element_width s k

-- element j of the first buffer, as a number: an offset of text, binary, a list kind or Map, or a Dictionary's key
unfoldable pub element_at : List ℕ → ℕ → ℕ → ℕ
element_at s k j = number_at (element_width s k) s (element_place s k j)

-- the bytes of text or binary at element j: those of the second buffer from the offset at j up to the next
abbrev pub variable_text : List ℕ → ℕ → ℕ → List ℕ
variable_text s k j = bytes_at s (buffer_place s k 1 + element_at s k j) (element_at s k (suc j) - element_at s k j)

-- a list view's size: element j of the second buffer, as wide as its offset
unfoldable pub size_at : List ℕ → ℕ → ℕ → ℕ
size_at s k j = number_at (element_width s k) s (buffer_place s k 1 + j * element_width s k)

-- a union's type id: byte j of the first buffer
unfoldable pub type_id_at : List ℕ → ℕ → ℕ → ℕ
type_id_at s k j = byte_at s (buffer_place s k 0 + j)

-- a dense union's offset: the i32 numbered j of the second buffer
unfoldable pub dense_offset_at : List ℕ → ℕ → ℕ → ℕ
dense_offset_at s k j = number_at 4 s (buffer_place s k 1 + j * 4)

-- where node k's children end, as a node number
unfoldable pub child_end : List ℕ → ℕ → ℕ
child_end s k = first_child s k + child_count s k

-- node c has the type id
unfoldable pub has_id : List ℕ → ℕ → ℕ → Bool
has_id s id c = eqb (id_of s c) id

-- the child of union k that has the type id, or the children's end where none has
unfoldable pub child_with_id : List ℕ → ℕ → ℕ → ℕ
child_with_id s k id = first (has_id s id) (first_child s k) (child_count s k)

-- The parts of the 16-byte view at a place: its length; the place of its first four bytes of data, or of all of them
-- where there are at most 12; the number of its data buffer; the offset in it.
abbrev pub inline_length : ℕ
inline_length = 12

unfoldable pub view_length : List ℕ → ℕ → ℕ
view_length s v = number_at 4 s v

unfoldable pub view_buffer : List ℕ → ℕ → ℕ
view_buffer s v = number_at 4 s (v + 8)

unfoldable pub view_offset : List ℕ → ℕ → ℕ
view_offset s v = number_at 4 s (v + 12)

-- where the bytes of the view at v stand: in the view itself, or in the data buffer, which comes after the views' own
unfoldable pub view_data : List ℕ → ℕ → ℕ → ℕ
view_data s k v = cond (leb (view_length s v) inline_length) (v + 4) (buffer_place s k (1 + view_buffer s v) + view_offset s v)

-- the bytes of the view at element j
abbrev pub view_text : List ℕ → ℕ → ℕ → List ℕ
view_text s k j = bytes_at s (view_data s k (element_place s k j)) (view_length s (element_place s k j))

-- the text at element j of a node that holds text: a view's where the code is 31, Utf8View
unfoldable pub text_at : List ℕ → ℕ → ℕ → List ℕ
text_at s k j = cond (eqb (code_of s k) 31) (view_text s k j) (variable_text s k j)

-- the width of the run ends of run node k, integers of the first child's code
unfoldable pub run_end_width : List ℕ → ℕ → ℕ
run_end_width s k = integer_width (code_of s (first_child s k))

-- run end i, counted from 0 within the first child of run node k
unfoldable pub run_end_at : List ℕ → ℕ → ℕ → ℕ
run_end_at s k i = number_at (run_end_width s k) s (buffer_place s (first_child s k) 0 + (offset_of s (first_child s k) + i) * run_end_width s k)

-- run end r of run node k lies above element j
unfoldable pub ends_above : List ℕ → ℕ → ℕ → ℕ → Bool
ends_above s k j r = ltb j (run_end_at s k r)

-- "the values row numbered as the first run end above offset + i", for element j = offset + i
unfoldable pub run_at : List ℕ → ℕ → ℕ → ℕ
run_at s k j = first (ends_above s k j) 0 (length_of s (first_child s k))
