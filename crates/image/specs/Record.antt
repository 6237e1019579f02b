-- The image's header, its node records and its buffer entries ("The image").
use Rattle.std.specs.Prelude.{Bool, List, ℕ, ◌+◌, ◌*◌, ◌/◌, ◌%◌, eqb}
use Rattle.image.specs.Bytes.{byte_at, number_at}
use Rattle.image.specs.Ranges.{sum_to}

-- "A header of two u16: n nodes (1 to 256), m buffers (0 to 1,024)."
abbrev pub node_count : List ℕ → ℕ
node_count s = number_at 2 s 0

abbrev pub buffer_total : List ℕ → ℕ
buffer_total s = number_at 2 s 2

-- the sizes of the header, of a node's record and of a buffer's entry
abbrev pub header_size : ℕ
header_size = 4

abbrev pub record_size : ℕ
record_size = 44

abbrev pub entry_size : ℕ
entry_size = 8

-- "At most 16,777,216 bytes."
abbrev pub longest_image : ℕ
longest_image = 16777216

-- "length, offset (u32), sum e at most 1,073,741,824"
abbrev pub most_elements : ℕ
most_elements = 1073741824

-- "Depth at most 16, the root being 1."
abbrev pub max_depth : ℕ
max_depth = 16

-- "Then n records of 44 bytes": where the record of node k starts
unfoldable pub record_place : ℕ → ℕ
record_place k = header_size + k * record_size

-- "m entries of two u32 (place, length)": where the entry of buffer b starts
unfoldable pub entry_place : List ℕ → ℕ → ℕ
entry_place s b = record_place (node_count s) + b * entry_size

-- "then free bytes": the length of header and tables
unfoldable pub tables_end : List ℕ → ℕ
tables_end s = entry_place s (buffer_total s)

-- The fields of node k's record, at the bytes that the table gives.
abbrev pub code_of : List ℕ → ℕ → ℕ
code_of s k = byte_at s (record_place k)

abbrev pub flags_of : List ℕ → ℕ → ℕ
flags_of s k = byte_at s (record_place k + 1)

-- "type id as a union's child, else 0"
abbrev pub id_of : List ℕ → ℕ → ℕ
id_of s k = byte_at s (record_place k + 2)

abbrev pub name_length : List ℕ → ℕ → ℕ
name_length s k = byte_at s (record_place k + 3)

-- p1 and p2 are i32: a negative number reads as 2 ^ 32 more
abbrev pub p1_of : List ℕ → ℕ → ℕ
p1_of s k = number_at 4 s (record_place k + 4)

abbrev pub p2_of : List ℕ → ℕ → ℕ
p2_of s k = number_at 4 s (record_place k + 8)

abbrev pub length_of : List ℕ → ℕ → ℕ
length_of s k = number_at 4 s (record_place k + 12)

abbrev pub offset_of : List ℕ → ℕ → ℕ
offset_of s k = number_at 4 s (record_place k + 16)

abbrev pub name_place : List ℕ → ℕ → ℕ
name_place s k = number_at 4 s (record_place k + 20)

abbrev pub bitmap_place : List ℕ → ℕ → ℕ
bitmap_place s k = number_at 4 s (record_place k + 24)

abbrev pub bitmap_length : List ℕ → ℕ → ℕ
bitmap_length s k = number_at 4 s (record_place k + 28)

abbrev pub first_bit : List ℕ → ℕ → ℕ
first_bit s k = number_at 4 s (record_place k + 32)

abbrev pub first_child : List ℕ → ℕ → ℕ
first_child s k = number_at 2 s (record_place k + 36)

abbrev pub child_count : List ℕ → ℕ → ℕ
child_count s k = number_at 2 s (record_place k + 38)

abbrev pub first_buffer : List ℕ → ℕ → ℕ
first_buffer s k = number_at 2 s (record_place k + 40)

abbrev pub buffer_count : List ℕ → ℕ → ℕ
buffer_count s k = number_at 2 s (record_place k + 42)

-- "flags: 1 nullable, 2 has bitmap"
unfoldable pub nullable : List ℕ → ℕ → Bool
nullable s k = eqb (flags_of s k % 2) 1

unfoldable pub has_bitmap : List ℕ → ℕ → Bool
has_bitmap s k = eqb (flags_of s k / 2 % 2) 1

-- "length, offset (u32), sum e"
unfoldable pub elements_of : List ℕ → ℕ → ℕ
elements_of s k = length_of s k + offset_of s k

-- "First child is 1 plus the child counts of all earlier nodes"
unfoldable pub child_start : List ℕ → ℕ → ℕ
child_start s k = 1 + sum_to (child_count s) k

-- "first buffer is the sum of earlier buffer counts"
unfoldable pub buffer_start : List ℕ → ℕ → ℕ
buffer_start s k = sum_to (buffer_count s) k

-- The place and the length of buffer j of node k, counted from 0 within the node.
unfoldable pub buffer_place : List ℕ → ℕ → ℕ → ℕ
buffer_place s k j = number_at 4 s (entry_place s (first_buffer s k + j))

unfoldable pub buffer_length : List ℕ → ℕ → ℕ → ℕ
buffer_length s k j = number_at 4 s (entry_place s (first_buffer s k + j) + 4)
