-- What stands before the parts of a built image: header, records, entries and names, from the lengths of its nodes and the
-- places of its parts.
use Rattle.std.specs.Prelude.{cond, List, ◌++◌, ℕ, suc, ◌+◌, ◌*◌, ◌-◌, ◌%◌, ◌<◌, ◌≤◌, get_or, eqb}
use Rattle.image.specs.Ranges.{pieces}
use Rattle.image.specs.Record.{node_count, buffer_total, code_of, flags_of, name_length, p1_of, p2_of, first_child, child_count, first_buffer, buffer_count}
use Rattle.image.specs.TypeCode.{layout_of, takes_bitmap}
use Rattle.image.specs.Types.{name_of}
use Rattle.image.specs.Built.{name_start, u8, u16, u32}

-- no part and not the end lies before the part before it
pub record Rise (s places : List ℕ) : Type 0 where
  pub rise : (q : ℕ) → q < 3 * node_count s → get_or places q 0 ≤ get_or places (suc q) 0

-- how many bytes part q has
unfoldable pub length_from : List ℕ → ℕ → ℕ
length_from places q = get_or places (suc q) 0 - get_or places q 0

-- the flags of node k: nullable as given, and a bitmap where the code may have one
unfoldable pub built_flags : List ℕ → ℕ → ℕ
built_flags s k = flags_of s k % 2 + cond (takes_bitmap (layout_of (code_of s k))) 2 0

-- where node k's name stands, 0 where it has none
unfoldable pub built_name : List ℕ → ℕ → ℕ
built_name s k = cond (eqb (name_length s k) 0) 0 (name_start s k)

-- where node k's bitmap stands, 0 where the code may have none
unfoldable pub bitmap_from : List ℕ → List ℕ → ℕ → ℕ
bitmap_from s places k = cond (takes_bitmap (layout_of (code_of s k))) (get_or places (3 * k) 0) 0

-- A record, in three parts: the node's type, its rows with name and bitmap, and its children and buffers.
unfoldable pub type_fields : List ℕ → ℕ → List ℕ
type_fields s k =
    u8 (code_of s k)
    ++ (u8 (built_flags s k)
    ++ (u8 0
    ++ (u8 (name_length s k)
    ++ (u32 (p1_of s k)
    ++ u32 (p2_of s k)))))

unfoldable pub row_fields : List ℕ → List ℕ → List ℕ → ℕ → List ℕ
row_fields s lengths places k =
    u32 (get_or lengths k 0)
    ++ (u32 0
    ++ (u32 (built_name s k)
    ++ (u32 (bitmap_from s places k)
    ++ (u32 (length_from places (3 * k))
    ++ u32 0))))

unfoldable pub table_fields : List ℕ → ℕ → List ℕ
table_fields s k =
    u16 (first_child s k)
    ++ (u16 (child_count s k)
    ++ (u16 (first_buffer s k)
    ++ u16 (buffer_count s k)))

unfoldable pub record_from : List ℕ → List ℕ → List ℕ → ℕ → List ℕ
record_from s lengths places k = type_fields s k ++ (row_fields s lengths places k ++ table_fields s k)

-- the entry of a buffer that is part q
unfoldable pub entry_from : List ℕ → ℕ → List ℕ
entry_from places q = u32 (get_or places q 0) ++ u32 (length_from places q)

-- the entries of node k's buffers
unfoldable pub entries_from : List ℕ → List ℕ → ℕ → List ℕ
entries_from s places k = pieces (entry_from places) (3 * k + 1) (buffer_count s k)

-- header, records, entries, names
unfoldable pub front_from : List ℕ → List ℕ → List ℕ → List ℕ
front_from s lengths places =
    u16 (node_count s)
    ++ (u16 (buffer_total s)
    ++ (pieces (record_from s lengths places) 0 (node_count s)
    ++ (pieces (entries_from s places) 0 (node_count s)
    ++ pieces (name_of s) 0 (node_count s))))
