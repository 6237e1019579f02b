-- Images laid out from Arrow columns: a column has a field, what it stores, and children.
-- Nodes and buffers are numbered depth by depth, and their bytes are placed after the tables, in that order.
use Rattle.std.specs.Prelude.{cond, ℕ, ◌+◌, ◌*◌, ◌-◌, ◌/◌, length, eqb}
use mathlib.Core.List.{List, [], ◌∷◌, ◌++◌, flatten, flat_map}
use Prim.Native.String.{String}
use Rattle.image.specs.Bytes.{number_bytes, ascii}
use Rattle.image.specs.Record.{record_place}

-- A column's type, name, nullable flag (1 or 0) and id under a union. A negative p1 or p2 is written as 2 ^ 32 more.
pub record Field : Type 0 where
  pub code : ℕ
  pub p1 : ℕ
  pub p2 : ℕ
  pub name : List ℕ
  pub flag : ℕ
  pub id : ℕ

-- What a column stores: its rows' number, its offset, the bytes of its bitmap (none: no bitmap) and its buffers.
pub record Stored : Type 0 where
  pub rows : ℕ
  pub offset : ℕ
  pub bitmap : List ℕ
  pub first_bit : ℕ
  pub buffers : List (List ℕ)

pub record Node : Type 0 where
  pub field : Field
  pub stored : Stored
  pub children : ℕ

-- a column's nodes, depth by depth
abbrev pub Column : Type 0
Column = List (List Node)

-- two columns side by side: at each depth the nodes of the first, then those of the second
unfoldable pub beside : Column → Column → Column
beside [] ys = ys
beside (x ∷ xs) [] = x ∷ xs
beside (x ∷ xs) (y ∷ ys) = (x ++ y) ∷ beside xs ys

unfoldable pub all_beside : List Column → Column
all_beside [] = []
all_beside (c ∷ cs) = beside c (all_beside cs)

-- a column of that field, with its children
unfoldable pub column : Field → Stored → List Column → Column
column f d cs = (record { field = f; stored = d; children = length cs } ∷ []) ∷ all_beside cs

-- The image of a column. Nodes come depth by depth, so the children of a node follow those of all earlier nodes.

abbrev pub u8 : ℕ → List ℕ
u8 x = number_bytes 1 x

abbrev pub u16 : ℕ → List ℕ
u16 x = number_bytes 2 x

abbrev pub u32 : ℕ → List ℕ
u32 x = number_bytes 4 x

-- a field that speaks of these bytes: 0 where there are none
abbrev pub if_any : List ℕ → ℕ → ℕ
if_any [] x = 0
if_any (b ∷ bs) x = x

-- what a node places after the tables: its buffers, its bitmap and its name
unfoldable pub placed : Node → List ℕ
placed x = flatten x.stored.buffers ++ x.stored.bitmap ++ x.field.name

-- the bytes of a node's record, from its flags, its first child, its first buffer and the places of its bitmap and its name
unfoldable pub record_bytes : Node → ℕ → ℕ → ℕ → ℕ → ℕ → List ℕ
record_bytes x flags child buffer bitmap_place name_place =
    u8 x.field.code
    ++ u8 flags
    ++ u8 x.field.id
    ++ u8 (length x.field.name)
    ++ u32 x.field.p1
    ++ u32 x.field.p2
    ++ u32 x.stored.rows
    ++ u32 x.stored.offset
    ++ u32 (if_any x.field.name name_place)
    ++ u32 bitmap_place
    ++ u32 (length x.stored.bitmap)
    ++ u32 x.stored.first_bit
    ++ u16 child
    ++ u16 x.children
    ++ u16 buffer
    ++ u16 (length x.stored.buffers)

-- the records of nodes in turn, from the first child, the first buffer and the place of the bytes of the first
unfoldable pub records : ℕ → ℕ → ℕ → List Node → List ℕ
records child buffer place [] = []
records child buffer place (x ∷ xs) =
    let bitmap_place = place + length (flatten x.stored.buffers) in
    let name_place = bitmap_place + length x.stored.bitmap in
    record_bytes x (x.field.flag + if_any x.stored.bitmap 2) child buffer (if_any x.stored.bitmap bitmap_place) name_place
    ++ records (child + x.children) (buffer + length x.stored.buffers) (place + length (placed x)) xs

-- the entries of buffers that stand one after the other
unfoldable pub buffer_entries : ℕ → List (List ℕ) → List ℕ
buffer_entries place [] = []
buffer_entries place (b ∷ bs) = u32 place ++ u32 (length b) ++ buffer_entries (place + length b) bs

-- the entries of nodes in turn
unfoldable pub entries : ℕ → List Node → List ℕ
entries place [] = []
entries place (x ∷ xs) = buffer_entries place x.stored.buffers ++ entries (place + length (placed x)) xs

unfoldable pub buffers_of : List Node → List (List ℕ)
buffers_of xs = flat_map (λ x. x.stored.buffers) xs

-- header, records, entries and then the bytes
unfoldable pub image_of : List Node → List ℕ
image_of xs =
    let n = length xs in
    let m = length (buffers_of xs) in
    let place = record_place n + m * 8 in
    u16 n ++ u16 m ++ records 1 0 place xs ++ entries place xs ++ flat_map placed xs

unfoldable pub image : Column → List ℕ
image c = image_of (flatten c)

-- The image that written rows make: "Names come first in node order, then each node's bitmap and buffers, without gaps", and
-- "bitmaps stand wherever a code may have one", also one of no bytes.

-- 0 at code 0, which has no bitmap
abbrev pub unless_null : Node → ℕ → ℕ
unless_null x y = cond (eqb x.field.code 0) 0 y

-- what a node places after the names
unfoldable pub parts : Node → List ℕ
parts x = x.stored.bitmap ++ flatten x.stored.buffers

-- the records of nodes in turn, from the first child, the first buffer and the places of the name and the parts of the first
unfoldable pub built_records : ℕ → ℕ → ℕ → ℕ → List Node → List ℕ
built_records child buffer name place [] = []
built_records child buffer name place (x ∷ xs) =
    record_bytes x (x.field.flag + unless_null x 2) child buffer (unless_null x place) name
    ++ built_records (child + x.children) (buffer + length x.stored.buffers) (name + length x.field.name) (place + length (parts x)) xs

unfoldable pub built_entries : ℕ → List Node → List ℕ
built_entries place [] = []
built_entries place (x ∷ xs) =
    buffer_entries (place + length x.stored.bitmap) x.stored.buffers ++ built_entries (place + length (parts x)) xs

unfoldable pub built_of : List Node → List ℕ
built_of xs =
    let n = length xs in
    let m = length (buffers_of xs) in
    let names = flat_map (λ x. x.field.name) xs in
    let name = record_place n + m * 8 in
    let place = name + length names in
    u16 n ++ u16 m ++ built_records 1 0 name place xs ++ built_entries place xs ++ names ++ flat_map parts xs

unfoldable pub built_image : Column → List ℕ
built_image c = built_of (flatten c)

-- Fields: a code, its p1 and a name.

unfoldable pub field : ℕ → ℕ → String → Field
field c p s = record { code = c; p1 = p; p2 = 0; name = ascii s; flag = 0; id = 0 }

unfoldable pub nullable : Field → Field
nullable f = record { code = f.code; p1 = f.p1; p2 = f.p2; name = f.name; flag = 1; id = f.id }

-- What columns store.

-- n rows in these buffers, none of them null
unfoldable pub stored : ℕ → List (List ℕ) → Stored
stored n bs = record { rows = n; offset = 0; bitmap = []; first_bit = 0; buffers = bs }

-- numbers of w bytes
unfoldable pub numbers : ℕ → List ℕ → Stored
numbers w xs = stored (length xs) (flat_map (number_bytes w) xs ∷ [])

-- the offsets of texts that stand one after the other
unfoldable pub text_offsets : ℕ → List String → List ℕ
text_offsets start [] = u32 start
text_offsets start (s ∷ ss) = u32 start ++ text_offsets (start + length (ascii s)) ss

unfoldable pub texts : List String → Stored
texts ss = stored (length ss) (text_offsets 0 ss ∷ flat_map ascii ss ∷ [])

-- rows of a List or a Map, by their offsets
unfoldable pub lists : List ℕ → Stored
lists offsets = stored (length offsets - 1) (flat_map u32 offsets ∷ [])

-- bits as a number, the first lowest
unfoldable pub bits : List ℕ → ℕ
bits [] = 0
bits (b ∷ bs) = b + 2 * bits bs

-- the rows of d, null where the bit is 0
unfoldable pub masked : List ℕ → Stored → Stored
masked bs d =
    record {
      rows = d.rows;
      offset = d.offset;
      bitmap = number_bytes ((length bs + 7) / 8) (bits bs);
      first_bit = d.first_bit;
      buffers = d.buffers;
    }
