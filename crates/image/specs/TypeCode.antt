-- What each type code says of a node ("The type codes are constants belonging to one type").
use Rattle.std.specs.Prelude.{Bool, true, false, cond, ◌&&◌, ◌||◌, List, [], ◌∷◌, ℕ, ◌*◌, ◌-◌, ◌^◌, ◌/◌, get_or, eqb, leb, ltb}
use Rattle.image.specs.declared.type_code.Layout.{Layout}
use Rattle.image.specs.declared.type_code.Layout.TheVariants.{Null, Boolean, FixedWidth, VariableSize, View, List as Lists, ListView, FixedList, Struct, DenseUnion, SparseUnion, Dictionary, Runs}
use Rattle.image.specs.declared.type_code.Count.{Count}
use Rattle.image.specs.declared.type_code.Count.TheVariants.{Exactly, AtLeast}

-- What a code fixes: its layout; the width in bytes of an element of its first buffer (0 where it has no such buffer,
-- where elements are bits, and where p1 gives the width); the lowest and the highest p1 ("0 where unused").
pub record Entry : Type 0 where
  pub layout : Layout
  pub width : ℕ
  pub low : ℕ
  pub high : ℕ

abbrev pub entry : Layout → ℕ → ℕ → ℕ → Entry
entry l w a b = record { layout = l; width = w; low = a; high = b }

-- an entry for each code from 0 to 43
unfoldable pub entries : List Entry
entries =
    -- 0 Null
    entry Null 0 0 0 ∷
    -- 1 Boolean
    entry Boolean 0 0 0 ∷
    -- 2 Int8
    entry FixedWidth 1 0 0 ∷
    -- 3 Int16
    entry FixedWidth 2 0 0 ∷
    -- 4 Int32
    entry FixedWidth 4 0 0 ∷
    -- 5 Int64
    entry FixedWidth 8 0 0 ∷
    -- 6 UInt8
    entry FixedWidth 1 0 0 ∷
    -- 7 UInt16
    entry FixedWidth 2 0 0 ∷
    -- 8 UInt32
    entry FixedWidth 4 0 0 ∷
    -- 9 UInt64
    entry FixedWidth 8 0 0 ∷
    -- 10 Float16
    entry FixedWidth 2 0 0 ∷
    -- 11 Float32
    entry FixedWidth 4 0 0 ∷
    -- 12 Float64
    entry FixedWidth 8 0 0 ∷
    -- 13 Date32
    entry FixedWidth 4 0 0 ∷
    -- 14 Date64
    entry FixedWidth 8 0 0 ∷
    -- 15 Decimal32, p1 precision
    entry FixedWidth 4 1 9 ∷
    -- 16 Decimal64, p1 precision
    entry FixedWidth 8 1 18 ∷
    -- 17 Decimal128, p1 precision
    entry FixedWidth 16 1 38 ∷
    -- 18 Decimal256, p1 precision
    entry FixedWidth 32 1 76 ∷
    -- 19 Time32, p1 unit: 0 s, 1 ms
    entry FixedWidth 4 0 1 ∷
    -- 20 Time64: 2 µs, 3 ns
    entry FixedWidth 8 2 3 ∷
    -- 21 Timestamp without zone, units 0 to 3
    entry FixedWidth 8 0 3 ∷
    -- 22 Duration, units 0 to 3
    entry FixedWidth 8 0 3 ∷
    -- 23 Interval year-month
    entry FixedWidth 4 0 0 ∷
    -- 24 Interval day-time
    entry FixedWidth 8 0 0 ∷
    -- 25 Interval month-day-nano
    entry FixedWidth 16 0 0 ∷
    -- 26 Utf8
    entry VariableSize 4 0 0 ∷
    -- 27 Binary
    entry VariableSize 4 0 0 ∷
    -- 28 LargeUtf8
    entry VariableSize 8 0 0 ∷
    -- 29 LargeBinary
    entry VariableSize 8 0 0 ∷
    -- 30 FixedSizeBinary, p1 width
    entry FixedWidth 0 0 16777216 ∷
    -- 31 Utf8View
    entry View 16 0 0 ∷
    -- 32 BinaryView
    entry View 16 0 0 ∷
    -- 33 List
    entry Lists 4 0 0 ∷
    -- 34 LargeList
    entry Lists 8 0 0 ∷
    -- 35 ListView
    entry ListView 4 0 0 ∷
    -- 36 LargeListView
    entry ListView 8 0 0 ∷
    -- 37 FixedSizeList, p1 rows
    entry FixedList 0 0 16777216 ∷
    -- 38 Struct
    entry Struct 0 0 0 ∷
    -- 39 dense Union
    entry DenseUnion 1 0 0 ∷
    -- 40 sparse Union
    entry SparseUnion 1 0 0 ∷
    -- 41 Dictionary, p1 key code
    entry Dictionary 0 2 9 ∷
    -- 42 Map, p1 sorted
    entry Lists 4 0 1 ∷
    -- 43 RunEndEncoded
    entry Runs 0 0 0 ∷
    []

-- the entry of a code; the codes above 43 are unknown, and fault 11 keeps them out
unfoldable pub entry_of : ℕ → Entry
entry_of code = get_or entries code (entry Null 0 0 0)

unfoldable pub layout_of : ℕ → Layout
layout_of code = (entry_of code).layout

-- the width of an integer of that code, where only integers stand: 1 for 2 and 6, 2 for 3 and 7, 4 for 4 and 8, else 8
unfoldable pub integer_width : ℕ → ℕ
integer_width code = cond (eqb code 2 || eqb code 6) 1 (cond (eqb code 3 || eqb code 7) 2 (cond (eqb code 4 || eqb code 8) 4 8))

-- the width of an element of the first buffer: FixedSizeBinary has p1 bytes, a Dictionary's key is an integer of code p1
unfoldable pub width_of : ℕ → ℕ → ℕ
width_of code p1 = cond (eqb code 30) p1 (cond (eqb code 41) (integer_width p1) (entry_of code).width)

-- "p1, p2 (i32), 0 where unused": p1 lies in its code's range
unfoldable pub p1_fits : ℕ → ℕ → Bool
p1_fits code p1 = leb (entry_of code).low p1 && leb p1 (entry_of code).high

-- "15 to 18 Decimal32 to Decimal256"
unfoldable pub is_decimal : ℕ → Bool
is_decimal code = leb 15 code && leb code 18

-- "p2 scale -128 to 127", where a negative number reads as 2 ^ 32 more
unfoldable pub p2_fits : ℕ → ℕ → Bool
p2_fits code p2 = cond (is_decimal code) (ltb p2 128 || leb (2 ^ 32 - 128) p2) (eqb p2 0)

-- "26 Utf8 .. 28 LargeUtf8 .. 31 Utf8View"
abbrev pub is_text : ℕ → Bool
is_text code = eqb code 26 || eqb code 28 || eqb code 31

-- "39 dense and 40 sparse Union"
unfoldable pub is_union : ℕ → Bool
is_union code = eqb code 39 || eqb code 40

-- "42 Map"
abbrev pub is_map : ℕ → Bool
is_map code = eqb code 42

-- "Dictionary (p1 key code 2 to 9)": of these, 2 to 5 are signed
unfoldable pub key_signed : ℕ → Bool
key_signed p1 = leb p1 5

-- the negative numbers of w bytes, two's complement, read as this number or a larger one
unfoldable pub sign_bit : ℕ → ℕ
sign_bit w = 2 ^ (8 * w) / 2

-- "a bitmap on 0, 39, 40 or 43" is a fault
abbrev pub takes_bitmap : Layout → Bool
takes_bitmap Null = false
takes_bitmap Boolean = true
takes_bitmap FixedWidth = true
takes_bitmap VariableSize = true
takes_bitmap View = true
takes_bitmap Lists = true
takes_bitmap ListView = true
takes_bitmap FixedList = true
takes_bitmap Struct = true
takes_bitmap DenseUnion = false
takes_bitmap SparseUnion = false
takes_bitmap Dictionary = true
takes_bitmap Runs = false

-- "Children: one for 33 to 37, 41, 42; two for 43; any for 38 to 40; else none."
abbrev pub child_rule : Layout → Count
child_rule Null = Exactly 0
child_rule Boolean = Exactly 0
child_rule FixedWidth = Exactly 0
child_rule VariableSize = Exactly 0
child_rule View = Exactly 0
child_rule Lists = Exactly 1
child_rule ListView = Exactly 1
child_rule FixedList = Exactly 1
child_rule Struct = AtLeast 0
child_rule DenseUnion = AtLeast 0
child_rule SparseUnion = AtLeast 0
child_rule Dictionary = Exactly 1
child_rule Runs = Exactly 2

-- "Buffers: none for 0, 37, 38, 43; two for 26 to 29, 35, 36, 39; at least one for 31, 32; else one."
abbrev pub buffer_rule : Layout → Count
buffer_rule Null = Exactly 0
buffer_rule Boolean = Exactly 1
buffer_rule FixedWidth = Exactly 1
buffer_rule VariableSize = Exactly 2
buffer_rule View = AtLeast 1
buffer_rule Lists = Exactly 1
buffer_rule ListView = Exactly 2
buffer_rule FixedList = Exactly 0
buffer_rule Struct = Exactly 0
buffer_rule DenseUnion = Exactly 2
buffer_rule SparseUnion = Exactly 1
buffer_rule Dictionary = Exactly 1
buffer_rule Runs = Exactly 0

-- a number of children or buffers is as the rule says
abbrev pub counts : Count → ℕ → Bool
counts (Exactly n) x = eqb x n
counts (AtLeast n) x = leb n x
