-- Cases P1 to P10 of document 01 ("Pairs from the proof desk"), cases of the first unequal row, of text, of fewer digits and of Map
-- names: their images, their calls and the answers, one table. Each image is laid out from a description of its Arrow columns.
use mathlib.Core.List.{List, [], ◌∷◌, ◌++◌, flat_map}
use Rattle.std.specs.Prelude.{ℕ, zero, suc, ◌*◌, ◌-◌, ◌^◌, length}
use Prim.Native.String.{String}
use Rattle.cases.specs.Build.{Column, Field, Stored, u32, column, image, field, nullable, stored, numbers, texts, lists, masked}
use Rattle.cases.specs.Calls.{check, compare, compare_range, difference, compare_digits, map_names, write, accepted, equal, unequal, have_names, other_names, nowhere, at_row, refused, written, too_long, Case, ◌answers◌}

-- The type codes that the cases use.
abbrev pub int8 : ℕ
int8 = 2

abbrev pub int16 : ℕ
int16 = 3

abbrev pub float32 : ℕ
float32 = 11

abbrev pub decimal32 : ℕ
decimal32 = 15

abbrev pub decimal64 : ℕ
decimal64 = 16

abbrev pub decimal128 : ℕ
decimal128 = 17

abbrev pub utf8 : ℕ
utf8 = 26

abbrev pub binary : ℕ
binary = 27

abbrev pub utf8_view : ℕ
utf8_view = 31

abbrev pub fixed_size_binary : ℕ
fixed_size_binary = 30

abbrev pub list : ℕ
list = 33

abbrev pub struct : ℕ
struct = 38

abbrev pub dictionary : ℕ
dictionary = 41

abbrev pub map : ℕ
map = 42

abbrev pub run_end_encoded : ℕ
run_end_encoded = 43

-- a column without children
abbrev pub leaf : Field → Stored → Column
leaf f d = column f d []

-- The session's tables: Int8, three rows, the middle one null. They differ in the byte under the null.
unfoldable pub session : ℕ → List ℕ
session middle = image (leaf (field int8 0 "") (masked (1 ∷ 0 ∷ 1 ∷ []) (numbers 1 (5 ∷ middle ∷ 7 ∷ []))))

unfoldable pub session_left : List ℕ
session_left = session 0

unfoldable pub session_right : List ℕ
session_right = session 9

-- the bytes of the session's first line after its frame byte; the second line differs in the last four only
unfoldable pub session_line : List ℕ → List ℕ
session_line end =
    (0x01 ∷ 0x00 ∷ 0x01 ∷ 0x00 ∷ [])
    ++ (0x02 ∷ 0x02 ∷ 0x00 ∷ 0x00 ∷ [])
    ++ (0x00 ∷ 0x00 ∷ 0x00 ∷ 0x00 ∷ [])
    ++ (0x00 ∷ 0x00 ∷ 0x00 ∷ 0x00 ∷ [])
    ++ (0x03 ∷ 0x00 ∷ 0x00 ∷ 0x00 ∷ [])
    ++ (0x00 ∷ 0x00 ∷ 0x00 ∷ 0x00 ∷ [])
    ++ (0x00 ∷ 0x00 ∷ 0x00 ∷ 0x00 ∷ [])
    ++ (0x3b ∷ 0x00 ∷ 0x00 ∷ 0x00 ∷ [])
    ++ (0x01 ∷ 0x00 ∷ 0x00 ∷ 0x00 ∷ [])
    ++ (0x00 ∷ 0x00 ∷ 0x00 ∷ 0x00 ∷ [])
    ++ (0x01 ∷ 0x00 ∷ 0x00 ∷ 0x00 ∷ [])
    ++ (0x00 ∷ 0x00 ∷ 0x01 ∷ 0x00 ∷ [])
    ++ (0x38 ∷ 0x00 ∷ 0x00 ∷ 0x00 ∷ [])
    ++ (0x03 ∷ 0x00 ∷ 0x00 ∷ 0x00 ∷ [])
    ++ end

-- a List of Int8
unfoldable pub list_of : List ℕ → List ℕ → List ℕ
list_of offsets rows = image (column (field list 0 "") (lists offsets) (leaf (field int8 0 "item") (numbers 1 rows) ∷ []))

-- n rows in runs: the run ends, and a text for each run
unfoldable pub runs_of : ℕ → List ℕ → List String → List ℕ
runs_of n ends values =
    image
    (column (field run_end_encoded 0 "") (stored n [])
    (leaf (field int16 0 "run_ends") (numbers 2 ends) ∷ leaf (field utf8 0 "values") (texts values) ∷ []))

-- Int8 keys into two values: the text "a", and a null
unfoldable pub dictionary_of : Stored → List ℕ
dictionary_of keys =
    image
    (column (nullable (field dictionary int8 "")) keys
    (leaf (nullable (field utf8 0 "")) (masked (1 ∷ 0 ∷ []) (texts ("a" ∷ "" ∷ []))) ∷ []))

-- one Float32, by its bits
unfoldable pub float_of : ℕ → List ℕ
float_of pattern = image (leaf (field float32 0 "") (numbers 4 (pattern ∷ [])))

-- one Map row of two entries, by the fields of the Map, of its entries and of the key and the value
unfoldable pub map_with : Field → Field → Field → Field → Column
map_with of entries key value =
    column of (lists (0 ∷ 2 ∷ []))
    (column entries (stored 2 []) (leaf key (texts ("a" ∷ "b" ∷ [])) ∷ leaf value (numbers 1 (1 ∷ 2 ∷ [])) ∷ []) ∷ [])

-- by the Map's name and the key's
unfoldable pub map_of : String → String → Column
map_of name key = map_with (field map 0 name) (field struct 0 "entries") (field utf8 0 key) (nullable (field int8 0 "value"))

-- one row of a List that holds the one row of a column, of a Dictionary, and of a Map from 7 to that row
unfoldable pub in_list : Column → List ℕ
in_list c = image (column (field list 0 "") (lists (0 ∷ 1 ∷ [])) (c ∷ []))

unfoldable pub in_dictionary : Column → List ℕ
in_dictionary c = image (column (field dictionary int8 "") (numbers 1 (0 ∷ [])) (c ∷ []))

unfoldable pub in_map : Column → Column
in_map c =
    column (field map 0 "item") (lists (0 ∷ 1 ∷ []))
    (column (field struct 0 "entries") (stored 1 []) (leaf (field int8 0 "key") (numbers 1 (7 ∷ [])) ∷ c ∷ []) ∷ [])

-- the Map as the root, and inside a List
unfoldable pub map_at_root : String → List ℕ
map_at_root key = image (map_of "" key)

unfoldable pub map_in_list : String → List ℕ
map_in_list key = in_list (map_of "item" key)

-- three rows of FixedSizeBinary, no bytes stored
unfoldable pub binary_of : ℕ → List ℕ
binary_of width = image (leaf (field fixed_size_binary width "") (stored 3 ([] ∷ [])))

-- -1 as an i32
abbrev pub minus_one : ℕ
minus_one = 2 ^ 32 - 1

-- one Int8 row under so many Structs
unfoldable pub under : ℕ → Column
under zero = leaf (field int8 0 "") (numbers 1 (7 ∷ []))
under (suc n) = column (field struct 0 "") (stored 1 []) (under n ∷ [])

-- a column of that depth, Structs all but the last
unfoldable pub depth_of : ℕ → List ℕ
depth_of depth = image (under (depth - 1))

-- "P1 the session's tables: equal."
unfoldable pub p1 : List Case
p1 = compare session_left session_right answers equal ∷ []

-- "P2 offsets 0,2,4 against 4,6,8, same child rows: equal."
unfoldable pub p2 : List Case
p2 =
    compare (list_of (0 ∷ 2 ∷ 4 ∷ []) (1 ∷ 2 ∷ 3 ∷ 4 ∷ [])) (list_of (4 ∷ 6 ∷ 8 ∷ []) (9 ∷ 9 ∷ 9 ∷ 9 ∷ 1 ∷ 2 ∷ 3 ∷ 4 ∷ []))
    answers equal
    ∷ []

-- "P3 run ends 2,5 of a,b against 1,2,5 of a,a,b: equal."
unfoldable pub p3 : List Case
p3 =
    compare (runs_of 5 (2 ∷ 5 ∷ []) ("a" ∷ "b" ∷ [])) (runs_of 5 (1 ∷ 2 ∷ 5 ∷ []) ("a" ∷ "a" ∷ "b" ∷ []))
    answers equal
    ∷ []

-- "P4 null key against key to a null value: unequal."
unfoldable pub p4 : List Case
p4 = compare (dictionary_of (masked (0 ∷ []) (numbers 1 (0 ∷ [])))) (dictionary_of (numbers 1 (1 ∷ []))) answers unequal ∷ []

-- "P5 Float32 bits 00000000 against 80000000 hexadecimal: unequal."
unfoldable pub p5 : List Case
p5 = compare (float_of 0x00000000) (float_of 0x80000000) answers unequal ∷ []

-- "P6 root Maps differing in key name: equal"; "The second pair of P6, Maps inside a List, becomes equal."
unfoldable pub p6 : List Case
p6 =
    compare (map_at_root "key") (map_at_root "keys") answers equal
    ∷ compare (map_in_list "key") (map_in_list "keys") answers equal
    ∷ []

-- "P7 start 3 count 0 of 3 rows: equal; start 4: 21."
unfoldable pub p7 : List Case
p7 =
    compare_range session_left session_right 3 3 0 answers equal
    ∷ compare_range session_left session_right 4 3 0 answers refused 21 0 0
    ∷ compare_range session_left session_right 3 4 0 answers refused 21 1 0
    ∷ []

-- "P8 FixedSizeBinary width 0: accepted; -1: 11."
unfoldable pub p8 : List Case
p8 = check (binary_of 0) answers accepted ∷ check (binary_of minus_one) answers refused 11 0 0 ∷ []

-- "P9 the session's five row bytes into 5: written; into 4: 43." Of a longer buffer the rest stays.
unfoldable pub p9 : List Case
p9 =
    write session_left 0 3 (9 ∷ 9 ∷ 9 ∷ 9 ∷ 9 ∷ []) answers written 5 (1 ∷ 5 ∷ 0 ∷ 1 ∷ 7 ∷ [])
    ∷ write session_left 0 3 (9 ∷ 9 ∷ 9 ∷ 9 ∷ []) answers too_long (9 ∷ 9 ∷ 9 ∷ 9 ∷ [])
    ∷ write session_left 0 3 (9 ∷ 9 ∷ 9 ∷ 9 ∷ 9 ∷ 8 ∷ 7 ∷ []) answers written 5 (1 ∷ 5 ∷ 0 ∷ 1 ∷ 7 ∷ 8 ∷ 7 ∷ [])
    ∷ []

-- "P10 depth 16 accepted, 17: 12": the node of depth 17 has number 16.
unfoldable pub p10 : List Case
p10 = check (depth_of 16) answers accepted ∷ check (depth_of 17) answers refused 12 0 16 ∷ []

-- The row where two ranges part, "counted from 0 at the start of the range": five rows in runs, of which the last differs; a
-- null key against a key to a null value; ranges without rows; and refusals, as P7's and of unequal types.
unfoldable pub runs_left : List ℕ
runs_left = runs_of 5 (2 ∷ 5 ∷ []) ("a" ∷ "b" ∷ [])

unfoldable pub runs_right : List ℕ
runs_right = runs_of 5 (1 ∷ 2 ∷ 4 ∷ 5 ∷ []) ("a" ∷ "a" ∷ "b" ∷ "c" ∷ [])

unfoldable pub differences : List Case
differences =
    difference runs_left runs_right 0 0 5 answers at_row 4
    ∷ difference runs_left runs_right 2 2 3 answers at_row 2
    ∷ difference runs_left runs_right 0 1 4 answers at_row 1
    ∷ difference runs_left runs_right 0 0 4 answers nowhere
    ∷ difference (dictionary_of (masked (0 ∷ []) (numbers 1 (0 ∷ [])))) (dictionary_of (numbers 1 (1 ∷ []))) 0 0 1 answers at_row 0
    ∷ difference session_left session_right 0 0 3 answers nowhere
    ∷ difference session_left session_right 3 3 0 answers nowhere
    ∷ difference session_left session_right 4 3 0 answers refused 21 0 0
    ∷ difference session_left session_right 3 4 0 answers refused 21 1 0
    ∷ difference (map_in_list "key") (map_at_root "key") 0 0 0 answers refused 20 0 0
    ∷ []

-- Text ("A headword arrived with half a letter"): é is C3 A9, and C3 alone is half of it.

-- rows of text or binary, by their offsets and the bytes that these count in
unfoldable pub bytes_of : List ℕ → List ℕ → Stored
bytes_of offsets bytes = stored (length offsets - 1) (flat_map u32 offsets ∷ bytes ∷ [])

unfoldable pub text_of : List ℕ → List ℕ → List ℕ
text_of offsets bytes = image (leaf (field utf8 0 "") (bytes_of offsets bytes))

-- one row, its view without a data buffer
unfoldable pub view_of : List ℕ → List ℕ
view_of view = image (leaf (field utf8_view 0 "") (stored 1 (view ∷ [])))

-- a Dictionary of one row whose key is 0, and of two values, of which the second is half a letter
unfoldable pub unused_half : List ℕ
unused_half = image (column (field dictionary int8 "") (numbers 1 (0 ∷ [])) (leaf (field utf8 0 "") (bytes_of (0 ∷ 1 ∷ 2 ∷ []) (0x61 ∷ 0xC3 ∷ [])) ∷ []))

-- a Struct of half a letter and a Dictionary whose key is outside its values
unfoldable pub half_and_key : List ℕ
half_and_key =
    image
    (column (field struct 0 "") (stored 1 [])
    (leaf (field utf8 0 "t") (bytes_of (0 ∷ 1 ∷ []) (0xC3 ∷ []))
    ∷ column (field dictionary int8 "d") (numbers 1 (1 ∷ [])) (leaf (field int8 0 "") (numbers 1 (7 ∷ [])) ∷ [])
    ∷ []))

unfoldable pub letter : List ℕ
letter = text_of (0 ∷ 2 ∷ []) (0xC3 ∷ 0xA9 ∷ [])

unfoldable pub half : List ℕ
half = text_of (0 ∷ 1 ∷ []) (0xC3 ∷ 0xA9 ∷ [])

unfoldable pub text_cases : List Case
text_cases =
    check letter answers accepted
    ∷ check half answers refused 19 0 0
    -- a letter split over two rows is two ill-formed values
    ∷ check (text_of (0 ∷ 1 ∷ 2 ∷ []) (0xC3 ∷ 0xA9 ∷ [])) answers refused 19 0 0
    -- a null row is not judged, nor are bytes before the first row, nor binary values
    ∷ check (image (leaf (field utf8 0 "") (masked (0 ∷ []) (bytes_of (0 ∷ 1 ∷ []) (0xC3 ∷ []))))) answers accepted
    ∷ check (text_of (1 ∷ 2 ∷ []) (0xC3 ∷ 0x61 ∷ [])) answers accepted
    ∷ check (image (leaf (field binary 0 "") (bytes_of (0 ∷ 1 ∷ []) (0xC3 ∷ [])))) answers accepted
    -- an overlong form, a surrogate, and what is above U+10FFFF; the empty text, U+0000 and U+10FFFF
    ∷ check (text_of (0 ∷ 2 ∷ []) (0xC0 ∷ 0x80 ∷ [])) answers refused 19 0 0
    ∷ check (text_of (0 ∷ 3 ∷ []) (0xED ∷ 0xA0 ∷ 0x80 ∷ [])) answers refused 19 0 0
    ∷ check (text_of (0 ∷ 4 ∷ []) (0xF4 ∷ 0x90 ∷ 0x80 ∷ 0x80 ∷ [])) answers refused 19 0 0
    ∷ check (text_of (0 ∷ 0 ∷ 1 ∷ 5 ∷ []) (0x00 ∷ 0xF4 ∷ 0x8F ∷ 0xBF ∷ 0xBF ∷ [])) answers accepted
    -- a view
    ∷ check (view_of (1 ∷ 0 ∷ 0 ∷ 0 ∷ 0xC3 ∷ 0 ∷ 0 ∷ 0 ∷ 0 ∷ 0 ∷ 0 ∷ 0 ∷ 0 ∷ 0 ∷ 0 ∷ 0 ∷ [])) answers refused 19 0 0
    -- a dictionary's value that no key names is a row of the text node
    ∷ check unused_half answers refused 19 0 1
    -- 18 at a higher node before 19 at a lower, the left's 19 before the right's 10, and 19 before 20
    ∷ check half_and_key answers refused 18 0 2
    ∷ compare half [] answers refused 19 0 0
    ∷ compare letter half answers refused 19 1 0
    ∷ compare_range half session_left 0 0 1 answers refused 19 0 0
    ∷ []

-- Numbers "at fewer digits". A negative number of w bytes is written as 2 ^ (8 * w) more.
abbrev pub minus : ℕ → ℕ → ℕ
minus w x = 2 ^ (8 * w) - x

unfoldable pub decimal32_of : Stored → List ℕ
decimal32_of d = image (leaf (field decimal32 9 "") d)

unfoldable pub decimal64_of : List ℕ → List ℕ
decimal64_of xs = image (leaf (field decimal64 18 "") (numbers 8 xs))

-- 25, a null and -25 against 26, a null and -30; other bytes stand under the nulls
unfoldable pub frequencies : List ℕ
frequencies = decimal32_of (masked (1 ∷ 0 ∷ 1 ∷ []) (numbers 4 (25 ∷ 7 ∷ minus 4 25 ∷ [])))

unfoldable pub other_frequencies : List ℕ
other_frequencies = decimal32_of (masked (1 ∷ 0 ∷ 1 ∷ []) (numbers 4 (26 ∷ minus 4 9 ∷ minus 4 30 ∷ [])))

-- a Struct of one Decimal32 column
unfoldable pub struct_of_decimal : List ℕ
struct_of_decimal = image (column (field struct 0 "") (stored 1 []) (leaf (field decimal32 9 "d") (numbers 4 (25 ∷ [])) ∷ []))

unfoldable pub digit_cases : List Case
digit_cases =
    compare_digits frequencies other_frequencies 0 0 3 1 answers equal
    ∷ compare_digits frequencies other_frequencies 0 0 3 0 answers unequal
    ∷ compare_digits frequencies other_frequencies 0 0 3 2 answers equal
    -- a null against a number, also against 0
    ∷ compare_digits frequencies frequencies 0 1 1 1 answers unequal
    ∷ compare_digits (decimal32_of (masked (0 ∷ []) (numbers 4 (0 ∷ [])))) (decimal32_of (numbers 4 (0 ∷ []))) 0 0 1 9 answers unequal
    -- 4 and -4 are both 0, and 5 and -5 are 1 and -1
    ∷ compare_digits (decimal32_of (numbers 4 (4 ∷ 5 ∷ []))) (decimal32_of (numbers 4 (minus 4 4 ∷ minus 4 5 ∷ []))) 0 0 1 1 answers equal
    ∷ compare_digits (decimal32_of (numbers 4 (4 ∷ 5 ∷ []))) (decimal32_of (numbers 4 (minus 4 4 ∷ minus 4 5 ∷ []))) 0 0 2 1 answers unequal
    -- the ends of both widths: -(2 ^ 31) and 2 ^ 31 - 1, -(2 ^ 63) and 2 ^ 63 - 1
    ∷ compare_digits (decimal32_of (numbers 4 (2 ^ 31 ∷ (2 ^ 31 - 1) ∷ []))) (decimal32_of (numbers 4 (minus 4 2000000000 ∷ 2000000000 ∷ []))) 0 0 2 9 answers equal
    ∷ compare_digits (decimal32_of (numbers 4 ((2 ^ 31 - 1) ∷ []))) (decimal32_of (numbers 4 (2147483645 ∷ []))) 0 0 1 1 answers equal
    ∷ compare_digits (decimal64_of (2 ^ 63 ∷ (2 ^ 63 - 1) ∷ [])) (decimal64_of (minus 8 9223372036500000000 ∷ 9223372036500000000 ∷ [])) 0 0 2 9 answers equal
    ∷ compare_digits (decimal64_of (2 ^ 63 ∷ [])) (decimal64_of (minus 8 9223372036499999999 ∷ [])) 0 0 1 9 answers unequal
    -- 20 before 22, 22 before 21, 21 left before right
    ∷ compare_digits frequencies session_left 0 0 1 10 answers refused 20 0 0
    ∷ compare_digits frequencies other_frequencies 0 0 4 10 answers refused 22 0 0
    ∷ compare_digits frequencies other_frequencies 0 0 0 10 answers refused 22 0 0
    ∷ compare_digits frequencies other_frequencies 0 0 4 9 answers refused 21 0 0
    ∷ compare_digits frequencies other_frequencies 0 1 3 9 answers refused 21 1 0
    ∷ compare_digits frequencies other_frequencies 3 3 0 9 answers equal
    -- other roots, also with no digit dropped and no rows
    ∷ compare_digits session_left session_right 0 0 3 0 answers refused 22 0 0
    ∷ compare_digits session_left session_right 4 0 0 0 answers refused 22 0 0
    ∷ compare_digits (image (leaf (field decimal128 38 "") (stored 0 ([] ∷ [])))) (image (leaf (field decimal128 38 "") (stored 0 ([] ∷ [])))) 0 0 0 1 answers refused 22 0 0
    ∷ compare_digits struct_of_decimal struct_of_decimal 0 0 1 1 answers refused 22 0 0
    -- an image that is refused, before all of these
    ∷ compare_digits frequencies half 0 0 9 10 answers refused 19 1 0
    ∷ []

-- Labels of Maps that are not the root, beside those of `map_of "item" "key"`: "the entries' name and flag and the names of key and
-- value do not count", everything else does.
unfoldable pub other_labels : Column
other_labels = map_with (field map 0 "item") (nullable (field struct 0 "e")) (field utf8 0 "k") (nullable (field int8 0 "v"))

unfoldable pub other_name : Column
other_name = map_of "other" "key"

unfoldable pub other_flag : Column
other_flag = map_with (nullable (field map 0 "item")) (field struct 0 "entries") (field utf8 0 "key") (nullable (field int8 0 "value"))

unfoldable pub other_key_flag : Column
other_key_flag = map_with (field map 0 "item") (field struct 0 "entries") (nullable (field utf8 0 "key")) (nullable (field int8 0 "value"))

unfoldable pub other_value_flag : Column
other_value_flag = map_with (field map 0 "item") (field struct 0 "entries") (field utf8 0 "key") (field int8 0 "value")

-- a Struct of one Int8 column of that name
unfoldable pub struct_of : String → Column
struct_of name = column (field struct 0 "value") (stored 1 []) (leaf (field int8 0 name) (numbers 1 (5 ∷ [])) ∷ [])

unfoldable pub label_cases : List Case
label_cases =
    compare (in_list (map_of "item" "key")) (in_list other_labels) answers equal
    ∷ compare_range (in_list (map_of "item" "key")) (in_list other_labels) 0 0 1 answers equal
    ∷ compare (in_list (map_of "item" "key")) (in_list other_name) answers unequal
    ∷ compare (in_list (map_of "item" "key")) (in_list other_flag) answers unequal
    ∷ compare (in_list (map_of "item" "key")) (in_list other_key_flag) answers unequal
    ∷ compare_range (in_list (map_of "item" "key")) (in_list other_value_flag) 0 0 0 answers refused 20 0 0
    -- under a Dictionary the Map's own name and flag do not count
    ∷ compare (in_dictionary (map_of "item" "key")) (in_dictionary other_labels) answers equal
    ∷ compare (in_dictionary (map_of "item" "key")) (in_dictionary other_name) answers equal
    ∷ compare (in_dictionary (map_of "item" "key")) (in_dictionary other_flag) answers equal
    ∷ compare (in_dictionary (map_of "item" "key")) (in_dictionary other_key_flag) answers unequal
    -- as a Map's value its name does not count, and its flag does
    ∷ compare (image (in_map (map_of "item" "key"))) (image (in_map other_labels)) answers equal
    ∷ compare (image (in_map (map_of "item" "key"))) (image (in_map other_name)) answers equal
    ∷ compare (image (in_map (map_of "item" "key"))) (image (in_map other_flag)) answers unequal
    ∷ compare (in_list (in_map (map_of "item" "key"))) (in_list (in_map other_labels)) answers equal
    ∷ compare (in_list (in_map (map_of "item" "key"))) (in_list (in_map other_value_flag)) answers unequal
    -- names below a value count
    ∷ compare (in_list (in_map (struct_of "a"))) (in_list (in_map (struct_of "b"))) answers unequal
    ∷ []

-- "every Map's entries are named `entries` and its fields `key` and `value`"
unfoldable pub named : String → String → String → Column
named entries key value = map_with (field map 0 "") (field struct 0 entries) (field utf8 0 key) (field int8 0 value)

unfoldable pub name_cases : List Case
name_cases =
    map_names (image (named "entries" "key" "value")) answers have_names
    ∷ map_names (image (named "entrie" "key" "value")) answers other_names
    ∷ map_names (image (named "entries" "keys" "value")) answers other_names
    ∷ map_names (image (named "entries" "key" "")) answers other_names
    ∷ map_names (image (named "entries" "value" "key")) answers other_names
    ∷ map_names (image (named "Entries" "key" "value")) answers other_names
    -- below other nodes, and below a Map that has its names
    ∷ map_names (in_list (map_of "item" "key")) answers have_names
    ∷ map_names (in_list (map_of "item" "ke")) answers other_names
    ∷ map_names (in_dictionary (named "entries" "key" "values")) answers other_names
    ∷ map_names (image (in_map (map_of "value" "key"))) answers have_names
    ∷ map_names (image (in_map (map_of "item" "key"))) answers other_names
    ∷ map_names (in_list (in_map (map_of "value" "keys"))) answers other_names
    -- no Map; and what the check refuses
    ∷ map_names session_left answers have_names
    ∷ map_names half answers refused 19 0 0
    ∷ map_names [] answers refused 10 0 0
    ∷ []

-- the table
unfoldable pub cases : List Case
cases = p1 ++ p2 ++ p3 ++ p4 ++ p5 ++ p6 ++ p7 ++ p8 ++ p9 ++ p10 ++ differences ++ text_cases ++ digit_cases ++ label_cases ++ name_cases
