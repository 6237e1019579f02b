-- Cases of written rows back to a table: the given images, the strings and what is built of them, or the refusal, one table.
-- What is built is laid out from a description of its Arrow columns too.
use Rattle.std.specs.Prelude.{List, [], ◌∷◌, ◌++◌, ℕ, ◌-◌, ◌^◌, length, replicate}
use Rattle.image.specs.Bytes.{ascii, number_bytes}
use Rattle.cases.specs.Build.{Column, Stored, u32, column, image, built_image, field, nullable, stored, numbers, texts, lists, masked}
use Rattle.cases.specs.Calls.{build, refused, too_long, built, Case, ◌answers◌}
use Rattle.cases.specs.Cases.{int8, decimal32, utf8, binary, fixed_size_binary, list, struct, leaf, session_left, list_of, runs_of, dictionary_of, map_of, map_at_root, in_list, bytes_of, text_of, view_of, half_and_key, half}

abbrev pub null : ℕ
null = 0

abbrev pub boolean : ℕ
boolean = 1

abbrev pub large_utf8 : ℕ
large_utf8 = 28

abbrev pub large_list : ℕ
large_list = 34

-- a buffer that holds 9s
abbrev pub nines : ℕ → List ℕ
nines n = replicate n 9

-- the string is n rows of the image's type, which build that column; the buffer is as long as its image
unfoldable pub reads : List ℕ → ℕ → List ℕ → Column → Case
reads s n b c = build s n b (nines (length (built_image c))) answers built (built_image c) []

-- the string is not n rows of the image's type
unfoldable pub not_rows : List ℕ → ℕ → List ℕ → Case
not_rows s n b = build s n b (nines 3) answers (refused 24 0 0 ++ nines 3)

-- a row of text as it is written
abbrev pub written_text : List ℕ → List ℕ
written_text b = 1 ∷ u32 (length b) ++ b

-- Columns without children. What the given images store is not read.

unfoldable pub int8_of : Stored → Column
int8_of d = leaf (field int8 0 "") d

unfoldable pub boolean_of : Stored → Column
boolean_of d = leaf (nullable (field boolean 0 "yes")) d

unfoldable pub null_of : ℕ → Column
null_of n = leaf (field null 0 "") (stored n [])

-- a Decimal32 of precision 9 and scale 3, with a name
unfoldable pub scaled_of : Stored → Column
scaled_of d = leaf (record { code = decimal32; p1 = 9; p2 = 3; name = ascii "per million"; flag = 1; id = 0 }) d

unfoldable pub wide_of : ℕ → Stored → Column
wide_of width d = leaf (field fixed_size_binary width "") d

unfoldable pub simple_cases : List Case
simple_cases =
    -- "Under a null, values are zero"
    reads session_left 3 (1 ∷ 5 ∷ 0 ∷ 1 ∷ 7 ∷ []) (int8_of (masked (1 ∷ 0 ∷ 1 ∷ []) (numbers 1 (5 ∷ 0 ∷ 7 ∷ []))))
    -- no rows: a bitmap of no bytes
    ∷ reads session_left 0 [] (int8_of (numbers 1 []))
    -- nine rows: a bitmap of two bytes, whose "spare bits are 0"
    ∷ reads session_left 9 (0 ∷ 0 ∷ 0 ∷ 0 ∷ 0 ∷ 0 ∷ 0 ∷ 0 ∷ 1 ∷ 255 ∷ [])
    (int8_of (masked (0 ∷ 0 ∷ 0 ∷ 0 ∷ 0 ∷ 0 ∷ 0 ∷ 0 ∷ 1 ∷ []) (numbers 1 (0 ∷ 0 ∷ 0 ∷ 0 ∷ 0 ∷ 0 ∷ 0 ∷ 0 ∷ 255 ∷ []))))
    -- behind the image the buffer stays; a byte too little
    ∷ build session_left 1 (0 ∷ []) (nines 60) answers built (built_image (int8_of (masked (0 ∷ []) (numbers 1 (0 ∷ []))))) (nines 2)
    ∷ build session_left 1 (0 ∷ []) (nines 57) answers too_long (nines 57)
    ∷ reads (image (boolean_of (stored 0 ([] ∷ [])))) 4 (1 ∷ 1 ∷ 0 ∷ 1 ∷ 0 ∷ 1 ∷ 1 ∷ []) (boolean_of (masked (1 ∷ 0 ∷ 1 ∷ 1 ∷ []) (stored 4 ((9 ∷ []) ∷ []))))
    -- code 0 has no bitmap
    ∷ reads (image (null_of 1)) 2 (1 ∷ 1 ∷ []) (null_of 2)
    ∷ reads (image (scaled_of (numbers 4 (1 ∷ [])))) 2 (0 ∷ 1 ∷ 1 ∷ 2 ∷ 3 ∷ 4 ∷ []) (scaled_of (masked (0 ∷ 1 ∷ []) (numbers 4 (0 ∷ 67305985 ∷ []))))
    ∷ reads (image (wide_of 3 (stored 0 ([] ∷ [])))) 2 (1 ∷ 7 ∷ 8 ∷ 9 ∷ 0 ∷ []) (wide_of 3 (masked (1 ∷ 0 ∷ []) (stored 2 ((7 ∷ 8 ∷ 9 ∷ 0 ∷ 0 ∷ 0 ∷ []) ∷ []))))
    ∷ reads (image (wide_of 0 (stored 0 ([] ∷ [])))) 2 (1 ∷ 0 ∷ []) (wide_of 0 (masked (1 ∷ 0 ∷ []) (stored 2 ([] ∷ []))))
    ∷ []

-- Text and binary. é is C3 A9.

abbrev pub text_type : List ℕ
text_type = text_of (0 ∷ []) []

-- rows of LargeUtf8, by their offsets and bytes
unfoldable pub large_text_of : Stored → Column
large_text_of d = leaf (field large_utf8 0 "") d

unfoldable pub binary_column : Stored → Column
binary_column d = leaf (field binary 0 "") d

unfoldable pub text_rows : List Case
text_rows =
    reads text_type 4 (written_text (0xC3 ∷ 0xA9 ∷ []) ++ 0 ∷ written_text [] ++ written_text (0x61 ∷ []))
    (leaf (field utf8 0 "") (masked (1 ∷ 0 ∷ 1 ∷ 1 ∷ []) (bytes_of (0 ∷ 2 ∷ 2 ∷ 2 ∷ 3 ∷ []) (0xC3 ∷ 0xA9 ∷ 0x61 ∷ []))))
    -- one offset where there are no rows
    ∷ reads text_type 0 [] (leaf (field utf8 0 "") (bytes_of (0 ∷ []) []))
    -- offsets of eight bytes
    ∷ reads (image (large_text_of (stored 0 (number_bytes 8 0 ∷ [] ∷ [])))) 1 (written_text (0x61 ∷ 0x62 ∷ []))
    (large_text_of (masked (1 ∷ []) (stored 1 ((number_bytes 8 0 ++ number_bytes 8 2) ∷ (0x61 ∷ 0x62 ∷ []) ∷ []))))
    -- "ill-formed text for code 26 or 28", and for no other code
    ∷ not_rows text_type 1 (written_text (0xC3 ∷ []))
    ∷ not_rows text_type 2 (written_text (0xC3 ∷ []) ++ written_text (0xA9 ∷ []))
    ∷ not_rows (image (large_text_of (stored 0 (number_bytes 8 0 ∷ [] ∷ [])))) 1 (written_text (0xFF ∷ []))
    ∷ reads (image (binary_column (bytes_of (0 ∷ []) []))) 1 (written_text (0xC3 ∷ [])) (binary_column (masked (1 ∷ []) (bytes_of (0 ∷ 1 ∷ []) (0xC3 ∷ []))))
    ∷ []

-- Lists and Structs.

-- a List of Int8, and a LargeList of rows without values
unfoldable pub list_column : Stored → Stored → Column
list_column d items = column (field list 0 "") d (leaf (field int8 0 "item") items ∷ [])

unfoldable pub large_list_of : Stored → ℕ → Column
large_list_of d n = column (field large_list 0 "") d (leaf (field null 0 "item") (stored n []) ∷ [])

-- a Struct of a Null, an Int8 and a text
unfoldable pub struct_column : Stored → ℕ → Stored → Stored → Column
struct_column d n numbers texts =
    column (nullable (field struct 0 "row")) d
    (leaf (field null 0 "n") (stored n []) ∷ leaf (field int8 0 "i") numbers ∷ leaf (nullable (field utf8 0 "t")) texts ∷ [])

-- a Struct of a List of Int8 and a Struct of an Int8: the nodes of depth 3 follow those of depth 2
unfoldable pub deep_of : Stored → Stored → Stored → Stored → Stored → Column
deep_of d lists items inner values =
    column (field struct 0 "") d
    (column (field list 0 "l") lists (leaf (field int8 0 "item") items ∷ [])
    ∷ column (field struct 0 "s") inner (leaf (field int8 0 "i") values ∷ [])
    ∷ [])

unfoldable pub no_children : Stored → Column
no_children d = leaf (field struct 0 "") d

unfoldable pub nested_rows : List Case
nested_rows =
    -- a null list, an empty one and one of 4 and a null: "list and text offsets begin at 0"
    reads (list_of (4 ∷ 6 ∷ 8 ∷ []) (9 ∷ 9 ∷ 9 ∷ 9 ∷ 1 ∷ 2 ∷ 3 ∷ 4 ∷ [])) 3 ((0 ∷ 1 ∷ u32 0) ++ (1 ∷ u32 2) ++ (1 ∷ 4 ∷ 0 ∷ []))
    (list_column (masked (0 ∷ 1 ∷ 1 ∷ []) (lists (0 ∷ 0 ∷ 0 ∷ 2 ∷ []))) (masked (1 ∷ 0 ∷ []) (numbers 1 (4 ∷ 0 ∷ []))))
    ∷ reads (list_of (0 ∷ []) []) 0 [] (list_column (lists (0 ∷ [])) (numbers 1 []))
    ∷ reads (image (large_list_of (stored 0 (number_bytes 8 0 ∷ [])) 0)) 2 (0 ∷ (1 ∷ u32 3) ++ (1 ∷ 1 ∷ 1 ∷ []))
    (large_list_of (masked (0 ∷ 1 ∷ []) (stored 2 ((number_bytes 8 0 ++ number_bytes 8 0 ++ number_bytes 8 3) ∷ []))) 3)
    -- "struct children null where they can be"
    ∷ reads (image (struct_column (stored 1 []) 1 (numbers 1 (5 ∷ [])) (texts ("a" ∷ [])))) 2 ((0 ∷ 1 ∷ 1 ∷ 1 ∷ 8 ∷ []) ++ written_text (0x62 ∷ []))
    (struct_column (masked (0 ∷ 1 ∷ []) (stored 2 [])) 2 (masked (0 ∷ 1 ∷ []) (numbers 1 (0 ∷ 8 ∷ []))) (masked (0 ∷ 1 ∷ []) (texts ("" ∷ "b" ∷ []))))
    ∷ reads (image (deep_of (stored 0 []) (lists (0 ∷ [])) (numbers 1 []) (stored 0 []) (numbers 1 []))) 2 ((0 ∷ 1 ∷ 1 ∷ u32 1) ++ (1 ∷ 3 ∷ 1 ∷ 0 ∷ []))
    (deep_of (masked (0 ∷ 1 ∷ []) (stored 2 [])) (masked (0 ∷ 1 ∷ []) (lists (0 ∷ 0 ∷ 1 ∷ []))) (masked (1 ∷ []) (numbers 1 (3 ∷ [])))
    (masked (0 ∷ 1 ∷ []) (stored 2 [])) (masked (0 ∷ 0 ∷ []) (numbers 1 (0 ∷ 0 ∷ []))))
    ∷ reads (image (no_children (stored 0 []))) 2 (1 ∷ 0 ∷ []) (no_children (masked (1 ∷ 0 ∷ []) (stored 2 [])))
    ∷ []

-- "24 for a string that is not that many rows by the row rule"
unfoldable pub other_strings : List Case
other_strings =
    -- rows missing, bytes left over, and no byte where a row begins
    not_rows session_left 4 (1 ∷ 5 ∷ 0 ∷ 1 ∷ 7 ∷ [])
    ∷ not_rows session_left 2 (1 ∷ 5 ∷ 0 ∷ 1 ∷ 7 ∷ [])
    ∷ not_rows session_left 0 (0 ∷ [])
    ∷ not_rows session_left 1 (1 ∷ [])
    ∷ not_rows session_left (2 ^ 32 - 1) (0 ∷ [])
    -- another mark than 00 and 01, 00 where there is no bitmap, another Boolean
    ∷ not_rows session_left 1 (2 ∷ 5 ∷ [])
    ∷ not_rows (image (null_of 1)) 1 (0 ∷ [])
    ∷ not_rows (image (boolean_of (stored 0 ([] ∷ [])))) 1 (1 ∷ 2 ∷ [])
    -- a text and a list that end early
    ∷ not_rows text_type 1 (1 ∷ u32 2 ++ (0x61 ∷ []))
    ∷ not_rows text_type 1 (1 ∷ u32 (2 ^ 32 - 1) ++ (0x61 ∷ []))
    ∷ not_rows text_type 1 (1 ∷ 0 ∷ 0 ∷ 0 ∷ [])
    ∷ not_rows (list_of (0 ∷ []) []) 1 (1 ∷ u32 2 ++ (0 ∷ []))
    ∷ []

-- "23 for another code, 24 .., in this order after 10 to 19; then 43"
unfoldable pub refusals : List Case
refusals =
    build (map_at_root "key") 1 (2 ∷ []) [] answers refused 23 0 0
    ∷ build (view_of (replicate 16 0)) 0 [] [] answers refused 23 0 0
    ∷ build (dictionary_of (numbers 1 (0 ∷ []))) 0 [] [] answers refused 23 0 0
    ∷ build (runs_of 1 (1 ∷ []) ("a" ∷ [])) 0 [] [] answers refused 23 0 0
    -- also of a node that has no rows to be read
    ∷ build (in_list (map_of "item" "key")) 1 (0 ∷ []) [] answers refused 23 0 0
    ∷ build [] 0 [] [] answers refused 10 0 0
    ∷ build half 1 (2 ∷ []) [] answers refused 19 0 0
    ∷ build half_and_key 1 (2 ∷ []) [] answers refused 18 0 2
    ∷ build session_left 1 (2 ∷ []) [] answers refused 24 0 0
    ∷ build session_left 0 [] [] answers too_long []
    ∷ []

-- the table
unfoldable pub read_back : List Case
read_back = simple_cases ++ text_rows ++ nested_rows ++ other_strings ++ refusals
