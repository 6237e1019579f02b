-- The rows that a string is, "by the row rule" (document 01, "A row's bytes, by the writer we add"), for rows of the
-- type that an image s has. A string is read from its front: what it begins with, and the bytes that follow.
use Rattle.std.specs.Prelude.{Bool, cond, ◌||◌, List, [], ◌∷◌, ℕ, zero, suc, length, take, drop, eqb, leb, ltb}
use Rattle.image.specs.declared.type_code.Layout.{Layout}
use Rattle.image.specs.declared.type_code.Layout.TheVariants.{Null, Boolean, FixedWidth, VariableSize, View, List as Lists, ListView, FixedList, Struct, DenseUnion, SparseUnion, Dictionary, Runs}
use Rattle.image.specs.Ranges.{every}
use Rattle.image.specs.Bytes.{byte_at, number_at}
use Rattle.image.specs.Record.{max_depth, node_count, code_of, first_child, child_count}
use Rattle.image.specs.TypeCode.{layout_of, takes_bitmap}
use Rattle.image.specs.Element.{element_width}
use Rattle.image.specs.Row.{Row, Rows, null, fixed, sized, joined, counted, none, more}
use Rattle.image.specs.Utf8.{well_formed}

-- "Types may hold codes 0 to 30, 33, 34 and 38."
unfoldable pub readable_code : List ℕ → ℕ → Bool
readable_code s k = leb (code_of s k) 30 || eqb (code_of s k) 33 || eqb (code_of s k) 34 || eqb (code_of s k) 38

unfoldable pub readable : List ℕ → Bool
readable s = every (readable_code s) 0 (node_count s)

pub data Parsed (A : Type 0) : Type 0 where
  -- the string does not begin so
  failed : Parsed A
  -- what it begins with, and the bytes that follow
  parsed : A → List ℕ → Parsed A

-- what was read, made into something else
abbrev pub made : {A B : Type 0} → (A → B) → Parsed A → Parsed B
made f failed = failed
made f (parsed x b) = parsed (f x) b

-- one thing, and then another that may depend on it
abbrev pub and_then : {A B : Type 0} → Parsed A → (A → List ℕ → Parsed B) → Parsed B
and_then failed f = failed
and_then (parsed x b) f = f x b

-- n bytes
unfoldable pub bytes_in : ℕ → List ℕ → Parsed (List ℕ)
bytes_in n b = cond (ltb (length b) n) failed (parsed (take n b) (drop n b))

-- a u32
unfoldable pub number_in : List ℕ → Parsed ℕ
number_in b = made (λ x. number_at 4 x 0) (bytes_in 4 b)

-- a row, and then rows
abbrev pub row_then : Parsed Row → (List ℕ → Parsed Rows) → Parsed Rows
row_then p f = and_then p (λ r rest. made (more r) (f rest))

-- n rows of one kind
unfoldable pub rows_of : (List ℕ → Parsed Row) → ℕ → List ℕ → Parsed Rows
rows_of row zero b = parsed none b
rows_of row (suc n) b = row_then (row b) (rows_of row n)

-- a row of each of the n nodes from c on
unfoldable pub row_of_each : (ℕ → List ℕ → Parsed Row) → ℕ → ℕ → List ℕ → Parsed Rows
row_of_each row c zero b = parsed none b
row_of_each row c (suc n) b = row_then (row c b) (row_of_each row (suc c) n)

-- "ill-formed text for code 26 or 28"
abbrev pub checked_text : ℕ → List ℕ → List ℕ → Parsed (List ℕ)
checked_text code x rest = cond (eqb code 26 || eqb code 28) (cond (well_formed x) (parsed x rest) failed) (parsed x rest)

-- "00 if its bitmap bit is 0; else 01 and the value": a code that may have no bitmap never writes 00
abbrev pub marked : Bool → (List ℕ → Parsed Row) → List ℕ → Parsed Row
marked bitmap value [] = failed
marked bitmap value (zero ∷ b) = cond bitmap (parsed null b) failed
marked bitmap value (suc zero ∷ b) = value b
marked bitmap value (suc (suc x) ∷ b) = failed

-- "Null: nothing. Boolean: 00 or 01. Fixed widths: the bytes. Text, binary ..: u32 length, bytes. List kinds ..: u32
-- count, child rows. .. Structs: child rows." `row c` reads a row of node c.
abbrev pub value_in : Layout → (ℕ → List ℕ → Parsed Row) → List ℕ → ℕ → List ℕ → Parsed Row
value_in Null row s k b = parsed (fixed []) b
value_in Boolean row s k b = cond (leb (byte_at b 0) 1) (made fixed (bytes_in 1 b)) failed
value_in FixedWidth row s k b = made fixed (bytes_in (element_width s k) b)
value_in VariableSize row s k b = made sized (and_then (and_then (number_in b) bytes_in) (checked_text (code_of s k)))
value_in Lists row s k b = made counted (and_then (number_in b) (rows_of (row (first_child s k))))
value_in Struct row s k b = made joined (row_of_each row (first_child s k) (child_count s k) b)
-- 23 keeps the other layouts out
value_in View row s k b = failed
value_in ListView row s k b = failed
value_in FixedList row s k b = failed
value_in DenseUnion row s k b = failed
value_in SparseUnion row s k b = failed
value_in Dictionary row s k b = failed
value_in Runs row s k b = failed

-- a row of node k. The first argument is the remaining depth, 16 at the root; an accepted type never runs out of it.
unfoldable pub row_in : ℕ → List ℕ → ℕ → List ℕ → Parsed Row
row_in zero s k b = failed
row_in (suc depth) s k b = marked (takes_bitmap (layout_of (code_of s k))) (value_in (layout_of (code_of s k)) (row_in depth s) s k) b

-- n rows of the table, and what follows them
unfoldable pub rows_in : List ℕ → ℕ → List ℕ → Parsed Rows
rows_in s n b = rows_of (row_in max_depth s 0) n b
