-- The bytes of a row and of a range of rows ("A row's bytes, by the writer we add").
use Rattle.std.specs.Prelude.{List, [], ◌∷◌, ◌++◌, ℕ, suc, length}
use Rattle.image.specs.Bytes.{number_bytes}
use Rattle.image.specs.Row.{Row, Rows, null, fixed, sized, joined, counted, tagged, none, more, table_rows}

-- how many rows
unfoldable pub count : Rows → ℕ
count none = 0
count (more r rs) = suc (count rs)

unfoldable mutual
  -- "00 if its bitmap bit is 0; else 01 and the value": "Null: nothing. Boolean: 00 or 01. Fixed widths: the bytes.
  -- Text, binary, views: u32 length, bytes. List kinds and Map: u32 count, child rows. Fixed lists, Structs: child
  -- rows. Union: the id byte, child row. Dictionary, runs: the row of the values child."
  pub row_bytes : Row → List ℕ
  row_bytes null = 0 ∷ []
  row_bytes (fixed b) = 1 ∷ b
  row_bytes (sized b) = 1 ∷ (number_bytes 4 (length b) ++ b)
  row_bytes (joined rs) = 1 ∷ rows_bytes rs
  row_bytes (counted rs) = 1 ∷ (number_bytes 4 (count rs) ++ rows_bytes rs)
  row_bytes (tagged id r) = 1 ∷ id ∷ row_bytes r

  -- "A range is its rows joined"
  pub rows_bytes : Rows → List ℕ
  rows_bytes none = []
  rows_bytes (more r rs) = row_bytes r ++ rows_bytes rs

-- what a write of n rows from row i on puts out, "that and nothing more"
unfoldable pub range_bytes : List ℕ → ℕ → ℕ → List ℕ
range_bytes s i n = rows_bytes (table_rows s i n)
