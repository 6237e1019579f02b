-- When rows, ranges of rows and tables are equal: by nullness and value down through all children, and not by bytes.
use Rattle.std.specs.Prelude.{Bool, true, false, not, ◌&&◌, List, ℕ, ◌+◌, eqb}
use Rattle.image.specs.Ranges.{first}
use Rattle.image.specs.Record.{max_depth, length_of}
use Rattle.image.specs.Types.{same_bytes, types_agree}
use Rattle.image.specs.Row.{Row, Rows, null, fixed, sized, joined, counted, tagged, none, more, row_at, table_rows}

unfoldable mutual
  -- two rows are the same
  pub row_equal : Row → Row → Bool
  row_equal null null = true
  row_equal null (fixed y0) = false
  row_equal null (sized y0) = false
  row_equal null (joined y0) = false
  row_equal null (counted y0) = false
  row_equal null (tagged y0 y1) = false
  row_equal (fixed x0) null = false
  row_equal (fixed x0) (fixed y0) = same_bytes x0 y0
  row_equal (fixed x0) (sized y0) = false
  row_equal (fixed x0) (joined y0) = false
  row_equal (fixed x0) (counted y0) = false
  row_equal (fixed x0) (tagged y0 y1) = false
  row_equal (sized x0) null = false
  row_equal (sized x0) (fixed y0) = false
  row_equal (sized x0) (sized y0) = same_bytes x0 y0
  row_equal (sized x0) (joined y0) = false
  row_equal (sized x0) (counted y0) = false
  row_equal (sized x0) (tagged y0 y1) = false
  row_equal (joined x0) null = false
  row_equal (joined x0) (fixed y0) = false
  row_equal (joined x0) (sized y0) = false
  row_equal (joined x0) (joined y0) = rows_equal x0 y0
  row_equal (joined x0) (counted y0) = false
  row_equal (joined x0) (tagged y0 y1) = false
  row_equal (counted x0) null = false
  row_equal (counted x0) (fixed y0) = false
  row_equal (counted x0) (sized y0) = false
  row_equal (counted x0) (joined y0) = false
  row_equal (counted x0) (counted y0) = rows_equal x0 y0
  row_equal (counted x0) (tagged y0 y1) = false
  row_equal (tagged x0 x1) null = false
  row_equal (tagged x0 x1) (fixed y0) = false
  row_equal (tagged x0 x1) (sized y0) = false
  row_equal (tagged x0 x1) (joined y0) = false
  row_equal (tagged x0 x1) (counted y0) = false
  row_equal (tagged x0 x1) (tagged y0 y1) = eqb x0 y0 && row_equal x1 y1

  -- "Ranges of equally many rows are equal if their rows are, in turn."
  pub rows_equal : Rows → Rows → Bool
  rows_equal none none = true
  rows_equal none (more y ys) = false
  rows_equal (more x xs) none = false
  rows_equal (more x xs) (more y ys) = row_equal x y && rows_equal xs ys

-- n rows of s from i on and n rows of t from j on are equal
unfoldable pub ranges_equal : List ℕ → List ℕ → ℕ → ℕ → ℕ → Bool
ranges_equal s t i j n = rows_equal (table_rows s i n) (table_rows t j n)

-- two accepted tables are equal: types and lengths agree, where unequal ones are turned "into no", and all rows in turn
unfoldable pub tables_equal : List ℕ → List ℕ → Bool
tables_equal s t = types_agree s t && eqb (length_of s 0) (length_of t 0) && ranges_equal s t 0 0 (length_of s 0)

-- rows i + k of s and j + k of t are not equal
unfoldable pub rows_differ : List ℕ → List ℕ → ℕ → ℕ → ℕ → Bool
rows_differ s t i j k = not (row_equal (row_at max_depth s 0 (i + k)) (row_at max_depth t 0 (j + k)))

-- of n rows of s from i on and of t from j on, "the number, counted from 0 at the start of the range, of the first unequal
-- row", or n where there is none
unfoldable pub first_difference : List ℕ → List ℕ → ℕ → ℕ → ℕ → ℕ
first_difference s t i j n = first (rows_differ s t i j) 0 n
