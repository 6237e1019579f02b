-- How many bytes a number and a part of an image have, and how many rows a range.
-- Each is by induction over the count.
use mathlib.Core.Path.{◌≡◌, refl, ap}
use mathlib.Core.List.{List}
use Prim.Native.Nat.{ℕ, zero, suc, ◌/◌}
use lib.ListN.{length}
use Rattle.image.specs.Bytes.{number_bytes, bytes_at}
use Rattle.image.specs.Record.{max_depth}
use Rattle.image.specs.Row.{Row, range, row_at, table_rows}
use Rattle.image.specs.RowBytes.{count}

pub number_length : (w x : ℕ) → length (number_bytes w x) ≡ w
unfolding number_bytes
number_length zero x = refl
number_length (suc w) x = ap suc (number_length w (x / 256))

pub bytes_length : (s : List ℕ) (i n : ℕ) → length (bytes_at s i n) ≡ n
unfolding bytes_at
bytes_length s i zero = refl
bytes_length s i (suc n) = ap suc (bytes_length s (suc i) n)

pub range_count : (g : ℕ → Row) (i n : ℕ) → count (range g i n) ≡ n
unfolding range count
range_count g i zero = refl
range_count g i (suc n) = ap suc (range_count g (suc i) n)

-- how many rows a range of a table has
pub table_count : (s : List ℕ) (i n : ℕ) → count (table_rows s i n) ≡ n
unfolding table_rows
table_count s i n = range_count (row_at max_depth s 0) i n
