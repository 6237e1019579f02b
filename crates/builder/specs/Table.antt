-- What is known of a table before its image is put.
use Rattle.std.specs.Prelude.{◌≡◌, true, List, [], ◌++◌, ℕ, ◌*◌, ◌≤◌, ◌<◌, length, get_or, Ok}
use Rattle.image.specs.Ranges.{pieces}
use Rattle.image.specs.Record.{longest_image, most_elements, node_count}
use Rattle.image.specs.Faults.{check_image}
use Rattle.image.specs.RowBytes.{count}
use Rattle.image.specs.Parse.{parsed, readable, rows_in}
use Rattle.image.specs.Built.{column, part_at, part_start, built_image}
use Rattle.built.specs.Walk.{the_rows}
use Rattle.builder.specs.Front.{front_from}

-- A string is n rows; the lengths of nodes and the places of parts are those of their image, which has so many bytes and fits.
pub record Laid (s : List ℕ) (n : ℕ) (b lengths places : List ℕ) (size : ℕ) (out : List ℕ) : Type 0 where
  pub accepted : check_image s ≡ Ok tt
  pub coded : readable s ≡ true
  pub read : rows_in s n b ≡ parsed (the_rows (rows_in s n b)) []
  pub few : (k : ℕ) → k < node_count s → count (column s (the_rows (rows_in s n b)) k) ≤ most_elements
  pub place : (q : ℕ) → q ≤ 3 * node_count s → get_or places q 0 ≡ part_start s (the_rows (rows_in s n b)) q
  pub front : front_from s lengths places ++ pieces (part_at s (the_rows (rows_in s n b))) 0 (3 * node_count s) ≡ built_image s (the_rows (rows_in s n b))
  pub long : size ≡ length (built_image s (the_rows (rows_in s n b)))
  pub short : size ≤ longest_image
  pub fits : size ≤ length out
