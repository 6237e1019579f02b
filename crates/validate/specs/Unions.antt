-- What is read once of a dense union before its rows.
use Rattle.std.specs.Prelude.{◌≡◌, cond, List, ℕ, ◌<◌, ltb, length, get_or}
use Rattle.image.specs.Record.{length_of}
use Rattle.image.specs.Element.{child_end, child_with_id}

-- how many rows node c has, or 0 where it is past the children of a union, which end at a number
abbrev pub rows_below : List ℕ → ℕ → ℕ → ℕ
rows_below s end c = cond (ltb c end) (length_of s c) 0

-- how many rows the children of union k have, by their type ids
pub record RowsById (s : List ℕ) (k : ℕ) (rows : List ℕ) : Type 0 where
  pub sized : length rows ≡ 256
  pub entry : (id : ℕ) → id < 256 → get_or rows id 0 ≡ rows_below s (child_end s k) (child_with_id s k id)
