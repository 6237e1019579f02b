-- The rows of two tables that a call on ranges of them goes on with.
use Rattle.std.specs.Prelude.{List, ℕ, Result, Ok}
use Rattle.answers.specs.declared.RangeRefusal.{RangeRefusal}
use Rattle.answers.specs.Answers.{◌>>=◌, bounds_of}
use Rattle.values.specs.declared.pair.Rows.{Rows}

-- those of both ranges, where they lie within
abbrev pub rows_within : List ℕ → List ℕ → ℕ → ℕ → ℕ → Result Rows RangeRefusal
rows_within s t i j n = do
  _ ← bounds_of s t i j n
  Ok (record { left = i; right = j; count = n })
