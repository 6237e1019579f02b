-- What the scan of a string answers.
use Rattle.std.specs.Prelude.{◌≡◌, Bool, true, false, List, [], ◌∷◌, ℕ, ◌<◌, length, get_or}
use Rattle.image.specs.Record.{node_count}
use Rattle.image.specs.Row.{Rows}
use Rattle.image.specs.Parse.{Parsed, failed, parsed}
use Rattle.image.specs.Built.{column}
use Rattle.built.specs.Walk.{total}

-- rows were read, and no bytes are left
abbrev pub are_rows : Parsed Rows → Bool
are_rows failed = false
are_rows (parsed rs []) = true
are_rows (parsed rs (x ∷ rest)) = false

-- where they were: how far the offsets of each node's rows go on, in all
pub record Spanned (s : List ℕ) (p : Parsed Rows) (x : List ℕ) : Type 0 where
  pub sized : length x ≡ 256
  pub spans : (rs : Rows) → p ≡ parsed rs [] → (j : ℕ) → j < node_count s → get_or x j 0 ≡ total (column s rs j)
