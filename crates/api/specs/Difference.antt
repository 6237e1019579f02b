-- What it is for ranges of two tables to part at a row, and for two answers to be the same refusal.
use Rattle.std.specs.Prelude.{◌≡◌, true, List, ℕ, ◌+◌, ◌≤◌, ◌<◌, Ok}
use Rattle.image.specs.Record.{max_depth, length_of}
use Rattle.image.specs.Faults.{check_image}
use Rattle.image.specs.Types.{types_agree}
use Rattle.image.specs.Row.{row_at}
use Rattle.answers.specs.declared.numbers.Numbers.{Numbers}

-- n rows of s from i on and of t from j on lie within two accepted tables of equal type; "the row given is unequal, and every
-- row before it is equal"
pub record PartAt (s t : List ℕ) (i j n row : ℕ) : Type 0 where
  pub left : check_image s ≡ Ok tt
  pub right : check_image t ≡ Ok tt
  pub types : types_agree s t ≡ true
  pub left_within : i + n ≤ length_of s 0
  pub right_within : j + n ≤ length_of t 0
  pub inside : row < n
  pub unequal : row_at max_depth s 0 (i + row) ≡ row_at max_depth t 0 (j + row) → ⊥
  pub equal : (k : ℕ) → k < row → row_at max_depth s 0 (i + k) ≡ row_at max_depth t 0 (j + k)

-- number, side and node of two answers are the same; of answers that are no refusals they are 0
pub record SameRefusal (x y : Numbers) : Type 0 where
  pub number : x.number ≡ y.number
  pub side : x.side ≡ y.side
  pub node : x.node ≡ y.node
