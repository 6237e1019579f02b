-- Demand 3: of two written ranges of equally many rows of tables of equal type neither output is a proper prefix of the
-- other, and the two are the same bytes exactly when the ranges are equal. What it speaks of, and what a proper prefix is.
use Rattle.std.specs.Prelude.{◌≡◌, true, List, [], ◌++◌, ◌≢◌, ℕ, ◌+◌, ◌≤◌, Ok}
use Rattle.image.specs.Record.{length_of}
use Rattle.image.specs.Faults.{check_image}
use Rattle.image.specs.Types.{types_agree}

-- n rows of s from row i on and n rows of t from row j on, which a write puts out: both images are accepted, their types
-- agree, and the rows are there
pub record WrittenRanges (s t : List ℕ) (i j n : ℕ) : Type 0 where
  pub left : check_image s ≡ Ok tt
  pub right : check_image t ≡ Ok tt
  pub types : types_agree s t ≡ true
  pub left_rows : i + n ≤ length_of s 0
  pub right_rows : j + n ≤ length_of t 0

-- y begins with x and goes on: some bytes behind x, and not none, make y
abbrev pub ProperPrefix : List ℕ → List ℕ → Type 0
ProperPrefix x y = (rest : List ℕ) × (rest ≢ []) × (x ++ rest ≡ y)
