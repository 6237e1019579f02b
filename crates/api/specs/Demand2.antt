-- What it is for two images to be accepted and their tables equal: types, lengths, and each row.
use Rattle.std.specs.Prelude.{◌≡◌, true, List, ℕ, ◌<◌, Ok}
use Rattle.image.specs.Record.{max_depth, length_of}
use Rattle.image.specs.Faults.{check_image}
use Rattle.image.specs.Types.{types_agree}
use Rattle.image.specs.Row.{row_at}

pub record EqualTables (s t : List ℕ) : Type 0 where
  pub left : check_image s ≡ Ok tt
  pub right : check_image t ≡ Ok tt
  pub types : types_agree s t ≡ true
  pub lengths : length_of s 0 ≡ length_of t 0
  pub rows : (i : ℕ) → i < length_of s 0 → row_at max_depth s 0 i ≡ row_at max_depth t 0 i
