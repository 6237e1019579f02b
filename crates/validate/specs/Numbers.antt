-- Integers that stand side by side in a buffer.
use Rattle.std.specs.Prelude.{Bool, List, ℕ, ◌+◌, ◌*◌, ◌≡◌, leb, ltb, length}
use Rattle.image.specs.Bytes.{number_at}
use Rattle.image.specs.Reads.{Packed}
use Rattle.image.specs.Record.{elements_of, first_child, buffer_place}
use Rattle.image.specs.Element.{element_at, run_end_width}
use Rattle.image.specs.Faults.{key_outside}

-- number k of those of w bytes from a place on
unfoldable pub number_in : List ℕ → ℕ → ℕ → ℕ → ℕ
number_in s place w k = number_at w s (place + k * w)

-- number k + 1 is less than a step above number k
unfoldable pub falls : ℕ → (ℕ → ℕ) → ℕ → Bool
falls step f k = ltb (f (k + 1)) (f k + step)

-- number k is at least the limit
unfoldable pub reaches : ℕ → (ℕ → ℕ) → ℕ → Bool
reaches limit f k = leb limit (f k)

-- buffer j of node k holds n integers of w bytes inside the image
abbrev pub Holds : List ℕ → ℕ → ℕ → ℕ → ℕ → Type 0
Holds s k j w n = Packed (length s) (buffer_place s k j) w n

-- a Dictionary's key is outside exactly where it is not below the limit
pub record KeyLimit (s : List ℕ) (k limit : ℕ) : Type 0 where
  pub outside : (j : ℕ) → key_outside s k j ≡ leb limit (element_at s k j)

-- the run ends of run node k lie inside the image
abbrev pub EndsInside : List ℕ → ℕ → Type 0
EndsInside s k = Holds s (first_child s k) 0 (run_end_width s k) (elements_of s (first_child s k))
