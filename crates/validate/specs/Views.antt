-- What is read once of a node whose rows are views.
use Rattle.std.specs.Prelude.{◌≡◌, Bool, not, eqb, List, ℕ, ◌+◌, ◌*◌, ◌<◌, ◌≤◌, length}
use Rattle.image.specs.Reads.{Read}
use Rattle.image.specs.Record.{entry_size, entry_place, first_buffer, buffer_count, elements_of, buffer_place, buffer_length}
use Rattle.image.specs.Element.{element_width}

-- the views, the node's buffers and their entries lie inside the image
pub record ViewsInside (s : List ℕ) (k : ℕ) : Type 0 where
  pub wide : element_width s k ≡ 16
  pub views : buffer_place s k 0 + elements_of s k * 16 ≤ length s
  pub entries : entry_place s (first_buffer s k) + buffer_count s k * entry_size ≤ length s
  pub buffers : (j : ℕ) → j < buffer_count s k → buffer_place s k j + buffer_length s k j ≤ length s

-- where the entries of the node's buffers start, and how many they are
pub record Entries (s : List ℕ) (k entries count : ℕ) : Type 0 where
  pub inside : ViewsInside s k
  pub start : Read (entry_place s (first_buffer s k)) 40 entries
  pub number : Read (buffer_count s k) 16 count

-- a view of the node
pub record ViewAt (s : List ℕ) (k view entries count : ℕ) : Type 0 where
  pub known : Entries s k entries count
  pub fits : view + 16 ≤ length s

abbrev pub is_nonzero : ℕ → Bool
is_nonzero b = not (eqb b 0)
