-- What it is for the Maps of an accepted image to have their names.
use Rattle.std.specs.Prelude.{◌≡◌, List, ℕ, ◌+◌, ◌<◌, Ok}
use Rattle.image.specs.Bytes.{ascii}
use Rattle.image.specs.Record.{node_count, code_of, first_child}
use Rattle.image.specs.Faults.{check_image}
use Rattle.image.specs.Types.{name_of}

-- node k is a Map whose "entries are named `entries` and its fields `key` and `value`"
pub record MapNamed (s : List ℕ) (k : ℕ) : Type 0 where
  pub entries : name_of s (first_child s k) ≡ ascii "entries"
  pub key : name_of s (first_child s (first_child s k)) ≡ ascii "key"
  pub value : name_of s (first_child s (first_child s k) + 1) ≡ ascii "value"

-- the image is accepted, and each of its nodes of code 42 is such a Map
pub record AllNamed (s : List ℕ) : Type 0 where
  pub accepted : check_image s ≡ Ok tt
  pub maps : (k : ℕ) → k < node_count s → code_of s k ≡ 42 → MapNamed s k
