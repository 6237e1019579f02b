-- The entries of a node's buffers stand one after the other.
-- Each is an entry's size behind the one before it.
use mathlib.Core.Path.{◌≡◌}
use mathlib.Core.List.{List}
use Prim.Native.Nat.{ℕ, ◌+◌, ◌*◌}
use native.Mathlib.Omega.{arith}
use Rattle.image.specs.Record.{entry_size, entry_place, first_buffer}

-- entry j of the node's, whose first stands at e
pub entry_from_lem : (s : List ℕ) (k j : ℕ) {e : ℕ} → e ≡ entry_place s (first_buffer s k) → entry_place s (first_buffer s k + j) ≡ e + j * entry_size
unfolding entry_place
entry_from_lem s k j first = omega (arith, first)
