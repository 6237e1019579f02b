-- All bytes of a slice.
-- They are those from its first on.
use mathlib.Core.Path.{◌≡◌, sym, ◌∙◌}
use mathlib.Core.List.{List}
use Prim.Native.Nat.{ℕ}
use native.Mathlib.Omega.{arith}
use lib.ListN.{length}
use native.Mathlib.Nat.{le_refl}
use Rattle.std.proofs.lemmas.List.{take_all}
use Rattle.image.specs.Bytes.{bytes_at}
use Rattle.image.proofs.Slices.{bytes_taken}

-- the whole
pub all_bytes : (s : List ℕ) → bytes_at s 0 (length s) ≡ s
all_bytes s = sym (bytes_taken s 0 (length s) (omega arith)) ∙ take_all (length s) s (le_refl (length s))
