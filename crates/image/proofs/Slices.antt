-- The bytes from a place on, as a slice lends them.
-- By induction over the place and the count.
use mathlib.Core.Path.{◌≡◌, refl, ap}
use mathlib.Core.List.{List, ◌∷◌}
use Prim.Native.Nat.{ℕ, zero, suc, ◌+◌, ◌-◌, ◌≤◌}
use native.Mathlib.Omega.{arith}
use lib.ListN.{length, take, drop, get_or}
use Rattle.std.proofs.Common.{drop-cons}
use Rattle.image.specs.Bytes.{bytes_at}

-- n bytes of those from a place on
pub bytes_taken : (s : List ℕ) (i n : ℕ) → i + n ≤ length s → take n (drop i s) ≡ bytes_at s i n
unfolding bytes_at
bytes_taken s i zero le = refl
bytes_taken s i (suc n) le =
    let lt : suc i ≤ length s = omega arith in
    rw (drop-cons s i 0 lt) (ap (λ (t : List ℕ). get_or s i 0 ∷ t) (bytes_taken s (suc i) n (omega arith)))

-- a slice up to a place
pub sliced : (s : List ℕ) (i n : ℕ) → i + n ≤ length s → take (i + n - i) (drop i s) ≡ bytes_at s i n
sliced s i n le =
    let count : i + n - i ≡ n = omega arith in
    rw count (bytes_taken s i n le)
