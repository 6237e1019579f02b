-- Run ends lie inside, and rise where the numbers that stand there do.
-- Each run end is the number that stands as many widths behind the first.
use mathlib.Core.Path.{◌≡◌, refl}
use mathlib.Core.Bool.{true}
use mathlib.Core.List.{List}
use Prim.Native.Nat.{ℕ, ◌+◌, ◌-◌, ◌≤◌}
use native.Mathlib.Omega.{arith}
use lib.Dec.{leb}
use lib.ListN.{length}
use borrow.Author.Tests.{leb-true}
use Rattle.image.specs.Ranges.{rises}
use Rattle.image.specs.Record.{length_of, first_child}
use Rattle.image.specs.TypeCode.{sign_bit}
use Rattle.image.specs.Faults.{run_ends_rise}
use Rattle.image.proofs.CodeTable.{agree}
use Rattle.image.specs.declared.bytes.Numbers.{Numbers}
use Rattle.image.specs.Reads.{Packed, EndsOf}
use Rattle.image.proofs.Loops.{rises_same}
use Rattle.image.proofs.RunEnds.{ends_at}
use Rattle.validate.specs.Numbers.{EndsInside, number_in}
use Rattle.validate.proofs.Elements.{rows_inside}

-- the sign bit of 1 to 8 bytes is not 0
pub sign_least : (w : ℕ) → 1 ≤ w → w ≤ 8 → 1 ≤ sign_bit w
unfolding sign_bit
sign_least w low high = leb-true 1 (sign_bit w) (agree (λ (w : ℕ). leb 1 (sign_bit w)) (λ (w : ℕ). true) 1 8 refl w low (omega arith))

-- the run ends of all rows of their child lie inside
pub ends_packed : (s : List ℕ) (k : ℕ) (v : Numbers) {count : ℕ} → EndsInside s k → EndsOf s k v → count ≡ length_of s (first_child s k) → Packed (length s) v.place v.width count
ends_packed s k v inside r rows = rw r.place (rows_inside s (first_child s k) 0 inside r.width refl refl rows)

pub ends_rise : (s : List ℕ) (k : ℕ) (v : Numbers) {sign count : ℕ} → EndsOf s k v → sign ≡ sign_bit v.width → count ≡ length_of s (first_child s k)
    → rises 1 (number_in s v.place v.width) (sign - 1) 1 0 count ≡ run_ends_rise s k
unfolding run_ends_rise number_in
ends_rise s k v {sign} {count} r e rows =
    rw (e, ← r.width, ← rows)
    (rises_same 1 _ _ (sign_bit v.width - 1) 1 0 0 count (λ j. ends_at s k (0 + j) v r))
