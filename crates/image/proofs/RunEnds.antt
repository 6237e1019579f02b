-- Run ends as they are read.
-- They stand one after the other from the place of the first on, and each part of that place is what its reader says.
use mathlib.Core.Path.{◌≡◌}
use mathlib.Core.List.{List}
use Prim.Native.Nat.{ℕ, ◌+◌, ◌*◌, ◌<◌, ◌≤◌, ◌^◌}
use native.Mathlib.Omega.{arith}
use native.Mathlib.Nat.{add-mul}
use Rattle.image.specs.Bytes.{number_at}
use Rattle.image.specs.Record.{code_of, offset_of, first_child, buffer_place}
use Rattle.image.specs.TypeCode.{integer_width}
use Rattle.image.specs.Element.{run_end_width, run_end_at}
use Rattle.image.specs.declared.bytes.Numbers.{Numbers}
use Rattle.image.specs.Reads.{Nth, EndsOf}
use Rattle.image.proofs.Widths.{integer_width_lem, integer_width_least}

-- how wide run ends are
pub ends_narrow : (c : ℕ) {w : ℕ} → w ≡ integer_width c → w ≤ 8
ends_narrow c e = rw e (integer_width_lem c)

-- where run ends start, as it is read
pub ends_of : (s : List ℕ) (k : ℕ) (v : Numbers) {e c : ℕ} → v.bytes.now ≡ s → e ≡ first_child s k → c ≡ code_of s e → v.width ≡ integer_width c
    → v.place ≡ buffer_place s e 0 + offset_of s e * v.width → v.place < 2 ^ 32 * (v.width + 1) → EndsOf s k v
unfolding run_end_width
ends_of s k v {e} {c} same ee ec ew at near = record {
  bytes = same;
  width = rw (← ee, ← ec) ew;
  place = rw (← ee) at;
  some = rw ew (integer_width_least c);
  narrow = ends_narrow c ew;
  near = omega (arith, near, ends_narrow c ew);
}

-- a run end, as it is read
pub ends_nth : {s : List ℕ} {k r : ℕ} {v : Numbers} → EndsOf s k v → r < 2 ^ 33 → Nth v.place v.width r
ends_nth f lt = record { near = f.near; narrow = f.narrow; few = omega arith }

pub ends_at : (s : List ℕ) (k r : ℕ) (v : Numbers) → EndsOf s k v → number_at v.width s (v.place + r * v.width) ≡ run_end_at s k r
unfolding run_end_at
ends_at s k r v f =
    let d : (offset_of s (first_child s k) + r) * v.width ≡ offset_of s (first_child s k) * v.width + r * v.width = add-mul (offset_of s (first_child s k)) r v.width in
    let at : buffer_place s (first_child s k) 0 + (offset_of s (first_child s k) + r) * v.width ≡ v.place + r * v.width = omega (arith, f.place) in
    rw (← f.width, at)
