-- Numbers put one after the other, and zeros.
-- What is left to put begins with the next number; a number's bytes are as many as its width.
use mathlib.Core.Path.{◌≡◌, sym, ap}
use mathlib.Core.List.{List, ◌++◌}
use Prim.Native.Nat.{ℕ, ◌+◌, ◌-◌, ◌≤◌, ◌<◌}
use native.Mathlib.Nat.{zero-add}
use native.Mathlib.Omega.{arith}
use lib.ListN.{length, drop, replicate, length-drop, length-replicate}
use lib.Seq.{drop-drop, length-take-le}
use borrow.Rule.Slice.PartMut.{mid_of, put_mid}
use Rattle.image.specs.Bytes.{number_bytes}
use Rattle.rows.specs.Output.{over, Fits}
use Rattle.rows.proofs.Over.{ToPut, put_start, put_as, put_more, put_last, PiecesToPut, pieces_fit, pieces_more}

-- nothing is put yet, of bytes whose length is known
put_sized : {out whole : List ℕ} {at n : ℕ} → length whole ≡ n → at + n ≤ length out → ToPut out at whole out at whole
put_sized e fits = put_start (record { within = omega (arith, e, fits) })

-- the room that such bytes have
pub fits_sized : {out bytes : List ℕ} {at n : ℕ} → length bytes ≡ n → Fits out at bytes → at + n ≤ length out
fits_sized e fits = omega (arith, e, fits.within)

-- Numbers.
module _ {out₀ whole out : List ℕ} {at next : ℕ} (w x y : ℕ) (e : x ≡ y) {after : List ℕ} {end : ℕ} (f : (end ≡ next + length (number_bytes w x)) × (after ≡ over out next (number_bytes w x))) where
  pub number_put : {rest : List ℕ} → ToPut out₀ at whole out next (number_bytes w y ++ rest) → ToPut out₀ at whole after end rest
  number_put {rest} t = put_more (number_bytes w x) rest (put_as t (ap (λ (n : ℕ). number_bytes w n ++ rest) (sym e))) f.1 f.0

  -- the last of them
  pub number_last : ToPut out₀ at whole out next (number_bytes w y) → (end ≡ at + length whole) × (after ≡ over out₀ at whole)
  number_last t = put_last (put_as t (ap (number_bytes w) (sym e))) f.1 f.0

-- Pieces, the first of them piece 0.
module _ {p : ℕ → List ℕ} {n : ℕ} {out₀ : List ℕ} {at : ℕ} {out : List ℕ} {next k : ℕ} (t : PiecesToPut p 0 n out₀ at out next k) (lt : k < n) where
  pub piece_fits : Fits out next (p k)
  piece_fits = rw (zero-add k) at (pieces_fit t lt)

  pub piece_put : {after : List ℕ} {end : ℕ} → (end ≡ next + length (p k)) × (after ≡ over out next (p k)) → PiecesToPut p 0 n out₀ at after end (k + 1)
  piece_put f = pieces_more t lt (rw (zero-add k) f.1) (rw (zero-add k) f.0)

-- Zeros from a place up to another, as the library fills the part.
pub zeros_over : (out : List ℕ) {part : List ℕ} (from to : ℕ) → (from ≤ to) × (to ≤ length out) → part ≡ replicate (length (mid_of from (to - from) out)) 0 → put_mid from (to - from) out part ≡ over out from (replicate (to - from) 0)
unfolding over
zeros_over out {part} from to within e = rw (e, length-take-le (to - from) (drop from out) (omega (arith, length-drop from out, within.1)), length-replicate {A = ℕ} (to - from) 0, drop-drop _ _ _)
