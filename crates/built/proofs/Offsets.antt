-- What stands in the buffers of rows: offset j is the sum of the spans before row j, and a row's bytes stand where the
-- lengths of those before it add up to.
use mathlib.Core.Path.{◌≡◌, refl, ◌∙◌}
use mathlib.Core.List.{List, [], append-nil}
use Prim.Native.Nat.{ℕ, zero, suc, ◌+◌, ◌*◌, ◌≤◌, ◌<◌, ◌^◌}
use native.Mathlib.Nat.{zero-mul, suc-mul, mul-le-mul_right}
use native.Mathlib.Omega.{arith}
use lib.ListN.{length, length-append}
use Rattle.image.specs.Bytes.{number_at, number_bytes}
use Rattle.image.specs.Row.{Row, Rows, none, more}
use Rattle.image.specs.RowBytes.{count}
use Rattle.laws.proofs.Lengths.{number_length}
use Rattle.laws.proofs.Decode.{number_back}
use Rattle.image.specs.Built.{span, nth, offsets_from, each_bytes}
use Rattle.built.proofs.Regions.{PartOf, part_number, part_in, left_part, right_part}

-- the sum of what f gives for the first j rows
unfoldable pub sum_over : (Row → ℕ) → Rows → ℕ → ℕ
sum_over f none j = 0
sum_over f (more r rs) zero = 0
sum_over f (more r rs) (suc j) = f r + sum_over f rs j

pub offsets_length : (w x : ℕ) (rs : Rows) → length (offsets_from w x rs) ≡ suc (count rs) * w
unfolding offsets_from count
offsets_length w x none = number_length w x ∙ omega arith
offsets_length w x (more r rs) =
    length-append (number_bytes w x) (offsets_from w (x + span r) rs)
    ∙ rw (number_length w x, offsets_length w (x + span r) rs, suc-mul (suc (count rs)) w) (omega arith)

-- offset j
pub offset_at : (w x : ℕ) (rs : Rows) (j : ℕ) → j ≤ count rs → x + sum_over span rs j < 256 ^ w → number_at w (offsets_from w x rs) (j * w) ≡ x + sum_over span rs j
unfolding offsets_from count sum_over
offset_at w x none j le lt =
    let e : j ≡ 0 = omega arith in
    rw (e, zero-mul w, ← append-nil (number_bytes w x)) (number_back w x [] (omega arith) ∙ omega arith)
offset_at w x (more r rs) zero le lt = rw (zero-mul w) (number_back w x (offsets_from w (x + span r) rs) (omega arith) ∙ omega arith)
offset_at w x (more r rs) (suc j) le lt =
    let place : suc j * w ≡ w + j * w = suc-mul j w ∙ omega arith in
    let inside : suc j * w ≤ suc (count rs) * w = mul-le-mul_right w (omega arith) in
    let here = part_number (right_part (number_bytes w x) (offsets_from w (x + span r) rs)) w (j * w)
    (omega (arith, offsets_length w (x + span r) rs)) in
    rw (place) (rw (number_length w x) at here ∙ offset_at w (x + span r) rs j (omega arith) (omega arith) ∙ omega arith)

-- the bytes of row j
pub bytes_part : (f : Row → List ℕ) (rs : Rows) (j : ℕ) → j < count rs → PartOf (each_bytes f rs) (sum_over (λ r. length (f r)) rs j) (f (nth rs j))
unfolding each_bytes count sum_over nth
bytes_part f none j lt = absurd (omega arith)
bytes_part f (more r rs) zero lt = left_part (f r) (each_bytes f rs)
bytes_part f (more r rs) (suc j) lt = part_in (right_part (f r) (each_bytes f rs)) (bytes_part f rs j (omega arith))

pub bytes_length : (f : Row → List ℕ) (rs : Rows) → length (each_bytes f rs) ≡ sum_over (λ r. length (f r)) rs (count rs)
unfolding each_bytes count sum_over
bytes_length f none = refl
bytes_length f (more r rs) = length-append (f r) (each_bytes f rs) ∙ rw (bytes_length f rs)
