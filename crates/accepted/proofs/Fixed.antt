-- Elements of a fixed-width node stand one after the other, and lie inside the image.
-- Acceptance gives that the buffer holds all elements of the node.
use mathlib.Core.Path.{◌≡◌}
use mathlib.Core.List.{List}
use Prim.Native.Nat.{ℕ, ◌+◌, ◌*◌, ◌≤◌}
use native.Mathlib.Omega.{arith}
use native.Mathlib.Nat.{mul-le-mul_right, add-mul}
use lib.ListN.{length}
use Rattle.image.specs.Record.{buffer_place, buffer_length, buffer_count, elements_of}
use Rattle.image.specs.Element.{element_width, element_place}
use Rattle.accepted.specs.Parts.{Elements, Spanned}

-- what was read of a span lies inside
pub spanned : (s : List ℕ) (k j n w p : ℕ) → Elements s k j n → w ≡ element_width s k → p ≡ buffer_place s k 0 → Spanned s k j n (p + j * w) (n * w)
unfolding element_place
spanned s k j n w p r ew ep =
    let node = r.image.node k r.node in
    let one : buffer_count s k ≡ 1 = node.buffers.exactly 1 (rw r.fixed) in
    let inside : buffer_place s k 0 + buffer_length s k 0 ≤ length s = node.buffers.inside 0 (omega arith) in
    let enough : elements_of s k * element_width s k ≤ buffer_length s k 0 = node.enough.fixed_width r.fixed in
    let part : (j + n) * element_width s k ≤ elements_of s k * element_width s k = mul-le-mul_right (element_width s k) r.high in
    let e : (j + n) * element_width s k ≡ j * element_width s k + n * element_width s k = add-mul j n (element_width s k) in
    record { place = rw (ew, ep); size = rw ew; inside = rw (ew, ep) (omega arith) }

pub spanned_small : (s : List ℕ) (k j n w p : ℕ) → Elements s k j n → w ≡ element_width s k → p ≡ buffer_place s k 0 → p + j * w + n * w ≤ 16777216
spanned_small s k j n w p r ew ep = omega (arith, (spanned s k j n w p r ew ep).inside, r.image.tables.size)
