-- `lists_outside` tells whether a list view lies outside the node's child.
-- A turn compares the size with what the offset leaves of the child's length, as the definition compares their sum with it.
use mathlib.Core.Path.{◌≡◌, ◌∙◌}
use mathlib.Core.List.{List}
use Prim.Native.Nat.{ℕ, ◌+◌, ◌*◌, ◌<◌}
use lib.Dec.{ltb}
use native.Mathlib.Nat.{add-zero, zero-add}
use native.Mathlib.Omega.{arith}
use borrow.Author.Tests.{lt-ltb, le-ltb}
use Rattle.image.specs.Bytes.{number_at}
use Rattle.image.specs.Record.{length_of, first_child, buffer_place}
use Rattle.image.specs.Element.{element_width, element_place, element_at, size_at}
use Rattle.image.specs.Faults.{list_outside}
use Rattle.image.proofs.Loops.{any_more, any_found, any_done}
use Rattle.validate.proofs.offsets.lists_outside.Goals as goal
use Rattle.validate.proofs.offsets.lists_outside.Goals.{then-end-offset-via-then-end-offset, then-end-offset-via-else-end-offset+then-end-offset-2}

-- view j lies outside where its offset and size, as they were read, go past the child's end
listed : (s : List ℕ) (k w offsets sizes end j : ℕ) {x y : ℕ} → w ≡ element_width s k → offsets ≡ buffer_place s k 0 → sizes ≡ buffer_place s k 1 → end ≡ length_of s (first_child s k)
    → x ≡ number_at w s (offsets + j * w) → y ≡ number_at w s (sizes + j * w) → list_outside s k (0 + j) ≡ ltb end (x + y)
unfolding list_outside element_at element_place size_at
listed s k w offsets sizes end j width first second rows offset size = rw (zero-add, ← width, ← first, ← second, ← rows, ← offset, ← size)

pub returns-then-end-offset : goal.returns-then-end-offset
returns-then-end-offset c =
    let rows = rw (c.child.ensures.image, c.child.ensures.number, add-zero) at c.length-end.ensures.value in
    let past : c.length-end.result < c.inside-offset.result + c.inside-size.result =
    elim c.then-end-offset.branch [ then-end-offset-via-then-end-offset w ↦ omega (arith, w.if-end-offset.true) | then-end-offset-via-else-end-offset+then-end-offset-2 w ↦ omega (arith, w) ] in
    rw (← c.elements-j-end.ensures.value) (any_found _ _ _ _ c.loop-j-test.true c.loop-j.invariant (listed _ _ _ _ _ _ _ c.element_width-width.ensures c.numbers-offsets.ensures.place.value c.numbers-sizes.ensures.place.value rows (rw (c.numbers-offsets.ensures.bytes, c.numbers-offsets.ensures.width) at c.inside-offset.ensures.value) (rw (c.numbers-sizes.ensures.bytes, c.numbers-sizes.ensures.width) at c.inside-size.ensures.value) ∙ lt-ltb c.length-end.result (c.inside-offset.result + c.inside-size.result) past))

pub loop-j-preserved : goal.loop-j-preserved
loop-j-preserved c =
    let rows = rw (c.child.ensures.image, c.child.ensures.number, add-zero) at c.length-end.ensures.value in
    any_more _ _ _ _ c.loop-j-test.true c.loop-j.invariant (listed _ _ _ _ _ _ _ c.element_width-width.ensures c.numbers-offsets.ensures.place.value c.numbers-sizes.ensures.place.value rows (rw (c.numbers-offsets.ensures.bytes, c.numbers-offsets.ensures.width) at c.inside-offset.ensures.value) (rw (c.numbers-sizes.ensures.bytes, c.numbers-sizes.ensures.width) at c.inside-size.ensures.value) ∙ le-ltb c.length-end.result (c.inside-offset.result + c.inside-size.result) (omega arith))

pub returns : goal.returns
returns c = rw (← c.elements-j-end.ensures.value) (any_done _ _ _ _ c.loop-j-test.false c.loop-j.invariant)
