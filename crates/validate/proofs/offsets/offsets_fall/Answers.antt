-- `offsets_fall` tells whether the node's offsets do not rise as the definition says.
-- The offsets are the numbers of the first buffer.
use mathlib.Core.Path.{◌≡◌, refl, ap, ◌∙◌}
use mathlib.Core.Bool.{not}
use mathlib.Core.List.{List}
use Rattle.image.specs.Ranges.{rises}
use Rattle.image.specs.Reads.{Packed}
use Rattle.image.specs.Record.{buffer_place, elements_of}
use Rattle.image.specs.Element.{element_width, element_place, element_at}
use Rattle.image.specs.Faults.{offsets_rise}
use Rattle.image.proofs.Loops.{rises_same}
use Rattle.validate.specs.Numbers.{Holds, number_in}
use Prim.Native.Nat.{ℕ, ◌+◌}
use lib.ListN.{length}
use Rattle.validate.proofs.offsets.offsets_fall.Goals as goal

module _ (s : List ℕ) (k : ℕ) {place w e : ℕ} (p : place ≡ buffer_place s k 0) (q : w ≡ element_width s k) (r : e ≡ elements_of s k) where
  offsets-in : (end : ℕ) → rises 0 (number_in s place w) end 0 0 (e + 1) ≡ offsets_rise s k end
  unfolding offsets_rise number_in element_at element_place
  offsets-in end = rw (p, q, r) (rises_same 0 _ _ end 0 0 0 _ (λ j. refl))

  offsets-packed : Holds s k 0 (element_width s k) (elements_of s k + 1) → Packed (length s) place w (e + 1)
  offsets-packed h = rw (p, q, r) h

pub returns : goal.returns
returns c = ap not (rw c.numbers-offsets.ensures.bytes at c.rise.ensures ∙ offsets-in _ _ c.numbers-offsets.ensures.place.value (c.numbers-offsets.ensures.width ∙ c.element_width.ensures) c.elements.ensures.value _)
