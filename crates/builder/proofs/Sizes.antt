-- How wide an element is at most, so that the bytes of a part never overflow.
-- The widths and the largest p1 of all codes are one test over the 44 codes.
use mathlib.Core.Path.{◌≡◌, refl}
use mathlib.Core.Bool.{Bool, true, false, cond, ◌&&◌}
use mathlib.Core.List.{List}
use Prim.Native.Nat.{ℕ, ◌+◌, ◌*◌, ◌≤◌, ◌<◌, ◌^◌}
use native.Mathlib.Nat.{mul-le-mul}
use native.Mathlib.Omega.{arith}
use lib.Dec.{eqb, leb}
use borrow.Author.Tests.{leb-true}
use Rattle.image.specs.Ranges.{every}
use Rattle.image.specs.Record.{longest_image, most_elements, code_of, p1_of}
use Rattle.image.specs.TypeCode.{entries, entry_of, integer_width, width_of, p1_fits}
use Rattle.image.specs.Element.{element_width}
use Rattle.image.proofs.Bools.{and_left, and_right}
use Rattle.image.proofs.Ranges.{every_below}
use Rattle.image.proofs.Widths.{integer_width_lem}
use Rattle.laws.specs.Accepted.{Known}

abbrev narrow : ℕ → Bool
narrow c = leb (entry_of c).width longest_image && leb (entry_of c).high longest_image

codes_narrow : every narrow 0 44 ≡ true
unfolding every entry_of entries
codes_narrow = refl

pub width_most : (s : List ℕ) (k : ℕ) → Known s k → element_width s k ≤ longest_image
unfolding element_width width_of p1_fits
width_most s k known =
    let h = every_below narrow 44 codes_narrow (code_of s k) (omega (arith, known.code)) in
    let high : (entry_of (code_of s k)).high ≤ longest_image = leb-true _ _ (and_right (leb (entry_of (code_of s k)).width longest_image) _ h) in
    let own : p1_of s k ≤ (entry_of (code_of s k)).high = leb-true _ _ (and_right (leb (entry_of (code_of s k)).low (p1_of s k)) _ known.p1) in
    cases (eqb (code_of s k) 30) (eqb (code_of s k) 41) (omega arith) (leb-true _ _ (and_left _ _ h))
  where
    cases : (a b : Bool) → p1_of s k ≤ longest_image → (entry_of (code_of s k)).width ≤ longest_image → cond a (p1_of s k) (cond b (integer_width (p1_of s k)) (entry_of (code_of s k)).width) ≤ longest_image
    cases true b own code = own
    cases false true own code = omega (arith, integer_width_lem (p1_of s k))
    cases false false own code = code

-- the bytes of so many elements
pub elements_fit : (n w : ℕ) → n ≤ most_elements + 1 → w ≤ longest_image → n * w < 2 ^ 64
elements_fit n w few slim =
    let h : n * w ≤ (most_elements + 1) * longest_image = mul-le-mul few slim in
    omega arith
