-- The first bit in which two numbers differ.
-- It is the lowest that is set of their exclusive or.
use mathlib.Core.Path.{◌∙◌}
use native.Mathlib.Omega.{arith}
use Rattle.values.proofs.WordBits.{first_differs}
use Rattle.values.proofs.bits.first_apart.Goals as goal

pub returns : goal.returns
returns c = c.min.ensures ∙ first_differs _ _ _ c.requires (omega (arith, c.ranges.x)) (omega (arith, c.ranges.y))
