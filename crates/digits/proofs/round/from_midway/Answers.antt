-- `from_midway` gives the number that the rule for a half says.
-- By the rule's definition.
use mathlib.Core.Path.{refl}
use Rattle.image.specs.Digits.{midway}
use Rattle.digits.proofs.round.from_midway.Goals as goal

pub returns : goal.returns
unfolding midway
returns c = refl
