-- The answer is the comparison's: a refusal of the left image, or what follows.
-- By the laws of the answers from what the callees give.
use mathlib.Core.Path.{sym, ◌∙◌}
use Rattle.api.proofs.Answers.{compare_left}
use Rattle.api.proofs.compare.Goals as goal

pub returns : goal.returns
returns c = compare_left _ _ (sym c.check-checked.ensures ∙ c.in-Err.is)
