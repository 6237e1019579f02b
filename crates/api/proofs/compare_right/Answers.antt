-- The answer is the comparison's: a refusal of the right image, or what follows.
-- By the laws of the answers from what the callees give.
use mathlib.Core.Path.{sym, ◌∙◌}
use Rattle.api.proofs.Answers.{compare_right, compare_both}
use Rattle.api.proofs.compare_right.Goals as goal

pub returns-in_default : goal.returns-in_default
returns-in_default c = compare_both _ _ c.requires (sym c.check-checked.ensures ∙ c.in_default.is) c.compare_accepted.ensures

pub returns : goal.returns
returns c = compare_right _ _ c.requires (sym c.check-checked.ensures ∙ c.in-Err.is)
