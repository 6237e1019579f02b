-- `utf8::parts::walk_small_blocks` meets its contract: plain blocks leave state 0 as it is, any others are walked.
-- Assumes nothing.
use mathlib.Core.Path.{sym, ◌∙◌}
use Rattle.utf8.proofs.Walks.{each_plain}
use Rattle.utf8.proofs.parts.walk_small_blocks.Goals as goal

pub returns-then-are_plain : goal.returns-then-are_plain
returns-then-are_plain c = each_plain _ _ _ (sym c.are_plain.ensures ∙ c.if-are_plain.true) c.pass_each.ensures
