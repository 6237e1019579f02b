-- `utf8::walk::in_one` meets its contract: the walk ends in state 0 exactly where the text is well-formed.
-- Assumes nothing.
use mathlib.Core.Path.{◌∙◌}
use Rattle.utf8.proofs.Walks.{begun_ends}
use Rattle.utf8.proofs.walk.in_one.Goals as goal

pub returns : goal.returns
returns c = c.ends_well.ensures ∙ begun_ends c.start.ensures
