-- `utf8::is_utf8` meets its contract: a text without a byte above 7F is well-formed, any other is walked.
-- Assumes nothing.
use mathlib.Core.Path.{sym, ◌∙◌}
use Rattle.utf8.proofs.Plain.{plain_text}
use Rattle.utf8.proofs.is_utf8.Goals as goal

pub returns-then-not-has_high : goal.returns-then-not-has_high
returns-then-not-has_high c = sym (plain_text _ (sym c.has_high.ensures ∙ c.if-not-has_high.true))
