-- `text` reads a length and so many bytes, and adds the length to the node's span.
-- Its tests are those of the definition: there are so many bytes, and the code allows the text.
use borrow.Author.Rules.{rules}
use mathlib.Core.Path.{sym, ◌∙◌}
use Rattle.parse.proofs.Leaves.{text_short, text_cut, text_ill, text_go}
use Rattle.parse.proofs.leaf.Scan.text.Goals as goal

pub returns-in_err-n : goal.returns-in_err-n
returns-in_err-n c = rw c.from_residual.ensures (record { same = search rules; scans = rw c.count.ensures.spans (text_short _ _ _ c.in_err-n.ensures.tells) })

pub returns-in_err-value : goal.returns-in_err-value
returns-in_err-value c = rw c.from_residual-in_err-value.ensures (record { same = search rules; scans = rw c.count.ensures.spans (text_cut _ _ _ c.in_ok-n.ensures.tells c.in_err-value.ensures.cases) })

pub returns-then-not-is_allowed : goal.returns-then-not-is_allowed
returns-then-not-is_allowed c = record { same = search rules; scans = rw c.count.ensures.spans (text_ill _ _ _ c.in_ok-n.ensures.tells c.in_ok-value.ensures.cases (sym c.is_allowed.ensures ∙ c.if-not-is_allowed.true)) }

pub returns : goal.returns
returns c = record { same = search rules; scans = rw c.add_span.ensures.text (text_go _ _ _ c.in_ok-n.ensures.tells c.in_ok-value.ensures.cases (sym c.is_allowed.ensures ∙ c.if-not-is_allowed.false) (rw c.count.ensures.spans at c.add_span.ensures.grown)) }
