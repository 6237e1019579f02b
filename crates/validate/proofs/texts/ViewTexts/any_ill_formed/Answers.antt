-- `ViewTexts::any_ill_formed` tells whether a row that is not null has an ill-formed text.
-- The test of each such row says whether its text is well-formed.
use borrow.Author.Rules.{rules}
use Rattle.image.specs.Faults.{text_row_fault}
use Rattle.validate.proofs.TextRows.{null_row, text_row}
use Rattle.validate.proofs.texts.ViewTexts.any_ill_formed.Goals as goal

pub returns : goal.returns
returns c = c.any_kept.ensures (text_row_fault c.args.self.views.node.image.now c.args.self.views.node.number) (record { null = λ i e. null_row _ _ i e; kept = λ i b lt full told. text_row _ _ i full (search rules) })
