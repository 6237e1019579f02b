-- The text of the row's view is well-formed exactly where its bytes are.
-- A view without a byte above 7F is, and one that is cut well out of a well-formed buffer; else the text's bytes are looked at.
use mathlib.Core.Path.{ap, ◌∙◌}
use Rattle.image.specs.Utf8.{well_formed}
use Rattle.validate.proofs.TextRows.{view_row, view_text}
use Rattle.validate.proofs.texts.ViewTexts.is_formed.Goals as goal

pub view-requires : goal.view-requires
view-requires c = view_row c.args.self.texts c.requires

pub returns : goal.returns
returns c = c.is_utf8.ensures ∙ ap well_formed (c.bytes.ensures ∙ rw (c.view.ensures.node, c.view.ensures.place) (view_text c.args.self.texts c.args.i))
