-- Where `cut_well` says yes and the data buffers are well-formed, the view's text is.
-- It is a part of its buffer, and no tail stands where it begins and where it ends, unless the buffer ends there.
use mathlib.Core.Path.{sym, ◌∙◌}
use borrow.Author.Tests.{not-true}
use Rattle.validate.proofs.TextRows.{view_row, cut_row}
use native.Mathlib.Omega.{arith}
use Rattle.validate.proofs.texts.ViewTexts.cut_well.Goals as goal

pub view-view-requires : goal.view-view-requires
view-view-requires c = view_row c.args.self.texts c.requires

pub returns-then-end-start : goal.returns-then-end-start
returns-then-end-start c = λ e. cut_row c.args.self.texts c.requires c.view-view.ensures.node c.view-view.ensures.place c.length-len.ensures c.if-len-le-INLINE_LENGTH.false c.buffer-buffer.ensures.number c.start-start.ensures c.buffer_place.ensures.value c.buffer_length.ensures.value (λ lt. sym c.is_tail.ensures ∙ c.if-is_tail.false) (λ lt. absurd (omega (arith, lt, c.if-end-start.true)))

pub returns-else-end-start : goal.returns-else-end-start
returns-else-end-start c = λ e. cut_row c.args.self.texts c.requires c.view-view.ensures.node c.view-view.ensures.place c.length-len.ensures c.if-len-le-INLINE_LENGTH.false c.buffer-buffer.ensures.number c.start-start.ensures c.buffer_place.ensures.value c.buffer_length.ensures.value (λ lt. sym c.is_tail.ensures ∙ c.if-is_tail.false) (λ lt. sym c.is_tail-else-end-start.ensures ∙ not-true _ e)
