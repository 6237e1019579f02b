-- Where `is_plain` says yes, the view's text is well-formed.
-- A short view holds its text; a long one's is a part of a data buffer.
use mathlib.Core.Path.{refl, sym, ap, ◌∙◌}
use borrow.Author.Tests.{not-true}
use Rattle.utf8.specs.Ascii.{any_high}
use Rattle.image.proofs.Slices.{sliced}
use Rattle.validate.proofs.TextRows.{view_row, view_fits, plain_short, plain_long}
use native.Mathlib.Omega.{arith}
use Rattle.validate.proofs.texts.ViewTexts.is_plain.Goals as goal

pub view-view-requires : goal.view-view-requires
view-view-requires c = view_row c.args.self.texts c.requires

pub returns-then-length-le-INLINE_LENGTH : goal.returns-then-length-le-INLINE_LENGTH
returns-then-length-le-INLINE_LENGTH c =
    let short = rw (c.view-view.ensures.node, c.view-view.ensures.place) at c.length.ensures.value in
    λ e. plain_short c.args.self.texts c.requires (omega (arith, short, c.if-length-le-INLINE_LENGTH.true)) (sym (rw c.view-view.ensures.place at c.high_among.ensures ∙ ap any_high (sliced _ _ 16 (omega (arith, view_fits c.args.self.texts _ c.requires.row)))) ∙ not-true _ e)

pub returns-in-Plain : goal.returns-in-Plain
returns-in-Plain c =
    let long = rw (c.view-view.ensures.node, c.view-view.ensures.place) at c.length.ensures.value in
    λ e. plain_long c.args.self.texts c.requires (omega (arith, long, c.if-length-le-INLINE_LENGTH.false)) refl (c.args.self.found.plain c.in-Plain.is)
