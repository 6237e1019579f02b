-- Where `formed_together` says yes, no row's text is ill-formed.
-- Bytes up to 7F are well-formed in every part, and a well-formed text in every part that is cut where no tail stands.
use mathlib.Core.Path.{sym, ap, ◌∙◌}
use borrow.Author.Tests.{not-true}
use Rattle.image.specs.Utf8.{well_formed}
use Rattle.utf8.specs.Ascii.{any_high}
use Rattle.image.proofs.Slices.{bytes_taken}
use Rattle.validate.proofs.TextRows.{read_rise, read_plain, read_cut}
use native.Mathlib.Omega.{arith}
use Rattle.validate.proofs.texts.Texts.formed_together.Goals as goal

pub slice_bounds-text-count : goal.slice_bounds-text-count
slice_bounds-text-count c = read_rise c.args.self.texts c.length.ensures.value c.text_start.ensures.value c.text_start-end.ensures.value

pub slice_bounds-text-start : goal.slice_bounds-text-start
slice_bounds-text-start c = read_rise c.args.self.texts c.length.ensures.value c.text_start.ensures.value c.text_start-end.ensures.value

pub returns-then-not-has_high : goal.returns-then-not-has_high
returns-then-not-has_high c =
    let rise = read_rise c.args.self.texts c.length.ensures.value c.text_start.ensures.value c.text_start-end.ensures.value in
    λ e. read_plain c.args.self.texts c.length.ensures.value c.text_start.ensures.value c.text_start-end.ensures.value (sym (c.has_high.ensures ∙ ap any_high (bytes_taken _ _ _ (omega (arith, rise, c.text_start-end.ensures.inside)))) ∙ c.if-not-has_high.true)

pub returns-then-walks_well : goal.returns-then-walks_well
returns-then-walks_well c =
    let rise = read_rise c.args.self.texts c.length.ensures.value c.text_start.ensures.value c.text_start-end.ensures.value in
    λ e. read_cut c.args.self.texts c.length.ensures.value c.text_start.ensures.value c.text_start-end.ensures.value (sym c.letter_split.ensures ∙ not-true _ e) (sym (c.walks_well.ensures ∙ ap well_formed (bytes_taken _ _ _ (omega (arith, rise, c.text_start-end.ensures.inside)))) ∙ c.if-walks_well.true)
