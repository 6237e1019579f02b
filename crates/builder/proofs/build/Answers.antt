-- `build` answers what the rows are, and puts their image where it fits.
-- The string is no rows, or the plan answers; the image is then laid out as rows make it.
use mathlib.Core.Path.{sym, ◌∙◌}
use Rattle.builder.proofs.Planning.{none_rise}
use Rattle.laws.proofs.Accepted.{accepted}
use Rattle.builder.proofs.Tables.{build_too_long, build_laid, build_bytes}
use native.Mathlib.Omega.{arith}
use Rattle.builder.proofs.build.Goals as goal

pub invariant_of-plan-clause-few : goal.invariant_of-plan-clause-few
invariant_of-plan-clause-few c = (accepted _ c.requires.0).tables.few_nodes

pub invariant_of-plan-clause-risen : goal.invariant_of-plan-clause-risen
invariant_of-plan-clause-risen c = none_rise _ (accepted _ c.requires.0).tables.few_nodes

pub returns-in_default : goal.returns-in_default
returns-in_default c = let both = build_too_long _ _ _ _ c.requires (λ k. omega (arith, c.shared_slice_known-2-1.given k)) (sym c.is_rows.ensures.value ∙ c.if-not-is_rows.false) c.is_rows.ensures.spanned c.give_lengths.ensures.lengths (sym c.in_default.is ∙ (rw (c.give_lengths.ensures.spans, c.give_lengths.ensures.image) at c.give_places.ensures.places.answer)) in record { value = both.0; out_after = both.1 }

pub put_table-requires : goal.put_table-requires
put_table-requires c = rw (c.give_places.ensures.lengths, c.give_places.ensures.image, c.give_lengths.ensures.image) (build_laid _ _ _ _ c.requires (λ k. omega (arith, c.shared_slice_known-2-1.given k)) (sym c.is_rows.ensures.value ∙ c.if-not-is_rows.false) c.is_rows.ensures.spanned c.give_lengths.ensures.lengths (sym c.in-Some.is ∙ (rw (c.give_lengths.ensures.spans, c.give_lengths.ensures.image) at c.give_places.ensures.places.answer)) ((rw (c.give_lengths.ensures.spans, c.give_lengths.ensures.image) at c.give_places.ensures.places).table _ c.in-Some.is))

pub returns : goal.returns
returns c = let both = build_bytes _ _ _ _ c.requires (λ k. omega (arith, c.shared_slice_known-2-1.given k)) (sym c.is_rows.ensures.value ∙ c.if-not-is_rows.false) c.is_rows.ensures.spanned c.give_lengths.ensures.lengths (sym c.in-Some.is ∙ (rw (c.give_lengths.ensures.spans, c.give_lengths.ensures.image) at c.give_places.ensures.places.answer)) (rw (c.give_places.ensures.image, c.give_lengths.ensures.image) at c.put_table.ensures) in record { value = both.0; out_after = both.1 }
