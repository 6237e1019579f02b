-- `values::lengths::lengths_equal` meets its contract.
-- Offsets that are the same make the same lengths, and so do offsets that stand equally far above the first, and no others.
use Rattle.values.proofs.Fixed.{fixed_block}
use Rattle.values.proofs.Spans.{offsets_spans}
use Rattle.values.proofs.Distances.{else_wide, both_above, distances_spans}
use mathlib.Core.Path.{refl, sym, ◌∙◌}
use native.Mathlib.Nat.{add-zero}
use Rattle.values.proofs.lengths.lengths_equal.Goals as goal

pub returns-then-elements_equal : goal.returns-then-elements_equal
returns-then-elements_equal c = sym (offsets_spans c.requires (fixed_block _ _ _ _ c.requires.same _ _ _ ∙ sym c.elements_equal.ensures ∙ c.if-elements_equal.true))

pub distances_equal-requires : goal.distances_equal-requires
distances_equal-requires c = rw (c.new-left.ensures, c.new-right.ensures, add-zero, add-zero) (both_above c.requires (record { width = sym c.if-element_width-eq4.true ∙ c.element_width.ensures; left = refl; right = refl; left_first = refl; right_first = refl }))

pub returns-then-element_width-eq4 : goal.returns-then-element_width-eq4
returns-then-element_width-eq4 c = let same = rw (c.new-left.ensures, c.new-right.ensures, add-zero, add-zero) at c.distances_equal.ensures in same ∙ distances_spans c.requires (record { width = sym c.if-element_width-eq4.true ∙ c.element_width.ensures; left = refl; right = refl; left_first = refl; right_first = refl })

pub distances_equal-requires-2 : goal.distances_equal-requires-2
distances_equal-requires-2 c = rw (c.new-left.ensures, c.new-right.ensures, add-zero, add-zero) (both_above c.requires (record { width = else_wide c.requires.whole c.element_width.ensures c.if-element_width-eq4.false; left = refl; right = refl; left_first = refl; right_first = refl }))

pub returns : goal.returns
returns c = let same = rw (c.new-left.ensures, c.new-right.ensures, add-zero, add-zero) at c.distances_equal-2.ensures in same ∙ distances_spans c.requires (record { width = else_wide c.requires.whole c.element_width.ensures c.if-element_width-eq4.false; left = refl; right = refl; left_first = refl; right_first = refl })
