-- `variable_value` gives the text with its length.
-- Offsets rise, and the text ends inside the image.
use native.Mathlib.Numerals.{add-one}
use native.Mathlib.Omega.{arith}
use Rattle.rows.proofs.ValuePlaces.{text_bounds, text_lent}
use Rattle.rows.proofs.value.Element.variable_value.Goals as goal

pub overflow_add-place : goal.overflow_add-place
overflow_add-place c = omega (arith, (text_bounds c.args.self.part c.requires c.buffer_place-place.ensures.value c.offset_at-from.ensures (rw add-one at c.offset_at-end.ensures)), c.args.self.part.image.tables.size)

pub overflow_add-place-2 : goal.overflow_add-place-2
overflow_add-place-2 c = omega (arith, (text_bounds c.args.self.part c.requires c.buffer_place-place.ensures.value c.offset_at-from.ensures (rw add-one at c.offset_at-end.ensures)), c.args.self.part.image.tables.size)

pub slice_bounds-text-end : goal.slice_bounds-text-end
slice_bounds-text-end c = omega (arith, (text_bounds c.args.self.part c.requires c.buffer_place-place.ensures.value c.offset_at-from.ensures (rw add-one at c.offset_at-end.ensures)))

pub returns : goal.returns
returns c = rw (c.text.ensures, text_lent c.args.self.part c.requires c.buffer_place-place.ensures.value c.offset_at-from.ensures (rw add-one at c.offset_at-end.ensures))
