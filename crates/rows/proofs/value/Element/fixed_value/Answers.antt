-- `fixed_value` gives the element's bytes.
-- They lie inside the image, so that their place does not wrap.
use native.Mathlib.Omega.{arith}
use Rattle.image.proofs.Slices.{sliced}
use Rattle.image.specs.Element.{element_place}
use Rattle.rows.proofs.ValuePlaces.{fixed_small, fixed_lent}
use Rattle.rows.proofs.value.Element.fixed_value.Goals as goal

pub overflow_mul-place : goal.overflow_mul-place
overflow_mul-place c = omega (arith, fixed_small c.args.self.part c.requires c.element_width-width.ensures c.buffer_place.ensures.value)

pub overflow_add-place : goal.overflow_add-place
overflow_add-place c = omega (arith, fixed_small c.args.self.part c.requires c.element_width-width.ensures c.buffer_place.ensures.value)

pub overflow_add-place-2 : goal.overflow_add-place-2
overflow_add-place-2 c = omega (arith, fixed_small c.args.self.part c.requires c.element_width-width.ensures c.buffer_place.ensures.value)

pub slice_bounds-leaf-end : goal.slice_bounds-leaf-end
slice_bounds-leaf-end c = omega (arith, fixed_lent c.args.self.part c.requires c.element_width-width.ensures c.buffer_place.ensures.value)

pub returns : goal.returns
unfolding element_place
returns c = rw (c.leaf.ensures, sliced _ _ _ (fixed_lent c.args.self.part c.requires c.element_width-width.ensures c.buffer_place.ensures.value), c.element_width-width.ensures, c.buffer_place.ensures.value)
