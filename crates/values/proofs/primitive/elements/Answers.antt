-- The bytes of a block of elements.
-- It lies inside, so no sum or product of places grows past the image's length.
use mathlib.Core.Path.{◌∙◌}
use native.Mathlib.Omega.{arith}
use Rattle.image.proofs.Slices.{sliced}
use Rattle.values.proofs.Fixed.{block_inside, block_bytes}
use Rattle.values.proofs.primitive.elements.Goals as goal

pub overflow_mul-at : goal.overflow_mul-at
overflow_mul-at c = omega (arith, c.well_formed, block_inside _ _ _ _ c.element_width-width.ensures c.buffer_place.ensures.value c.requires)

pub overflow_add-at : goal.overflow_add-at
overflow_add-at c = omega (arith, c.well_formed, block_inside _ _ _ _ c.element_width-width.ensures c.buffer_place.ensures.value c.requires)

pub overflow_add-result : goal.overflow_add-result
overflow_add-result c = omega (arith, c.well_formed, block_inside _ _ _ _ c.element_width-width.ensures c.buffer_place.ensures.value c.requires)

pub slice_bounds-result-end : goal.slice_bounds-result-end
slice_bounds-result-end c = block_inside _ _ _ _ c.element_width-width.ensures c.buffer_place.ensures.value c.requires

pub returns : goal.returns
returns c = sliced _ _ _ (block_inside _ _ _ _ c.element_width-width.ensures c.buffer_place.ensures.value c.requires) ∙ block_bytes _ _ _ _ c.element_width-width.ensures c.buffer_place.ensures.value
