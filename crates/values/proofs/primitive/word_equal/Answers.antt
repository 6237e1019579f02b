-- `word_equal` compares at most 64 rows.
-- The bits of the word are those of the rows; the elements lie inside.
use Rattle.image.proofs.Slices.{sliced}
use Rattle.values.proofs.Masks.{mask_word}
use Rattle.values.proofs.ValidElements.{left_inside, right_inside, word_rows}
use mathlib.Core.Path.{◌∙◌}
use native.Mathlib.Omega.{arith}
use Rattle.values.proofs.primitive.word_equal.Goals as goal

pub overflow_mul-size : goal.overflow_mul-size
overflow_mul-size c = omega (arith, left_inside c.requires.masked.1 c.requires.columns, right_inside c.requires.masked.1 c.requires.columns, c.ranges)

pub overflow_mul-x : goal.overflow_mul-x
overflow_mul-x c = omega (arith, left_inside c.requires.masked.1 c.requires.columns, right_inside c.requires.masked.1 c.requires.columns, c.ranges)

pub overflow_add-x : goal.overflow_add-x
overflow_add-x c = omega (arith, left_inside c.requires.masked.1 c.requires.columns, right_inside c.requires.masked.1 c.requires.columns, c.ranges)

pub overflow_mul-y : goal.overflow_mul-y
overflow_mul-y c = omega (arith, left_inside c.requires.masked.1 c.requires.columns, right_inside c.requires.masked.1 c.requires.columns, c.ranges)

pub overflow_add-y : goal.overflow_add-y
overflow_add-y c = omega (arith, left_inside c.requires.masked.1 c.requires.columns, right_inside c.requires.masked.1 c.requires.columns, c.ranges)

pub overflow_add-x-2 : goal.overflow_add-x-2
overflow_add-x-2 c = omega (arith, left_inside c.requires.masked.1 c.requires.columns, right_inside c.requires.masked.1 c.requires.columns, c.ranges)

pub overflow_add-y-2 : goal.overflow_add-y-2
overflow_add-y-2 c = omega (arith, left_inside c.requires.masked.1 c.requires.columns, right_inside c.requires.masked.1 c.requires.columns, c.ranges)

pub slice_bounds-valid_equal-end : goal.slice_bounds-valid_equal-end
slice_bounds-valid_equal-end c = left_inside c.requires.masked.1 c.requires.columns

pub slice_bounds-valid_equal-end-2 : goal.slice_bounds-valid_equal-end-2
slice_bounds-valid_equal-end-2 c = right_inside c.requires.masked.1 c.requires.columns

pub returns : goal.returns
returns c =
    let same = rw (sliced _ _ _ (left_inside c.requires.masked.1 c.requires.columns), sliced _ _ _ (right_inside c.requires.masked.1 c.requires.columns)) at c.valid_equal.ensures in
    same ∙ word_rows c.requires.masked.1 c.requires.columns c.requires.mask.is_there (mask_word _ c.requires.mask c.word.ensures) c.requires.masked.0
