-- Elements without nulls are equal where their bytes are.
-- By the law of fixed-width parts.
use Rattle.values.proofs.Fixed.{parts_fixed, fixed_inside}
use Rattle.values.proofs.primitive.primitive_equal.Goals as goal

pub elements_equal-requires : goal.elements_equal-requires
elements_equal-requires c = fixed_inside (parts_fixed _ _ _ _ _ _ _ _ c.requires.parts c.requires.layout)
