-- The answer is whether the bytes of two ranges of elements are the same.
-- What `==` says of them.
use mathlib.Core.Path.{◌∙◌}
use Rattle.values.proofs.Slices.{lists_same}
use Rattle.values.proofs.Fixed.{fixed_block}
use Rattle.values.proofs.primitive.elements_equal.Goals as goal

pub returns : goal.returns
returns c =
    let right = rw (← c.requires.width) at c.elements-2.ensures in
    let same = rw (c.elements.ensures, right) at c.eq.ensures in
    same ∙ lists_same _ _ ∙ fixed_block _ _ _ _ c.requires.width _ _ _
