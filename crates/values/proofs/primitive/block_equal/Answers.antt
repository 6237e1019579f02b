-- `values::primitive::block_equal` meets its contract.
-- The elements that the rows read lie inside.
use Rattle.values.proofs.Fixed.{masked_fixed, fixed_inside}
use Rattle.accepted.proofs.Nodes.{side_small}
use native.Mathlib.Omega.{arith}
use Rattle.values.proofs.primitive.block_equal.Goals as goal

pub elements-requires : goal.elements-requires
elements-requires c = (omega (arith, side_small _ _ _ _ c.requires.left), omega (arith, side_small _ _ _ _ c.requires.right))

pub elements_equal-requires : goal.elements_equal-requires
elements_equal-requires c = rw c.elements.ensures (fixed_inside (masked_fixed c.requires))
