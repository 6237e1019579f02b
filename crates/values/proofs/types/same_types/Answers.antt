-- The types of two tables agree where those of their roots do.
-- By what the callee gives.
use Rattle.image.specs.Types.{types_agree}
use Rattle.values.proofs.types.same_types.Goals as goal

pub returns : goal.returns
unfolding types_agree
returns c = let roots = c.roots.ensures in let same = rw (roots.left_image, roots.left_root, roots.right_image, roots.right_root) at c.types_equal.ensures in same
