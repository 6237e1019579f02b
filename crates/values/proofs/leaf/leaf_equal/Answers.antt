-- `leaf_equal` compares one pair of rows.
-- A row is its value: the bytes at its place, or the text between its offsets.
use mathlib.Core.Path.{◌∙◌}
use Rattle.accepted.proofs.Nodes.{side_small}
use Rattle.values.proofs.Slices.{parts_same}
use Rattle.values.proofs.LeafRows.{fixed_left, fixed_right, fixed_rows, left_packed, right_packed, left_read, right_read, text_differs, text_same}
use native.Mathlib.Omega.{arith}
use Rattle.values.proofs.leaf.leaf_equal.Goals as goal

pub overflow_mul-x : goal.overflow_mul-x
overflow_mul-x c = let inside = fixed_left c.requires.sides (rw c.in-Fixed.is at c.requires.leaves) in omega (arith, inside)

pub overflow_add-x : goal.overflow_add-x
overflow_add-x c = let inside = fixed_left c.requires.sides (rw c.in-Fixed.is at c.requires.leaves) in omega (arith, inside)

pub overflow_add-x-in-Fixed : goal.overflow_add-x-in-Fixed
overflow_add-x-in-Fixed c = let inside = fixed_left c.requires.sides (rw c.in-Fixed.is at c.requires.leaves) in omega (arith, inside)

pub slice_bounds-eq-end : goal.slice_bounds-eq-end
slice_bounds-eq-end c = let inside = fixed_left c.requires.sides (rw c.in-Fixed.is at c.requires.leaves) in omega (arith, inside)

pub overflow_mul-y : goal.overflow_mul-y
overflow_mul-y c = let inside = fixed_right c.requires.sides (rw c.in-Fixed.is at c.requires.leaves) in omega (arith, inside)

pub overflow_add-y : goal.overflow_add-y
overflow_add-y c = let inside = fixed_right c.requires.sides (rw c.in-Fixed.is at c.requires.leaves) in omega (arith, inside)

pub overflow_add-y-in-Fixed : goal.overflow_add-y-in-Fixed
overflow_add-y-in-Fixed c = let inside = fixed_right c.requires.sides (rw c.in-Fixed.is at c.requires.leaves) in omega (arith, inside)

pub slice_bounds-eq-end-in-Fixed : goal.slice_bounds-eq-end-in-Fixed
slice_bounds-eq-end-in-Fixed c = let inside = fixed_right c.requires.sides (rw c.in-Fixed.is at c.requires.leaves) in omega (arith, inside)

pub returns-in-Fixed : goal.returns-in-Fixed
returns-in-Fixed c = let leaves = rw c.in-Fixed.is at c.requires.leaves in λ depth. c.eq.ensures ∙ parts_same _ _ _ _ _ _ (fixed_left c.requires.sides leaves) (fixed_right c.requires.sides leaves) ∙ fixed_rows c.requires.sides leaves depth

pub inside-from-requires : goal.inside-from-requires
inside-from-requires c = let leaves = rw c.in-Texts.is at c.requires.leaves in left_packed c.requires.sides leaves _ (omega arith)

pub inside-requires : goal.inside-requires
inside-requires c = let leaves = rw c.in-Texts.is at c.requires.leaves in left_packed c.requires.sides leaves _ (omega arith)

pub inside-start-requires : goal.inside-start-requires
inside-start-requires c = let leaves = rw c.in-Texts.is at c.requires.leaves in right_packed c.requires.sides leaves _ (omega arith)

pub inside-requires-in-Texts : goal.inside-requires-in-Texts
inside-requires-in-Texts c = let leaves = rw c.in-Texts.is at c.requires.leaves in right_packed c.requires.sides leaves _ (omega arith)

pub overflow_add-s : goal.overflow_add-s
overflow_add-s c = omega (arith, side_small _ _ _ _ c.requires.sides.left)

pub overflow_add-t : goal.overflow_add-t
overflow_add-t c = omega (arith, side_small _ _ _ _ c.requires.sides.right)

pub overflow_sub-len : goal.overflow_sub-len
overflow_sub-len c = let leaves = rw c.in-Texts.is at c.requires.leaves in (left_read c.requires.sides leaves c.inside-from.ensures c.inside.ensures).up

pub overflow_sub-inside : goal.overflow_sub-inside
overflow_sub-inside c = let leaves = rw c.in-Texts.is at c.requires.leaves in (right_read c.requires.sides leaves c.inside-start.ensures c.inside-in-Texts.ensures).up

pub returns-then-inside-start : goal.returns-then-inside-start
returns-then-inside-start c = let leaves = rw c.in-Texts.is at c.requires.leaves in let left = left_read c.requires.sides leaves c.inside-from.ensures c.inside.ensures in let right = right_read c.requires.sides leaves c.inside-start.ensures c.inside-in-Texts.ensures in λ depth. text_differs c.requires.sides leaves depth left right c.if-inside-start.true

pub overflow_add-x-in-Texts : goal.overflow_add-x-in-Texts
overflow_add-x-in-Texts c = let leaves = rw c.in-Texts.is at c.requires.leaves in let left = left_read c.requires.sides leaves c.inside-from.ensures c.inside.ensures in let right = right_read c.requires.sides leaves c.inside-start.ensures c.inside-in-Texts.ensures in omega (arith, left.up, left.inside, right.up, right.inside, c.if-inside-start.false)

pub overflow_add-y-in-Texts : goal.overflow_add-y-in-Texts
overflow_add-y-in-Texts c = let leaves = rw c.in-Texts.is at c.requires.leaves in let left = left_read c.requires.sides leaves c.inside-from.ensures c.inside.ensures in let right = right_read c.requires.sides leaves c.inside-start.ensures c.inside-in-Texts.ensures in omega (arith, left.up, left.inside, right.up, right.inside, c.if-inside-start.false)

pub overflow_add-x-in-Texts-2 : goal.overflow_add-x-in-Texts-2
overflow_add-x-in-Texts-2 c = let leaves = rw c.in-Texts.is at c.requires.leaves in let left = left_read c.requires.sides leaves c.inside-from.ensures c.inside.ensures in let right = right_read c.requires.sides leaves c.inside-start.ensures c.inside-in-Texts.ensures in omega (arith, left.up, left.inside, right.up, right.inside, c.if-inside-start.false)

pub overflow_add-y-in-Texts-2 : goal.overflow_add-y-in-Texts-2
overflow_add-y-in-Texts-2 c = let leaves = rw c.in-Texts.is at c.requires.leaves in let left = left_read c.requires.sides leaves c.inside-from.ensures c.inside.ensures in let right = right_read c.requires.sides leaves c.inside-start.ensures c.inside-in-Texts.ensures in omega (arith, left.up, left.inside, right.up, right.inside, c.if-inside-start.false)

pub slice_bounds-eq-end-in-Texts : goal.slice_bounds-eq-end-in-Texts
slice_bounds-eq-end-in-Texts c = let leaves = rw c.in-Texts.is at c.requires.leaves in let left = left_read c.requires.sides leaves c.inside-from.ensures c.inside.ensures in let right = right_read c.requires.sides leaves c.inside-start.ensures c.inside-in-Texts.ensures in omega (arith, left.up, left.inside, right.up, right.inside, c.if-inside-start.false)

pub slice_bounds-eq-end-in-Texts-2 : goal.slice_bounds-eq-end-in-Texts-2
slice_bounds-eq-end-in-Texts-2 c = let leaves = rw c.in-Texts.is at c.requires.leaves in let left = left_read c.requires.sides leaves c.inside-from.ensures c.inside.ensures in let right = right_read c.requires.sides leaves c.inside-start.ensures c.inside-in-Texts.ensures in omega (arith, left.up, left.inside, right.up, right.inside, c.if-inside-start.false)

pub returns-else-inside-start : goal.returns-else-inside-start
returns-else-inside-start c = let leaves = rw c.in-Texts.is at c.requires.leaves in let left = left_read c.requires.sides leaves c.inside-from.ensures c.inside.ensures in let right = right_read c.requires.sides leaves c.inside-start.ensures c.inside-in-Texts.ensures in λ depth. c.eq-in-Texts.ensures ∙ parts_same _ _ _ _ _ _ (omega (arith, left.up, left.inside)) (omega (arith, right.up, right.inside, c.if-inside-start.false)) ∙ text_same c.requires.sides leaves depth left right c.if-inside-start.false
