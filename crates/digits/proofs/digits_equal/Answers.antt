-- `digits_equal` compares chunk by chunk.
-- Masks that differ decide; else a part of numbers is such numbers.
use mathlib.Core.Path.{refl, sym, ◌∙◌}
use borrow.Author.Rules.{rules}
use Rattle.image.specs.Digits.{kept_agree}
use Rattle.accepted.proofs.Nodes.{side_small}
use Rattle.digits.proofs.Agreeing.{by_pairs, masks_differ, few_digits, numbers_of, roots_of, part_of}
use native.Mathlib.Omega.{arith}
use Rattle.digits.proofs.digits_equal.Goals as goal

pub equal_nulls-requires : goal.equal_nulls-requires
equal_nulls-requires c = record { left = omega (arith, side_small _ _ _ _ c.requires.sides.left, side_small _ _ _ _ c.requires.sides.right); right = omega (arith, side_small _ _ _ _ c.requires.sides.left, side_small _ _ _ _ c.requires.sides.right) }

pub returns-then-not-equal_nulls : goal.returns-then-not-equal_nulls
returns-then-not-equal_nulls c =
    let roots = c.roots-pair.ensures in
    let masks = rw (roots.left_image, roots.left_root, roots.right_image, roots.right_root) at c.equal_nulls.ensures in
    sym (sym (by_pairs _ _ _ _ _ _ refl) ∙ masks_differ _ _ _ _ _ _ (sym masks ∙ c.if-not-equal_nulls.true))

pub new-power-requires : goal.new-power-requires
new-power-requires c = few_digits _ _ c.requires.digits_fit

pub each_block-requires-clause-near : goal.each_block-requires-clause-near
each_block-requires-clause-near c = omega (arith, side_small _ _ _ _ c.requires.sides.left, side_small _ _ _ _ c.requires.sides.right)

pub each_block-requires-clause-tested : goal.each_block-requires-clause-tested
each_block-requires-clause-tested c =
    let roots = c.roots-pair.ensures in
    let masks = rw (roots.left_image, roots.left_root, roots.right_image, roots.right_root) at c.equal_nulls.ensures in
    let numbers = numbers_of _ _ c.requires.digits_fit c.requires.sides (sym masks ∙ c.if-not-equal_nulls.false) in
    λ k n le small _ _ _ _ _. part_of _ _ (roots_of c.roots-pair.ensures numbers) le

pub returns : goal.returns
returns c =
    let roots = c.roots-pair.ensures in
    let all = c.each_block.ensures (kept_agree c.new-power.result.value c.roots-pair.result.left.image.now c.roots-pair.result.right.image.now) (λ k n b le small told. search rules) in
    rw (roots.left_image, roots.right_image) at all ∙ by_pairs _ _ _ _ _ _ c.new-power.ensures
