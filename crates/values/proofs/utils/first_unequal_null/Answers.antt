-- The first pair of rows of which one alone is null: by their bits, or where one side has no bitmap by the other's.
-- The laws of Masks.
use mathlib.Core.Path.{◌≡◌, refl, ap, ◌∙◌}
use borrow.Author.Rules.{rules}
use lib.Dec.{ltb}
use Rattle.std.specs.Bool.{then_some}
use Rattle.values.proofs.FirstUnequal.{unequal_past}
use Rattle.values.proofs.Masks.{masks_none, left_alone, right_alone, masks_both}
use Rattle.values.proofs.utils.first_unequal_null.Goals as goal
use Rattle.values.proofs.utils.first_unequal_null.Goals.{in-None-Some, in-None-Some-2}

pub returns-in-None-None : goal.returns-in-None-None
returns-in-None-None c =
    let left = rw c.in-None-None.is-0 at c.validity-left.ensures in
    let right = rw c.in-None-None.is-1 at c.validity-right.ensures in
    unequal_past _ _ _ _ (masks_none c.args.pair.now c.args.rows left right)

pub returns-in-None-Some : goal.returns-in-None-Some
returns-in-None-Some c =
    elim c.in-None-Some-1.branch [
      | in-None-Some w ↦ right_alone c.args.pair.now c.args.rows c.in-None-Some-1.bits c.validity-left.ensures w.in-None-Some.is-0 c.validity-right.ensures w.in-None-Some.is-1 c.leading_set.ensures c.below.ensures (search rules)
      | in-None-Some-2 w ↦ left_alone c.args.pair.now c.args.rows c.in-None-Some-1.bits c.validity-left.ensures w.in-None-Some.is-0 c.validity-right.ensures w.in-None-Some.is-1 c.leading_set.ensures c.below.ensures (search rules)
    ]

pub returns-in-Some-Some : goal.returns-in-Some-Some
returns-in-Some-Some c =
    let left = rw c.in-Some-Some.is-0 at c.validity-left.ensures in
    let right = rw c.in-Some-Some.is-1 at c.validity-right.ensures in
    c.first_unequal_bit.ensures ∙ ap (λ f. then_some (ltb f c.args.rows.count) f) (masks_both c.args.pair.now c.args.rows left right refl)
