-- The first pair of Booleans that are not the same is the first unequal pair of their bits.
-- A Boolean row is its bit.
use mathlib.Core.Path.{refl, ap, ◌∙◌}
use lib.Dec.{ltb}
use Rattle.std.specs.Bool.{then_some}
use Rattle.values.proofs.Masks.{boolean_rows}
use Rattle.values.proofs.boolean.first_unequal_boolean.Goals as goal

pub returns : goal.returns
returns c =
    let first = rw (c.bits_from-left.ensures.same, c.bits_from-right.ensures.same) at c.first_unequal_bit.ensures in
    first ∙ ap (λ f. then_some (ltb f c.args.rows.count) f) (boolean_rows _ _ _ _ _ _ _ refl refl refl)
