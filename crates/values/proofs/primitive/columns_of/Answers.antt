-- `columns_of` reads two nodes.
-- Each field is what its reader says; the elements of both have one width.
use mathlib.Core.Path.{◌∙◌}
use Rattle.values.proofs.LeafRows.{first_at}
use Rattle.values.proofs.primitive.columns_of.Goals as goal

pub first_place-requires : goal.first_place-requires
first_place-requires c = rw c.element_width-width.ensures c.requires.small

pub first_place-requires-2 : goal.first_place-requires-2
first_place-requires-2 c = rw c.element_width-width.ensures c.requires.small

pub returns : goal.returns
returns c =
    record {
      width = c.element_width-width.ensures;
      left = first_at _ _ c.element_width-width.ensures c.first_place.ensures.value;
      right = first_at _ _ (c.element_width-width.ensures ∙ c.requires.same) c.first_place-2.ensures.value;
    }
