-- `view_value` gives the view's length and bytes.
-- The view of a row that is not null shows bytes of the image.
use Rattle.accepted.proofs.Views.{viewed, view_place_lem}
use Rattle.rows.proofs.value.Element.view_value.Goals as goal

pub invariant_of-view : goal.invariant_of-view
invariant_of-view c = record { viewed = viewed c.args.self.part c.requires c.buffer_place.ensures.value c.node_entry.ensures }

pub returns : goal.returns
returns c = rw (c.text.ensures, c.bytes.ensures, view_place_lem c.args.self.part c.requires c.buffer_place.ensures.value)
