-- What is read once of a node whose rows are views.
use Rattle.accepted.proofs.Views.{entries_read}
use Rattle.accepted.proofs.byte_view.Views.new.Goals as goal

pub invariant_of-result : goal.invariant_of-result
invariant_of-result c = record { read = record { start = c.first_place.ensures.value; entries = entries_read _ _ _ c.node_entry.ensures } }
