-- `View::length` gives the number in front of the view.
use Rattle.image.specs.Element.{view_length}
use Rattle.accepted.proofs.byte_view.View.length.Goals as goal

pub returns : goal.returns
unfolding view_length
returns c = c.load.ensures
