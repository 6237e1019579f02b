-- `View::bytes` lends the view's bytes.
use Rattle.image.proofs.Slices.{sliced}
use native.Mathlib.Omega.{arith}
use Rattle.accepted.proofs.byte_view.View.bytes.Goals as goal

pub returns : goal.returns
returns c = rw (sliced c.args.self.node.image.now c.start-start.result c.length.result (omega (arith, c.start-start.ensures.inside, c.length.ensures.value)), c.length.ensures.value, c.start-start.ensures.place)
