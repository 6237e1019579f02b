-- `View::buffer` gives the number of a longer view's data buffer.
-- Acceptance says that the node has it.
use Rattle.image.specs.Element.{view_buffer}
use Rattle.accepted.proofs.Views.{data_buffer, few_buffers}
use native.Mathlib.Omega.{arith}
use Rattle.accepted.proofs.byte_view.View.buffer.Goals as goal

pub overflow_add-result : goal.overflow_add-result
unfolding view_buffer
overflow_add-result c = omega (arith, few_buffers c.args.self.viewed c.requires, c.load.ensures.value)

pub returns-clause-number : goal.returns-clause-number
unfolding view_buffer
returns-clause-number c = omega (arith, c.load.ensures.value)

pub returns-clause-inside : goal.returns-clause-inside
unfolding view_buffer
returns-clause-inside c = omega (arith, data_buffer c.args.self.viewed c.requires, c.load.ensures.value)
