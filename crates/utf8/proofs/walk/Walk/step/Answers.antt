-- `utf8::walk::Walk::step` meets its contract: the table's next state.
-- Assumes nothing.
use Rattle.std.proofs.lemmas.List.{take_rest}
use Rattle.utf8.proofs.Steps.{next_state_lem}
use Rattle.utf8.proofs.Walks.{further_byte}
use Rattle.utf8.proofs.walk.Walk.step.Goals as goal

pub invariant_of-result : goal.invariant_of-result
invariant_of-result c = record { known = rw c.next.ensures (next_state_lem _ _) }

pub returns : goal.returns
returns c = further_byte c.requires (take_rest c.args.self.left.now 1) c.next.ensures
