-- `Node::child_with_id` finds the child that has the type id.
-- The loop keeps that the children from number c on decide.
use Rattle.image.specs.Element.{has_id}
use Rattle.image.specs.Record.{first_child, child_count}
use Rattle.image.specs.Ranges
use Rattle.image.proofs.Loops.{Rest}
use Rattle.image.proofs.record.Node.child_with_id.Given as goal

abbrev pub invariant-loop-c : goal.invariant-loop-c
invariant-loop-c l = Rest (Ranges.first (has_id l.self.image.now l.id)) (first_child l.self.image.now l.self.number) (child_count l.self.image.now l.self.number) l.c
