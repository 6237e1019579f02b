-- `Node::children_by_id` enters each child by its type id.
-- The loop keeps that the children from number c on are entered.
use Rattle.image.specs.Record.{first_child, child_count}
use Rattle.image.proofs.ChildTable.{Filled}
use Rattle.image.proofs.record.Node.children_by_id.Given as goal

abbrev pub invariant-loop-c : goal.invariant-loop-c
invariant-loop-c l = Filled l.self.image.now (first_child l.self.image.now l.self.number) (child_count l.self.image.now l.self.number) l.c l.table
