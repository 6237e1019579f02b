-- `ids_rise` tells whether the type ids of a node's children rise.
-- The loop keeps what is left of the rise; each turn takes one id off, which a test has told to be in its bounds.
use Rattle.image.specs.Record.{id_of, first_child}
use Rattle.image.proofs.Loops.{Rising}
use Rattle.validate.proofs.tree.ids_rise.Given as goal

abbrev pub invariant-loop-c : goal.invariant-loop-c
invariant-loop-c l = Rising 1 (id_of l.node.image.now) 127 0 (first_child l.node.image.now l.node.number) l.c-end l.c l.least
