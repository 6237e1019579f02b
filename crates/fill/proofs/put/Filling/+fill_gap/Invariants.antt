-- The measures and the invariants of the cycle.
use Prim.Native.Nat.{◌-◌}
use Rattle.image.specs.Record.{first_child}
use Rattle.fill.specs.Filling.{state, SameLent}
use Rattle.fill.proofs.Walks.{GapsLeft}
use Rattle.fill.proofs.put.Filling.+fill_gap.Given as goal

abbrev pub decreases-fill_gap : goal.decreases-fill_gap
decreases-fill_gap l = l.depth

abbrev pub invariant-loop-c : goal.invariant-loop-c
invariant-loop-c l = SameLent l.fn.self l.self × GapsLeft l.node.image.now l.fn.self.places.now (l.depth - 1) (first_child l.node.image.now l.node.number) l.c-end (state l.initial.self) (state l.self) l.c
