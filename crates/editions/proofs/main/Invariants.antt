-- A chunk that was read is to come; each turn takes from it, until nothing of it is left.
use Rattle.std.proofs.Common.{[], length}
use Rattle.session.specs.Turns.{held_in}
use Rattle.session.proofs.Reading.{Read}
use Rattle.editions.proofs.main.Given as goal

abbrev pub invariant-loop-left : goal.invariant-loop-left
invariant-loop-left l = Read (held_in l.progress) l.initial.left l.left

abbrev pub decreases-loop-left : goal.decreases-loop-left
decreases-loop-left l = length l.left

abbrev pub invariant-loop : goal.invariant-loop
invariant-loop l = Read (held_in l.progress) [] []
