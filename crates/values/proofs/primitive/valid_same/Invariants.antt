-- `valid_same` compares the elements whose bit is set.
-- The loop keeps that the answer so far is that of the first h pairs.
use Rattle.values.specs.Pairs.{all, valid_same}
use mathlib.Core.Path.{◌≡◌}
use Rattle.values.proofs.primitive.valid_same.Given as goal

abbrev pub invariant-loop-h : goal.invariant-loop-h
invariant-loop-h g l = l.same ≡ all (valid_same l.bits l.x l.y g.row.W) 0 0 l.h
