-- `valid_bytes` compares the elements whose bit is set.
-- The loop keeps that the elements from number h on decide.
use Rattle.values.specs.Pairs.{valid_same}
use Rattle.values.proofs.Steps.{Left}
use Rattle.values.proofs.primitive.valid_bytes.Given as goal

abbrev pub invariant-loop-h : goal.invariant-loop-h
invariant-loop-h l = Left (valid_same l.bits l.x l.y l.w) 0 0 l.n l.h
