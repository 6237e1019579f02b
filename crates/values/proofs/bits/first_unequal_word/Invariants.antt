-- The first unequal pair of two runs of whole words of bits.
-- The invariant: the bits of the h words passed are the same; words differ first where their bits do.
use Prim.Native.Nat.{◌*◌}
use Rattle.values.specs.Pairs.{same_bit}
use Rattle.values.proofs.Steps.{Passed}
use Rattle.values.proofs.bits.first_unequal_word.Given as goal

abbrev pub invariant-loop-h : goal.invariant-loop-h
invariant-loop-h g l = Passed (same_bit l.x.bytes.now l.x.place l.y.bytes.now l.y.place) l.x.first l.y.first (64 * l.m) (64 * l.h)
