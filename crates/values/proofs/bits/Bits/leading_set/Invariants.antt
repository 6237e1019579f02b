-- How many of n bits are set up to the first that is not: 64 at a time.
-- The invariant: the bits passed are set.
use Rattle.image.specs.Bytes.{bit_at}
use Rattle.image.specs.Ranges.{every}
use mathlib.Core.Path.{◌≡◌}
use mathlib.Core.Bool.{true}
use Prim.Native.Nat.{◌*◌}
use Rattle.values.proofs.bits.Bits.leading_set.Given as goal

abbrev pub invariant-loop-h : goal.invariant-loop-h
invariant-loop-h l = every (bit_at l.self.bytes.now l.self.place) l.self.first (64 * l.h) ≡ true
