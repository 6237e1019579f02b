-- `any_outside` finds whether a buffer of the node lies outside.
-- The loop keeps that the test of all buffers is that of those from number j on.
use mathlib.Core.Path.{◌≡◌}
use mathlib.Core.Bool.{Bool}
use mathlib.Core.List.{List}
use Prim.Native.Nat.{ℕ, ◌+◌}
use native.Mathlib.Nat.{zero-add}
use Rattle.image.specs.Record.{buffer_place, buffer_length}
use Rattle.image.specs.Faults.{outside, buffer_outside}
use Rattle.image.proofs.Loops.{any_more, any_found, any_done}
use Rattle.validate.proofs.buffers.any_outside.Goals as goal

told : (s : List ℕ) (k j p n : ℕ) (r b : Bool) → p ≡ buffer_place s k j → n ≡ buffer_length s k j → r ≡ outside s p n → r ≡ b → buffer_outside s k (0 + j) ≡ b
unfolding buffer_outside
told s k j p n r b ep en er eb = rw (zero-add j, ← ep, ← en, ← er, eb)

pub returns-then-is_outside : goal.returns-then-is_outside
returns-then-is_outside c = rw (← c.buffer_count-j-end.ensures.value) (any_found _ _ _ _ c.loop-j-test.true c.loop-j.invariant (told _ _ _ _ _ _ _ c.buffer_place.ensures.value c.buffer_length.ensures.value c.is_outside.ensures c.if-is_outside.true))

pub loop-j-preserved : goal.loop-j-preserved
loop-j-preserved c = any_more _ _ _ _ c.loop-j-test.true c.loop-j.invariant (told _ _ _ _ _ _ _ c.buffer_place.ensures.value c.buffer_length.ensures.value c.is_outside.ensures c.if-is_outside.false)

pub returns : goal.returns
returns c = rw (← c.buffer_count-j-end.ensures.value) (any_done _ _ _ _ c.loop-j-test.false c.loop-j.invariant)
