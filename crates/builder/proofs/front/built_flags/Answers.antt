-- `built_flags` answers the flags of a node.
-- It is asked whether the code may have a bitmap.
use mathlib.Core.Path.{sym}
use native.Mathlib.Nat.{add-zero}
use Rattle.builder.specs.Front.{built_flags}
use Rattle.builder.proofs.front.built_flags.Goals as goal

pub returns-then-takes_bitmap : goal.returns-then-takes_bitmap
unfolding built_flags
returns-then-takes_bitmap c = rw (← c.code.ensures.value, ← c.takes_bitmap.ensures, c.if-takes_bitmap.true, c.from-nullable.ensures, c.flags.ensures.value)

pub returns : goal.returns
unfolding built_flags
returns c = rw (← c.code.ensures.value, ← c.takes_bitmap.ensures, c.if-takes_bitmap.false, c.from-nullable.ensures, c.flags.ensures.value) (sym (add-zero _))
