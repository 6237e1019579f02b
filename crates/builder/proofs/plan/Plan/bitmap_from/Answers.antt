-- `bitmap_from` answers where the bitmap of a node stands.
-- It is asked whether the code may have one.
use Rattle.builder.specs.Front.{bitmap_from}
use Rattle.builder.proofs.plan.Plan.bitmap_from.Goals as goal

pub returns-then-takes_bitmap : goal.returns-then-takes_bitmap
unfolding bitmap_from
returns-then-takes_bitmap c = rw (← c.code.ensures.value, ← c.takes_bitmap.ensures, c.if-takes_bitmap.true)

pub returns : goal.returns
unfolding bitmap_from
returns c = rw (← c.code.ensures.value, ← c.takes_bitmap.ensures, c.if-takes_bitmap.false)
