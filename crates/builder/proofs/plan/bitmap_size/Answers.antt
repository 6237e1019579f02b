-- `bitmap_size` answers the bytes of a bitmap.
-- It is asked whether the code may have one.
use Rattle.builder.specs.Plan.{bitmap_size}
use Rattle.builder.proofs.plan.bitmap_size.Goals as goal

pub returns-then-takes_bitmap : goal.returns-then-takes_bitmap
unfolding bitmap_size
returns-then-takes_bitmap c = rw (← c.takes_bitmap.ensures, c.if-takes_bitmap.true) c.bit_bytes.ensures

pub returns : goal.returns
unfolding bitmap_size
returns c = rw (← c.takes_bitmap.ensures, c.if-takes_bitmap.false)
