-- `fault_15` tests the bitmap, and where that is long enough the buffers.
-- The results of the two tests and of the read stand for the parts of fault 15.
use Rattle.image.specs.Faults.{fault15}
use Rattle.validate.proofs.buffers.fault_15.Goals as goal

pub returns-then-bitmap_under : goal.returns-then-bitmap_under
unfolding fault15
returns-then-bitmap_under c = rw (← c.bitmap_under.ensures, c.if-bitmap_under.true)

pub returns-else-bitmap_under : goal.returns-else-bitmap_under
unfolding fault15
returns-else-bitmap_under c = rw (← c.bitmap_under.ensures, c.if-bitmap_under.false) c.any_under.ensures
