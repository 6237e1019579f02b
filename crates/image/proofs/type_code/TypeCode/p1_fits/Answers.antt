-- `TypeCode::p1_fits` answers as the definition does.
-- The two tests are the definition's, at the bounds of the code's entry.
use borrow.Author.Tests.{le-leb, lt-leb}
use Rattle.image.specs.TypeCode.{p1_fits}
use Rattle.image.proofs.type_code.TypeCode.p1_fits.Goals as goal

pub returns-then-low-p1 : goal.returns-then-low-p1
unfolding p1_fits
returns-then-low-p1 c = rw (← c.p1_range-low.ensures.low, le-leb _ _ c.if-low-p1.true, ← c.p1_range-low.ensures.high)

pub returns-else-low-p1 : goal.returns-else-low-p1
unfolding p1_fits
returns-else-low-p1 c = rw (← c.p1_range-low.ensures.low, lt-leb _ _ c.if-low-p1.false)
