-- `fault_13` tests the name's length, and of a name that has one its place.
-- The results of the reads stand for the fields.
use borrow.Author.Tests.{lt-ltb, le-ltb, eq-eqb, ne_eqb}
use Rattle.image.specs.Faults.{fault13}
use Rattle.validate.proofs.names.fault_13.Goals as goal

pub returns-then-len-gt-LONGEST_NAME : goal.returns-then-len-gt-LONGEST_NAME
unfolding fault13
returns-then-len-gt-LONGEST_NAME c = rw (← c.name_length-len.ensures.value, lt-ltb _ _ c.if-len-gt-LONGEST_NAME.true)

pub returns-then-len-ne0 : goal.returns-then-len-ne0
unfolding fault13
returns-then-len-ne0 c = rw (← c.name_length-len.ensures.value, le-ltb _ _ c.if-len-gt-LONGEST_NAME.false, ne_eqb _ _ c.if-len-ne0.true, ← c.name_place.ensures.value) c.is_outside.ensures

pub returns-else-len-ne0 : goal.returns-else-len-ne0
unfolding fault13
returns-else-len-ne0 c = rw (← c.name_length-len.ensures.value, le-ltb _ _ c.if-len-gt-LONGEST_NAME.false, eq-eqb _ _ c.if-len-ne0.false)
