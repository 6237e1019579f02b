-- `fault_11` tests the parts of fault 11 in their order.
-- Each read stands for its field and each test of a part for the part; those before it failed.
use borrow.Author.Tests.{lt-ltb, le-ltb}
use Rattle.image.specs.Faults.{fault11}
use Rattle.validate.proofs.codes.fault_11.Goals as goal

pub returns-then-c-gt-RUN_END_ENCODED : goal.returns-then-c-gt-RUN_END_ENCODED
unfolding fault11
returns-then-c-gt-RUN_END_ENCODED c = rw (← c.code-c.ensures.value, lt-ltb _ _ c.if-c-gt-RUN_END_ENCODED.true)

pub returns-then-flags-gt-KNOWN_FLAGS : goal.returns-then-flags-gt-KNOWN_FLAGS
unfolding fault11
returns-then-flags-gt-KNOWN_FLAGS c = rw (← c.code-c.ensures.value, le-ltb _ _ c.if-c-gt-RUN_END_ENCODED.false, ← c.flags.ensures.value, lt-ltb _ _ c.if-flags-gt-KNOWN_FLAGS.true)

pub returns-then-not-p1_fits : goal.returns-then-not-p1_fits
unfolding fault11
returns-then-not-p1_fits c = rw (← c.code-c.ensures.value, le-ltb _ _ c.if-c-gt-RUN_END_ENCODED.false, ← c.flags.ensures.value, le-ltb _ _ c.if-flags-gt-KNOWN_FLAGS.false, ← c.p1.ensures.value, ← c.p1_fits.ensures, c.if-not-p1_fits.true)

pub returns-then-not-p2_fits : goal.returns-then-not-p2_fits
unfolding fault11
returns-then-not-p2_fits c = rw (← c.code-c.ensures.value, le-ltb _ _ c.if-c-gt-RUN_END_ENCODED.false, ← c.flags.ensures.value, le-ltb _ _ c.if-flags-gt-KNOWN_FLAGS.false, ← c.p1.ensures.value, ← c.p1_fits.ensures, c.if-not-p1_fits.false, ← c.p2.ensures.value, ← c.p2_fits.ensures, c.if-not-p2_fits.true)

pub returns-then-has_bitmap : goal.returns-then-has_bitmap
unfolding fault11
returns-then-has_bitmap c = rw (← c.code-c.ensures.value, le-ltb _ _ c.if-c-gt-RUN_END_ENCODED.false, ← c.flags.ensures.value, le-ltb _ _ c.if-flags-gt-KNOWN_FLAGS.false, ← c.p1.ensures.value, ← c.p1_fits.ensures, c.if-not-p1_fits.false, ← c.p2.ensures.value, ← c.p2_fits.ensures, c.if-not-p2_fits.false, ← c.has_bitmap.ensures, c.if-has_bitmap.true, ← c.takes_bitmap.ensures)

pub returns-else-has_bitmap : goal.returns-else-has_bitmap
unfolding fault11
returns-else-has_bitmap c = rw (← c.code-c.ensures.value, le-ltb _ _ c.if-c-gt-RUN_END_ENCODED.false, ← c.flags.ensures.value, le-ltb _ _ c.if-flags-gt-KNOWN_FLAGS.false, ← c.p1.ensures.value, ← c.p1_fits.ensures, c.if-not-p1_fits.false, ← c.p2.ensures.value, ← c.p2_fits.ensures, c.if-not-p2_fits.false, ← c.has_bitmap.ensures, c.if-has_bitmap.false)
