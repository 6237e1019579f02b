-- `fault_14` tests the parts of fault 14 in their order.
-- Each read and each sum of the walk stands for its number, and each test of a part for the part; those before it failed.
use borrow.Author.Tests.{eq-eqb, ne_eqb, lt-ltb, le-ltb}
use Rattle.image.specs.Faults.{fault14}
use Rattle.validate.proofs.buffers.fault_14.Goals as goal

pub returns-then-not-allows : goal.returns-then-not-allows
unfolding fault14
returns-then-not-allows c = let allowed = rw (c.buffers.ensures, c.code.ensures.value, c.buffer_count.ensures.value) at c.allows.ensures in rw (← allowed, c.if-not-allows.true)

pub returns-then-first_buffer-walk : goal.returns-then-first_buffer-walk
unfolding fault14
returns-then-first_buffer-walk c = let allowed = rw (c.buffers.ensures, c.code.ensures.value, c.buffer_count.ensures.value) at c.allows.ensures in rw (← allowed, c.if-not-allows.false, ← c.first_buffer.ensures.value, ← c.args.walk.walks.buffers_before.value, ne_eqb _ _ c.if-first_buffer-walk.true)

pub returns-then-total_wrong : goal.returns-then-total_wrong
unfolding fault14
returns-then-total_wrong c = let allowed = rw (c.buffers.ensures, c.code.ensures.value, c.buffer_count.ensures.value) at c.allows.ensures in let total = rw c.buffer_total.ensures.value at c.total_wrong.ensures in rw (← allowed, c.if-not-allows.false, ← c.first_buffer.ensures.value, ← c.args.walk.walks.buffers_before.value, eq-eqb _ _ c.if-first_buffer-walk.false, ← c.args.walk.walks.buffers_in_all, ← total, c.if-total_wrong.true)

pub returns-then-any_outside : goal.returns-then-any_outside
unfolding fault14
returns-then-any_outside c = let allowed = rw (c.buffers.ensures, c.code.ensures.value, c.buffer_count.ensures.value) at c.allows.ensures in let total = rw c.buffer_total.ensures.value at c.total_wrong.ensures in rw (← allowed, c.if-not-allows.false, ← c.first_buffer.ensures.value, ← c.args.walk.walks.buffers_before.value, eq-eqb _ _ c.if-first_buffer-walk.false, ← c.args.walk.walks.buffers_in_all, ← total, c.if-total_wrong.false, ← c.any_outside.ensures, c.if-any_outside.true)

pub returns-then-bitmap_outside : goal.returns-then-bitmap_outside
unfolding fault14
returns-then-bitmap_outside c = let allowed = rw (c.buffers.ensures, c.code.ensures.value, c.buffer_count.ensures.value) at c.allows.ensures in let total = rw c.buffer_total.ensures.value at c.total_wrong.ensures in rw (← allowed, c.if-not-allows.false, ← c.first_buffer.ensures.value, ← c.args.walk.walks.buffers_before.value, eq-eqb _ _ c.if-first_buffer-walk.false, ← c.args.walk.walks.buffers_in_all, ← total, c.if-total_wrong.false, ← c.any_outside.ensures, c.if-any_outside.false, ← c.bitmap_outside.ensures, c.if-bitmap_outside.true)

pub returns-then-elements-gt-MOST_ELEMENTS : goal.returns-then-elements-gt-MOST_ELEMENTS
unfolding fault14
returns-then-elements-gt-MOST_ELEMENTS c = let allowed = rw (c.buffers.ensures, c.code.ensures.value, c.buffer_count.ensures.value) at c.allows.ensures in let total = rw c.buffer_total.ensures.value at c.total_wrong.ensures in rw (← allowed, c.if-not-allows.false, ← c.first_buffer.ensures.value, ← c.args.walk.walks.buffers_before.value, eq-eqb _ _ c.if-first_buffer-walk.false, ← c.args.walk.walks.buffers_in_all, ← total, c.if-total_wrong.false, ← c.any_outside.ensures, c.if-any_outside.false, ← c.bitmap_outside.ensures, c.if-bitmap_outside.false, ← c.elements.ensures.value, lt-ltb _ _ c.if-elements-gt-MOST_ELEMENTS.true)

pub returns : goal.returns
unfolding fault14
returns c = let allowed = rw (c.buffers.ensures, c.code.ensures.value, c.buffer_count.ensures.value) at c.allows.ensures in let total = rw c.buffer_total.ensures.value at c.total_wrong.ensures in rw (← allowed, c.if-not-allows.false, ← c.first_buffer.ensures.value, ← c.args.walk.walks.buffers_before.value, eq-eqb _ _ c.if-first_buffer-walk.false, ← c.args.walk.walks.buffers_in_all, ← total, c.if-total_wrong.false, ← c.any_outside.ensures, c.if-any_outside.false, ← c.bitmap_outside.ensures, c.if-bitmap_outside.false, ← c.elements.ensures.value, le-ltb _ _ c.if-elements-gt-MOST_ELEMENTS.false) c.any_not_whole.ensures
