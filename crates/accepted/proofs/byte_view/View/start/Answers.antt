-- `View::start` gives where the view's bytes stand, and they lie inside.
-- A short view holds them itself; of a long one acceptance says that its buffer's entry lies inside, and that the buffer holds them.
use Rattle.accepted.proofs.Views.{shown_short, entry_inside, entry_small, shown_long}
use native.Mathlib.Omega.{arith}
use Rattle.accepted.proofs.byte_view.View.start.Goals as goal

pub returns-then-length-le-INLINE_LENGTH : goal.returns-then-length-le-INLINE_LENGTH
returns-then-length-le-INLINE_LENGTH c = shown_short c.args.self.viewed (omega (arith, c.length.ensures.value, c.if-length-le-INLINE_LENGTH.true))

pub overflow_add-entry : goal.overflow_add-entry
overflow_add-entry c = omega (arith, entry_small c.args.self.viewed (omega (arith, c.length.ensures.value, c.if-length-le-INLINE_LENGTH.false)) c.buffer.ensures.number)

pub load-requires : goal.load-requires
load-requires c = (omega arith, entry_inside c.args.self.viewed (omega (arith, c.length.ensures.value, c.if-length-le-INLINE_LENGTH.false)) c.buffer.ensures.number)

pub returns : goal.returns
returns c = shown_long c.args.self.viewed (omega (arith, c.length.ensures.value, c.if-length-le-INLINE_LENGTH.false)) c.buffer.ensures.number c.load.ensures.value c.load-2.ensures.value
