-- `view_fault` tells whether the view at a place breaks a rule.
-- Each test of the results is the definition's; a buffer's entry stands 8 bytes after the one before it.
use borrow.Author.Tests.{le-leb, lt-leb, lt-ltb, le-ltb}
use Rattle.image.specs.Element.{view_length, view_buffer, view_offset, view_data}
use Rattle.image.specs.Faults.{view_fault, long_view_fault}
use mathlib.Core.Path.{◌∙◌}
use Rattle.validate.proofs.Padding.{padded}
use Rattle.validate.proofs.ViewRows.{place_at, length_at, data_inside}
use native.Mathlib.Omega.{arith}
use Rattle.validate.proofs.rows.view_fault.Goals as goal

pub returns-then-len-le-INLINE_LENGTH : goal.returns-then-len-le-INLINE_LENGTH
unfolding view_fault view_length
returns-then-len-le-INLINE_LENGTH c = rw (← c.load-len.ensures.value, le-leb _ _ c.if-len-le-INLINE_LENGTH.true) (c.any_nonzero.ensures ∙ padded _ _ _ c.load-len.ensures.value c.if-len-le-INLINE_LENGTH.true c.requires.fits)

pub returns-then-count-buffer : goal.returns-then-count-buffer
unfolding view_fault view_length long_view_fault view_buffer
returns-then-count-buffer c = rw (← c.load-len.ensures.value, lt-leb _ _ c.if-len-le-INLINE_LENGTH.false, ← c.requires.known.number.value, ← c.load-buffer.ensures.value, le-leb _ _ c.if-count-buffer.true)

pub returns-then-load-at : goal.returns-then-load-at
unfolding view_fault view_length long_view_fault view_buffer view_offset view_data
returns-then-load-at c = rw (← c.load-len.ensures.value, lt-leb _ _ c.if-len-le-INLINE_LENGTH.false, ← c.requires.known.number.value, ← c.load-buffer.ensures.value, lt-leb _ _ c.if-count-buffer.false, length_at c.requires.known _, ← c.load.ensures.value, ← c.load-at.ensures.value, lt-ltb _ _ c.if-load-at.true)

pub load-requires-4 : goal.load-requires-4
load-requires-4 c = (omega arith, data_inside c.requires.known _ _ _ c.if-count-buffer.false c.if-len-le-INLINE_LENGTH.false c.load-3.ensures.value c.load.ensures.value c.if-load-at.false)

pub returns : goal.returns
unfolding view_fault view_length long_view_fault view_buffer view_offset view_data
returns c = rw (← c.load-len.ensures.value, lt-leb _ _ c.if-len-le-INLINE_LENGTH.false, ← c.requires.known.number.value, ← c.load-buffer.ensures.value, lt-leb _ _ c.if-count-buffer.false, length_at c.requires.known _, ← c.load.ensures.value, ← c.load-at.ensures.value, le-ltb _ _ c.if-load-at.false, place_at c.requires.known _, ← c.load-3.ensures.value, ← c.load-2.ensures.value, ← c.load-4.ensures.value)
