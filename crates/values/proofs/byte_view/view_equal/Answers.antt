-- The answer is whether the views have the same length and the same bytes.
-- The laws of Views: by the lengths, by the twelve bytes of a short view, or by their bytes.
use mathlib.Core.Path.{sym, ◌∙◌}
use Rattle.values.proofs.Slices.{lists_same}
use Rattle.values.proofs.Steps.{by_bytes}
use Rattle.values.proofs.Views.{lengths_differ, short_same}
use native.Mathlib.Omega.{arith}
use Rattle.values.proofs.byte_view.view_equal.Goals as goal

pub returns-then-len-length : goal.returns-then-len-length
returns-then-len-length c = lengths_differ _ _ _ _ _ _ c.length-len.ensures c.length.ensures c.if-len-length.true

pub number_same-requires : goal.number_same-requires
number_same-requires c = (omega arith, omega (arith, c.args.left.viewed.fits), omega (arith, c.args.right.viewed.fits))

pub returns-then-number_same : goal.returns-then-number_same
returns-then-number_same c = short_same _ _ _ _ _ _ c.length-len.ensures c.length.ensures c.args.left.viewed c.args.right.viewed c.if-len-length.false c.if-len-le-INLINE_LENGTH.true (sym (by_bytes _ _ _ _ _) ∙ sym c.number_same.ensures ∙ c.if-number_same.true)

pub returns : goal.returns
returns c = c.eq.ensures ∙ rw (c.bytes.ensures, c.bytes-2.ensures) (lists_same _ _)
