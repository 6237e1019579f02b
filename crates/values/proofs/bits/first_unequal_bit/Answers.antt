-- The first unequal pair of two runs of bits: 64 at a time, then the rest.
-- Among the whole words, or behind them.
use mathlib.Core.Path.{◌∙◌}
use Rattle.values.proofs.FirstUnequal.{unequal_front, unequal_passed, unequal_rest, unequal_most, unequal_found, unequal_below}
use native.Mathlib.Omega.{arith}
use Rattle.values.proofs.bits.first_unequal_bit.Goals as goal

pub returns-then-r-whole : goal.returns-then-r-whole
returns-then-r-whole c = unequal_found _ _ _ _ (unequal_front _ _ _ _ _ (omega arith) c.first_unequal_whole-r.ensures c.if-r-whole.true) (omega (arith, c.if-r-whole.true))

pub overflow_add-k : goal.overflow_add-k
overflow_add-k c = omega (arith, unequal_most _ _ _ _ c.first_unequal_tail.ensures)

pub returns : goal.returns
returns c = c.below.ensures ∙ unequal_below _ _ _ _ (unequal_rest _ _ _ _ _ (unequal_passed _ _ _ _ _ (omega arith) c.first_unequal_whole-r.ensures c.if-r-whole.false) c.first_unequal_tail.ensures)
