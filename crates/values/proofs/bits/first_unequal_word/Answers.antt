-- The first unequal pair of two runs of whole words of bits.
-- The invariant: the bits of the h words passed are the same; words differ first where their bits do.
use mathlib.Core.Path.{◌≡◌}
use Prim.Native.Nat.{◌+◌, ◌*◌}
use Rattle.values.proofs.Steps.{passed_none}
use Rattle.values.proofs.FirstUnequal.{unequal_end, unequal_most}
use Rattle.values.proofs.WordBits.{word_passed, word_found}
use native.Mathlib.Omega.{arith}
use Rattle.values.proofs.bits.first_unequal_word.Goals as goal

pub loop-h-init : goal.loop-h-init
loop-h-init g c = passed_none _ _ _ _

pub overflow_add-result : goal.overflow_add-result
overflow_add-result g c = omega (arith, unequal_most _ _ _ _ c.first_apart.ensures, c.loop-h-test.true, c.requires.near.0.few)

pub returns-then-u-v : goal.returns-then-u-v
returns-then-u-v g c = word_found _ _ _ _ _ _ _ _ c.loop-h.invariant (omega (arith, c.loop-h-test.true)) c.word_of-u.ensures c.word_of-v.ensures c.if-u-v.true c.first_apart.ensures

pub loop-h-preserved : goal.loop-h-preserved
loop-h-preserved g c = let next : 64 * (c.loop-h.h + 1) ≡ 64 * c.loop-h.h + 64 = omega arith in rw next (word_passed _ _ _ _ _ _ _ _ c.loop-h.invariant (omega (arith, c.loop-h-test.true)) c.word_of-u.ensures c.word_of-v.ensures c.if-u-v.false)

pub returns : goal.returns
returns g c = unequal_end _ _ _ _ _ c.loop-h.invariant (omega (arith, c.loop-h-test.false))
