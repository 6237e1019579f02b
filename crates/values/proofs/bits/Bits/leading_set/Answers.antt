-- How many of n bits are set up to the first that is not: 64 at a time.
-- The invariant: the bits passed are set.
use Rattle.values.proofs.Leads.{every_none}
use Rattle.values.proofs.WordBits.{word_stops, word_next, word_last}
use mathlib.Core.Path.{◌≡◌, refl}
use Prim.Native.Nat.{◌/◌}
use native.Mathlib.Omega.{arith}
use Rattle.values.proofs.bits.Bits.leading_set.Goals as goal

pub loop-h-init : goal.loop-h-init
loop-h-init c = every_none _ _

pub returns-then-r-lt-WORD : goal.returns-then-r-lt-WORD
returns-then-r-lt-WORD c = word_stops _ _ _ _ c.loop-h.invariant c.leading_word-r.ensures c.if-r-lt-WORD.true (omega (arith, c.if-r-lt-WORD.true, c.loop-h-test.true))

pub loop-h-preserved : goal.loop-h-preserved
loop-h-preserved c = word_next _ _ c.args.n _ c.loop-h.invariant c.leading_word-r.ensures _ refl c.if-r-lt-WORD.false

pub returns : goal.returns
returns c =
    let all_words : c.loop-h.h ≡ c.args.n / 64 = omega (arith, c.loop-h-test.false, c.loop-h.auto.h-end) in
    let last = rw all_words at c.loop-h.invariant in
    rw c.min.ensures (word_last _ _ c.args.n _ last c.leading_word.ensures (omega arith) (omega arith))
