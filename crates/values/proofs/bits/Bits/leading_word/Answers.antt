-- `Bits::leading_word` counts the set bits of a word that is read.
-- The bits of the word are those of the slice.
use Rattle.values.proofs.WordBits.{leading_read}
use Rattle.values.proofs.bits.Bits.leading_word.Goals as goal

pub returns : goal.returns
returns c = leading_read _ _ _ c.word.ensures c.word.type_inv c.trailing_ones.ensures
