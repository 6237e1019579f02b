-- The first unequal pair of fewer than 64.
-- Two words that are cut off after n bits differ first where their first n pairs of bits do.
use Rattle.values.proofs.FirstUnequal.{unequal_none}
use Rattle.values.proofs.Words.{words_same}
use Rattle.values.proofs.WordBits.{word_front, apart_bits}
use Rattle.values.proofs.bits.first_unequal_tail.Goals as goal

pub returns-then-u-v : goal.returns-then-u-v
returns-then-u-v c = unequal_none _ _ _ _ (words_same _ _ _ _ _ _ _ (word_front _ _ _ _ c.requires.0 c.word.ensures) (word_front _ _ _ _ c.requires.0 c.word-2.ensures) c.if-u-v.true)

pub returns : goal.returns
returns c = apart_bits _ _ _ _ _ _ _ (word_front _ _ _ _ c.requires.0 c.word.ensures) (word_front _ _ _ _ c.requires.0 c.word-2.ensures) c.first_apart.ensures
