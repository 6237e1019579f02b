-- `letter_split` tells whether a row's text starts with a tail.
-- The loop keeps what is left of the test.
use Rattle.image.specs.Ranges.{any}
use Rattle.image.proofs.Loops.{Rest}
use Rattle.validate.specs.Texts.{splits}
use Rattle.validate.proofs.texts.Texts.letter_split.Given as goal

abbrev pub invariant-loop-i : goal.invariant-loop-i
invariant-loop-i l = Rest (any (splits l.self.node.image.now l.self.node.number l.end)) 0 l.i-end l.i
