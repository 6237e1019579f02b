-- `to_nearest` divides a size to the nearest.
-- The tests on the way are those of the definition.
use borrow.Author.Tests.{lt-ltb, le-ltb}
use Rattle.image.specs.Digits.{nearest}
use Rattle.digits.proofs.round.Power.to_nearest.Goals as goal

pub returns-then-twice-self : goal.returns-then-twice-self
unfolding nearest
returns-then-twice-self c = rw (lt-ltb _ _ c.if-twice-self.true)

pub returns-then-self-twice : goal.returns-then-self-twice
unfolding nearest
returns-then-self-twice c = rw (le-ltb _ _ c.if-twice-self.false, lt-ltb _ _ c.if-self-twice.true)

pub returns : goal.returns
unfolding nearest
returns c = rw (le-ltb _ _ c.if-twice-self.false, le-ltb _ _ c.if-self-twice.false) c.from_midway.ensures
