-- Both sides are empty and open, and all bytes are 0.
-- From what `new` of a store gives.
use mathlib.Core.Path.{refl}
use Rattle.session.proofs.step.Session.new.Goals as goal

pub returns : goal.returns
returns c = rw (c.new.ensures.side, c.new.ensures.bytes, c.new-2.ensures.side, c.new-2.ensures.bytes) refl
