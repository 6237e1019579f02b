-- `Node::is_kept` answers whether row i is not null.
-- Without a mask there is no bitmap; with one it says where the bit stands.
use mathlib.Core.Path.{◌∙◌}
use Rattle.image.specs.Element.{valid}
use Rattle.image.proofs.record.Node.is_kept.Goals as goal

pub returns-in-None : goal.returns-in-None
unfolding valid
returns-in-None c =
    let none = rw c.in-None.is at c.requires.0 in
    rw none

pub returns-in-Some : goal.returns-in-Some
unfolding valid
returns-in-Some c =
    let some = rw c.in-Some.is at c.requires.0 in
    c.bit.ensures ∙ rw (some.is_there, ← some.start, ← some.row.value)
