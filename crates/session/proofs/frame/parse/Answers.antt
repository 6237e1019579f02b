-- What the bytes of a line ask for: what the frame asks for that they are, and 1 where there are none.
-- By whether there are any.
use mathlib.Core.Path.{refl}
use Rattle.session.specs.Frames.{frame_of}
use Rattle.session.proofs.frame.parse.Goals.{in_default-via-in-Some+else-not-is_empty, in_default-via-in_default}
use Rattle.session.proofs.frame.parse.Goals as goal

pub returns-in-Some : goal.returns-in-Some
unfolding frame_of
returns-in-Some c = rw (c.in-Some.is, ← c.is_empty.ensures, c.if-not-is_empty.true) c.by_kind.ensures

pub returns-in_default : goal.returns-in_default
unfolding frame_of
returns-in_default c =
    elim c.in_default.branch [
      | in_default-via-in-Some+else-not-is_empty w ↦ rw (w.in-Some.is, ← w.is_empty.ensures, w.if-not-is_empty.false) refl
      | in_default-via-in_default w ↦ rw w.in_default.is refl
    ]
