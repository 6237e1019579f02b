-- `room_after` takes bytes off the room so many times, where they fit.
-- Where the product fits no number it is past every room.
use mathlib.Core.Path.{◌∙◌, ap}
use native.Mathlib.Omega.{arith}
use Rattle.rows.proofs.Rooms.{past_short, room_checked}
use Rattle.rows.specs.Output.{room_after}
use Rattle.rows.proofs.measure.room_after.Goals as goal

pub returns-in_err-checked_mul : goal.returns-in_err-checked_mul
returns-in_err-checked_mul c = c.from_residual.ensures ∙ past_short _ _ (omega (arith, c.in_err-checked_mul.ensures, c.ranges.room.fits))

pub returns : goal.returns
returns c = room_checked _ _ _ c.checked_sub.ensures ∙ ap (room_after c.args.room) c.in_ok-checked_mul.ensures.1
