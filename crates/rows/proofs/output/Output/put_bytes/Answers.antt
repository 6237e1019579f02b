-- `put_bytes` puts bytes over the buffer.
-- The library copies them over the part.
use mathlib.Core.Path.{refl, ap, ◌∙◌}
use lib.ListN.{length}
use Rattle.rows.proofs.Over.{over_length, part_over}
use Rattle.rows.proofs.output.Output.put_bytes.Goals as goal

pub returns : goal.returns
returns c = let is = part_over _ _ _ c.copy_bytes.ensures.after in record { lent = refl; long = ap length is ∙ over_length _ _ _ c.requires; at = refl; bytes = is }
