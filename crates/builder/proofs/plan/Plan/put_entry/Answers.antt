-- `put_entry` puts the entry of a buffer.
-- Two numbers, one after the other.
use mathlib.Core.Path.{◌∙◌}
use Rattle.rows.proofs.Over.{number_at}
use mathlib.Core.Path.{refl}
use Rattle.rows.proofs.Over.{put_start}
use Rattle.builder.specs.Front.{entry_from}
use Rattle.builder.proofs.Fields.{fits_sized, number_put, number_last}
use Rattle.builder.proofs.Fronts.{entry_length}
use native.Mathlib.Omega.{arith}
use Rattle.builder.proofs.plan.Plan.put_entry.Goals as goal

pub put_number-requires : goal.put_number-requires
put_number-requires c = omega (arith, fits_sized (entry_length _ _) c.requires.fits)

pub put_number-requires-2 : goal.put_number-requires-2
put_number-requires-2 c = omega (arith, fits_sized (entry_length _ _) c.requires.fits, number_at _ _ c.put_number.ensures)

pub returns : goal.returns
unfolding entry_from
returns c = let both = number_last _ _ _ c.length_from.ensures (c.put_number-2.ensures.at, c.put_number-2.ensures.bytes) (number_put _ _ _ refl (c.put_number.ensures.at, c.put_number.ensures.bytes) (put_start c.requires.fits)) in record { lent = c.put_number-2.ensures.lent ∙ c.put_number.ensures.lent; long = c.put_number-2.ensures.long ∙ c.put_number.ensures.long; at = both.0; bytes = both.1 }
