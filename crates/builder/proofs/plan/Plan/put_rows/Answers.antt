-- `put_rows` puts the middle fields of a record.
-- Six numbers, one after the other.
use mathlib.Core.Path.{◌∙◌}
use Rattle.rows.proofs.Over.{number_at}
use mathlib.Core.Path.{refl}
use Rattle.rows.proofs.Over.{put_start}
use Rattle.builder.specs.Front.{row_fields}
use Rattle.builder.proofs.Fields.{fits_sized, number_put, number_last}
use Rattle.builder.proofs.Fronts.{row_length}
use native.Mathlib.Omega.{arith}
use Rattle.builder.proofs.plan.Plan.put_rows.Goals as goal

pub put_number-requires : goal.put_number-requires
put_number-requires c = omega (arith, fits_sized (row_length _ _ _ _) c.requires.fits)

pub put_number-requires-2 : goal.put_number-requires-2
put_number-requires-2 c = omega (arith, fits_sized (row_length _ _ _ _) c.requires.fits, number_at _ _ c.put_number.ensures)

pub put_number-requires-3 : goal.put_number-requires-3
put_number-requires-3 c = omega (arith, fits_sized (row_length _ _ _ _) c.requires.fits, number_at _ _ c.put_number.ensures, number_at _ _ c.put_number-2.ensures)

pub put_number-requires-4 : goal.put_number-requires-4
put_number-requires-4 c = omega (arith, fits_sized (row_length _ _ _ _) c.requires.fits, number_at _ _ c.put_number.ensures, number_at _ _ c.put_number-2.ensures, number_at _ _ c.put_number-3.ensures)

pub put_number-requires-5 : goal.put_number-requires-5
put_number-requires-5 c = omega (arith, fits_sized (row_length _ _ _ _) c.requires.fits, number_at _ _ c.put_number.ensures, number_at _ _ c.put_number-2.ensures, number_at _ _ c.put_number-3.ensures, number_at _ _ c.put_number-4.ensures)

pub put_number-requires-6 : goal.put_number-requires-6
put_number-requires-6 c = omega (arith, fits_sized (row_length _ _ _ _) c.requires.fits, number_at _ _ c.put_number.ensures, number_at _ _ c.put_number-2.ensures, number_at _ _ c.put_number-3.ensures, number_at _ _ c.put_number-4.ensures, number_at _ _ c.put_number-5.ensures)

pub returns : goal.returns
unfolding row_fields
returns c =
    let name = rw (c.node-node.ensures.image, c.node-node.ensures.number) at c.built_name.ensures in
    let bitmap = rw (c.node-node.ensures.image, c.node-node.ensures.number) at c.bitmap_from.ensures in
    let both = number_last _ _ _ refl (c.put_number-6.ensures.at, c.put_number-6.ensures.bytes) (number_put _ _ _ c.length_from.ensures (c.put_number-5.ensures.at, c.put_number-5.ensures.bytes) (number_put _ _ _ bitmap (c.put_number-4.ensures.at, c.put_number-4.ensures.bytes) (number_put _ _ _ name (c.put_number-3.ensures.at, c.put_number-3.ensures.bytes) (number_put _ _ _ refl (c.put_number-2.ensures.at, c.put_number-2.ensures.bytes) (number_put _ _ _ refl (c.put_number.ensures.at, c.put_number.ensures.bytes) (put_start c.requires.fits)))))) in record { lent = c.put_number-6.ensures.lent ∙ c.put_number-5.ensures.lent ∙ c.put_number-4.ensures.lent ∙ c.put_number-3.ensures.lent ∙ c.put_number-2.ensures.lent ∙ c.put_number.ensures.lent; long = c.put_number-6.ensures.long ∙ c.put_number-5.ensures.long ∙ c.put_number-4.ensures.long ∙ c.put_number-3.ensures.long ∙ c.put_number-2.ensures.long ∙ c.put_number.ensures.long; at = both.0; bytes = both.1 }
