-- `put_tables` puts the last fields of a record.
-- Four numbers, one after the other.
use mathlib.Core.Path.{◌∙◌}
use Rattle.rows.proofs.Over.{number_at}
use Rattle.rows.proofs.Over.{put_start}
use Rattle.builder.specs.Front.{table_fields}
use Rattle.builder.proofs.Fields.{fits_sized, number_put, number_last}
use Rattle.builder.proofs.Fronts.{table_length}
use native.Mathlib.Omega.{arith}
use Rattle.builder.proofs.front.put_tables.Goals as goal

pub put_number-requires : goal.put_number-requires
put_number-requires c = omega (arith, fits_sized (table_length _ _) c.requires)

pub put_number-requires-2 : goal.put_number-requires-2
put_number-requires-2 c = omega (arith, fits_sized (table_length _ _) c.requires, number_at _ _ c.put_number.ensures)

pub put_number-requires-3 : goal.put_number-requires-3
put_number-requires-3 c = omega (arith, fits_sized (table_length _ _) c.requires, number_at _ _ c.put_number.ensures, number_at _ _ c.put_number-2.ensures)

pub put_number-requires-4 : goal.put_number-requires-4
put_number-requires-4 c = omega (arith, fits_sized (table_length _ _) c.requires, number_at _ _ c.put_number.ensures, number_at _ _ c.put_number-2.ensures, number_at _ _ c.put_number-3.ensures)

pub returns : goal.returns
unfolding table_fields
returns c = let both = number_last _ _ _ c.buffer_count.ensures.value (c.put_number-4.ensures.at, c.put_number-4.ensures.bytes) (number_put _ _ _ c.first_buffer.ensures.value (c.put_number-3.ensures.at, c.put_number-3.ensures.bytes) (number_put _ _ _ c.child_count.ensures.value (c.put_number-2.ensures.at, c.put_number-2.ensures.bytes) (number_put _ _ _ c.first_child.ensures.value (c.put_number.ensures.at, c.put_number.ensures.bytes) (put_start c.requires)))) in record { lent = c.put_number-4.ensures.lent ∙ c.put_number-3.ensures.lent ∙ c.put_number-2.ensures.lent ∙ c.put_number.ensures.lent; long = c.put_number-4.ensures.long ∙ c.put_number-3.ensures.long ∙ c.put_number-2.ensures.long ∙ c.put_number.ensures.long; at = both.0; bytes = both.1 }
