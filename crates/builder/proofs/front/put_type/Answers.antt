-- `put_type` puts the first fields of a record.
-- Six numbers, one after the other.
use mathlib.Core.Path.{◌∙◌}
use Rattle.rows.proofs.Over.{number_at}
use mathlib.Core.Path.{refl, ◌∙◌}
use Rattle.rows.proofs.Over.{put_start}
use Rattle.builder.specs.Front.{type_fields}
use Rattle.builder.proofs.Fields.{fits_sized, number_put, number_last}
use Rattle.builder.proofs.Fronts.{type_length}
use native.Mathlib.Omega.{arith}
use Rattle.builder.proofs.front.put_type.Goals as goal

pub put_number-requires : goal.put_number-requires
put_number-requires c = omega (arith, fits_sized (type_length _ _) c.requires)

pub put_number-requires-2 : goal.put_number-requires-2
put_number-requires-2 c = omega (arith, fits_sized (type_length _ _) c.requires, number_at _ _ c.put_number.ensures)

pub put_number-requires-3 : goal.put_number-requires-3
put_number-requires-3 c = omega (arith, fits_sized (type_length _ _) c.requires, number_at _ _ c.put_number.ensures, number_at _ _ c.put_number-2.ensures)

pub put_number-requires-4 : goal.put_number-requires-4
put_number-requires-4 c = omega (arith, fits_sized (type_length _ _) c.requires, number_at _ _ c.put_number.ensures, number_at _ _ c.put_number-2.ensures, number_at _ _ c.put_number-3.ensures)

pub put_number-requires-5 : goal.put_number-requires-5
put_number-requires-5 c = omega (arith, fits_sized (type_length _ _) c.requires, number_at _ _ c.put_number.ensures, number_at _ _ c.put_number-2.ensures, number_at _ _ c.put_number-3.ensures, number_at _ _ c.put_number-4.ensures)

pub put_number-requires-6 : goal.put_number-requires-6
put_number-requires-6 c = omega (arith, fits_sized (type_length _ _) c.requires, number_at _ _ c.put_number.ensures, number_at _ _ c.put_number-2.ensures, number_at _ _ c.put_number-3.ensures, number_at _ _ c.put_number-4.ensures, number_at _ _ c.put_number-5.ensures)

pub returns : goal.returns
unfolding type_fields
returns c = let both = number_last _ _ _ c.p2.ensures.value (c.put_number-6.ensures.at, c.put_number-6.ensures.bytes) (number_put _ _ _ c.p1.ensures.value (c.put_number-5.ensures.at, c.put_number-5.ensures.bytes) (number_put _ _ _ c.name_length.ensures.value (c.put_number-4.ensures.at, c.put_number-4.ensures.bytes) (number_put _ _ _ refl (c.put_number-3.ensures.at, c.put_number-3.ensures.bytes) (number_put _ _ _ c.built_flags.ensures (c.put_number-2.ensures.at, c.put_number-2.ensures.bytes) (number_put _ _ _ (c.from.ensures ∙ c.code.ensures.value) (c.put_number.ensures.at, c.put_number.ensures.bytes) (put_start c.requires)))))) in record { lent = c.put_number-6.ensures.lent ∙ c.put_number-5.ensures.lent ∙ c.put_number-4.ensures.lent ∙ c.put_number-3.ensures.lent ∙ c.put_number-2.ensures.lent ∙ c.put_number.ensures.lent; long = c.put_number-6.ensures.long ∙ c.put_number-5.ensures.long ∙ c.put_number-4.ensures.long ∙ c.put_number-3.ensures.long ∙ c.put_number-2.ensures.long ∙ c.put_number.ensures.long; at = both.0; bytes = both.1 }
