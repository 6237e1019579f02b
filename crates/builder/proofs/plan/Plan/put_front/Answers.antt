-- `put_front` puts header, records, entries and names.
-- One after the other, from place 0 on. The buffer that they are put into is the one that is lent.
use mathlib.Core.Path.{sym, ◌∙◌}
use Rattle.rows.proofs.Over.{number_at}
use Rattle.builder.proofs.Fronts.{header_fits, records_fit, entries_fit, names_fit, front_put}
use native.Mathlib.Omega.{arith}
use Rattle.builder.proofs.plan.Plan.put_front.Goals as goal

pub put_number-requires : goal.put_number-requires
put_number-requires c = omega (arith, header_fits _ _ _ c.requires)

pub put_number-requires-2 : goal.put_number-requires-2
put_number-requires-2 c = omega (arith, header_fits _ _ _ c.requires, number_at _ _ c.put_number.ensures)

pub put_records-requires : goal.put_records-requires
put_records-requires c = records_fit _ _ _ c.requires c.node_count.ensures.value (c.put_number.ensures.at, c.put_number.ensures.bytes) c.buffer_total.ensures.value (c.put_number-2.ensures.at, c.put_number-2.ensures.bytes)

pub put_all_entries-requires : goal.put_all_entries-requires
put_all_entries-requires c = entries_fit _ _ _ c.requires c.node_count.ensures.value (c.put_number.ensures.at, c.put_number.ensures.bytes) c.buffer_total.ensures.value (c.put_number-2.ensures.at, c.put_number-2.ensures.bytes) (c.put_records.ensures.at, c.put_records.ensures.bytes)

pub put_names-requires : goal.put_names-requires
put_names-requires c = names_fit _ _ _ c.requires c.node_count.ensures.value (c.put_number.ensures.at, c.put_number.ensures.bytes) c.buffer_total.ensures.value (c.put_number-2.ensures.at, c.put_number-2.ensures.bytes) (c.put_records.ensures.at, c.put_records.ensures.bytes) (c.put_all_entries.ensures.at, c.put_all_entries.ensures.bytes)

pub returns : goal.returns
returns c =
    let both = front_put _ _ _ c.requires c.node_count.ensures.value (c.put_number.ensures.at, c.put_number.ensures.bytes) c.buffer_total.ensures.value (c.put_number-2.ensures.at, c.put_number-2.ensures.bytes) (c.put_records.ensures.at, c.put_records.ensures.bytes) (c.put_all_entries.ensures.at, c.put_all_entries.ensures.bytes) (c.put_names.ensures.at, c.put_names.ensures.bytes) in
    record { value = both.0; out_after = c.out-1.given.1.1 (sym (c.put_names.ensures.lent ∙ c.put_all_entries.ensures.lent ∙ c.put_records.ensures.lent ∙ c.put_number-2.ensures.lent ∙ c.put_number.ensures.lent)) ∙ both.1 }
