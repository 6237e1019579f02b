-- The cases of written rows back to a table hold: each call has the answer and leaves the buffer that stand beside it.
-- One test over the table is computed, as of the other cases.
use mathlib.Core.Path.{◌≡◌, refl}
use mathlib.Core.Bool.{true}
use mathlib.Core.List.{Memᴰ}
use Rattle.image.specs.Ranges
use Rattle.image.specs.Bytes
use Rattle.image.specs.Record
use Rattle.image.specs.TypeCode
use Rattle.image.specs.Element
use Rattle.image.specs.Utf8
use Rattle.image.specs.Faults
use Rattle.image.specs.Types
use Rattle.image.specs.Row
use Rattle.image.specs.RowBytes
use Rattle.image.specs.Parse
use Rattle.image.specs.Built
use Rattle.answers.specs.Answers
use Rattle.cases.specs.Build
use Rattle.cases.specs.Calls
use Rattle.cases.specs.Calls.{Case, Holds}
use Rattle.cases.specs.Cases
use Rattle.cases.specs.ReadBack
use Rattle.cases.specs.ReadBack.{read_back}
use Rattle.cases.proofs.Table.{passes, each_holds}

all_pass : passes read_back ≡ true
unfolding passes
    Build.beside Build.all_beside Build.column Build.placed Build.record_bytes Build.records Build.buffer_entries
    Build.entries Build.buffers_of Build.image_of Build.image Build.parts Build.built_records Build.built_entries Build.built_of
    Build.built_image Build.field Build.nullable Build.stored
    Build.numbers Build.text_offsets Build.texts Build.lists Build.bits Build.masked
    Calls.told Calls.answer
    Cases.session Cases.session_left Cases.list_of Cases.runs_of Cases.dictionary_of Cases.map_with Cases.map_of Cases.map_at_root Cases.in_list
    Cases.bytes_of Cases.text_of Cases.view_of Cases.half Cases.half_and_key
    ReadBack.reads ReadBack.not_rows ReadBack.int8_of ReadBack.boolean_of ReadBack.null_of ReadBack.scaled_of ReadBack.wide_of
    ReadBack.simple_cases ReadBack.large_text_of ReadBack.binary_column ReadBack.text_rows ReadBack.list_column ReadBack.large_list_of
    ReadBack.struct_column ReadBack.deep_of ReadBack.no_children ReadBack.nested_rows ReadBack.other_strings ReadBack.refusals ReadBack.read_back
    Ranges.any Ranges.every Ranges.first Ranges.sum_to Ranges.rises Ranges.pieces
    Bytes.ascii Bytes.number_at Bytes.number_bytes Bytes.bit_at Bytes.bytes_at
    Record.record_place Record.entry_place Record.tables_end Record.has_bitmap Record.elements_of
    Record.child_start Record.buffer_start Record.buffer_place Record.buffer_length
    TypeCode.entries TypeCode.entry_of TypeCode.layout_of TypeCode.integer_width TypeCode.width_of TypeCode.p1_fits
    TypeCode.is_decimal TypeCode.p2_fits TypeCode.is_union TypeCode.key_signed TypeCode.sign_bit
    Element.valid Element.child_end Element.element_width Element.element_place Element.element_at Element.run_end_width Element.run_end_at
    Element.view_length Element.text_at
    Utf8.char Utf8.octets Utf8.well_formed
    Faults.fault10 Faults.fault11 Faults.level_end Faults.map_entries Faults.run_ends Faults.fault12 Faults.outside
    Faults.buffer_outside Faults.fault13 Faults.whole Faults.fault14 Faults.under Faults.fault15 Faults.rows_under
    Faults.child_under Faults.fault16 Faults.offsets_rise Faults.fault17 Faults.key_outside Faults.run_ends_rise
    Faults.last_end_below Faults.nonzero Faults.padding_nonzero Faults.view_fault Faults.view_row_fault Faults.key_row_fault
    Faults.fault18 Faults.text_row_fault Faults.fault19 Faults.fault Faults.first_faulty Faults.check_from Faults.check_image
    Types.same_bytes Types.name_of
    Row.rows_then RowBytes.count
    Parse.readable_code Parse.readable Parse.bytes_in Parse.number_in Parse.rows_of Parse.row_of_each Parse.row_in Parse.rows_in
    Built.from_each Built.nth Built.ends_past Built.parent_of Built.under_null Built.child_column Built.column_at Built.column
    Built.each_number Built.each_bytes Built.bits_number Built.pack_bits Built.offsets_from Built.bitmap_of Built.parts_of
    Built.node_part Built.part_at Built.name_start Built.part_length Built.part_start Built.record_of Built.buffer_entry
    Built.entries_of Built.built_image
    Answers.too_many_rows Answers.image_answer Answers.build_answer Answers.build_output
    mathlib.Core.List.flatten mathlib.Core.List.flat_map
all_pass = refl

-- all of them, together
pub read_back_holds : (c : Case) → Memᴰ c read_back → Holds c
read_back_holds = each_holds read_back all_pass
