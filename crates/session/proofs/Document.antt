-- Document 01's session: its whole input is answered by the whole output that it gives.
-- Both sides are computed.
use mathlib.Core.Path.{◌≡◌, refl}
use mathlib.Core.List
use Rattle.image.specs.Ranges
use Rattle.image.specs.Bytes
use Rattle.image.specs.Bytes.{ascii}
use Rattle.image.specs.Record
use Rattle.image.specs.TypeCode
use Rattle.image.specs.Element
use Rattle.image.specs.Faults
use Rattle.image.specs.Types
use Rattle.image.specs.Row
use Rattle.image.specs.Equality
use Rattle.image.specs.RowBytes
use Rattle.answers.specs.Answers
use Rattle.session.specs.Lines
use Rattle.session.specs.Frames
use Rattle.session.specs.Replies
use Rattle.session.specs.Steps
use Rattle.session.specs.Sessions
use Rattle.session.specs.Input
use Rattle.session.specs.Input.{printed}

pub document_session :
    printed
    (ascii
    "01 01000100 02020000 00000000 00000000 03000000 00000000 00000000 3b000000 01000000 00000000 01000000 00000100 38000000 03000000 05000705\n02 01000100 02020000 00000000 00000000 03000000 00000000 00000000 3b000000 01000000 00000000 01000000 00000100 38000000 03000000 05090705\n03 00\n03 01\n04\n06 00 00000000 03000000\n")
    ≡ ascii "00\n00\n00\n00\n0001\n000105000107\n"
unfolding Bytes.ascii Sessions.replies Input.in_front Input.lines_of Input.printed_from List.flatten
    Lines.digit_of Lines.preceded Lines.scan Lines.not_too_long Lines.bytes_of
    Frames.side_in Frames.of_length Frames.piece_frame Frames.close_frame Frames.compare_frame Frames.write_frame Frames.by_kind Frames.frame_of
    Replies.digit_text Replies.hex_text Replies.line_text Replies.reply_line
    Steps.image_of Steps.past_store Steps.piece_side Steps.piece_store Steps.close_side Steps.both_closed Steps.compares_reply
    Steps.write_reply Steps.write_out Steps.piece_stepped Steps.close_stepped Steps.write_stepped Steps.written_out Steps.after_frame Steps.after_line
    Ranges.any Ranges.every Ranges.first Ranges.sum_to Ranges.rises
    Bytes.number_at Bytes.number_bytes Bytes.bit_at Bytes.bytes_at
    Record.record_place Record.entry_place Record.tables_end Record.nullable Record.has_bitmap Record.elements_of
    Record.child_start Record.buffer_start Record.buffer_place Record.buffer_length
    TypeCode.entries TypeCode.entry_of TypeCode.layout_of TypeCode.integer_width TypeCode.width_of TypeCode.p1_fits
    TypeCode.is_decimal TypeCode.p2_fits TypeCode.is_union TypeCode.key_signed TypeCode.sign_bit
    Element.valid Element.element_width Element.element_place Element.element_at Element.run_end_width Element.run_end_at
    Element.ends_above Element.run_at
    Faults.fault10 Faults.fault11 Faults.level_end Faults.map_entries Faults.run_ends Faults.fault12 Faults.outside
    Faults.buffer_outside Faults.fault13 Faults.whole Faults.fault14 Faults.under Faults.fault15 Faults.rows_under
    Faults.child_under Faults.fault16 Faults.offsets_rise Faults.fault17 Faults.key_outside Faults.run_ends_rise
    Faults.last_end_below Faults.key_row_fault Faults.fault18 Faults.fault19 Faults.fault Faults.first_faulty Faults.check_from
    Faults.check_image
    Types.same_bytes Types.name_of Types.unlabelled Types.counted_for Types.labels_agree Types.heads_agree Types.types_agree_at
    Types.types_agree
    Row.range Row.fixed_row Row.variable_row Row.list_row Row.struct_row Row.dictionary_row Row.run_row Row.row_at
    Row.table_rows
    Equality.ranges_equal Equality.tables_equal Equality.rows_equal
    RowBytes.count RowBytes.row_bytes RowBytes.range_bytes
    Answers.compare_answer Answers.exceeds Answers.write_range Answers.write_answer Answers.write_output
document_session = refl
