-- Cases P1 to P10 and those of the first unequal row, of text, of fewer digits and of Map names hold: each call of the table has the answer that stands beside it.
-- One test over the whole table is computed; the test of two lists is their equality, which gives each case.
use mathlib.Core.Path.{◌≡◌, refl, sym, subst}
use mathlib.Core.Bool.{Bool, true, ◌&&◌, false≢true}
use mathlib.Core.List.{List, [], ◌∷◌, Memᴰ}
use Prim.Native.Nat.{ℕ}
use lib.Dec.{eqb}
use borrow.Author.Tests.{eqb-true}
use Rattle.image.proofs.Bools.{and_left, and_right}
use Rattle.image.specs.Ranges
use Rattle.image.specs.Bytes
use Rattle.image.specs.Record
use Rattle.image.specs.TypeCode
use Rattle.image.specs.Element
use Rattle.image.specs.Utf8
use Rattle.image.specs.Faults
use Rattle.image.specs.Types
use Rattle.image.specs.MapNames
use Rattle.image.specs.Row
use Rattle.image.specs.Equality
use Rattle.image.specs.RowBytes
use Rattle.image.specs.Digits
use Rattle.answers.specs.Answers
use Rattle.image.specs.Types.{same_bytes}
use Rattle.cases.specs.Build
use Rattle.cases.specs.Calls
use Rattle.cases.specs.Calls.{answer, Case, Holds}
use Rattle.cases.specs.Cases
use Rattle.cases.specs.Cases.{cases}

-- the test of two lists is their equality
pub same_equal : (xs ys : List ℕ) → same_bytes xs ys ≡ true → xs ≡ ys
unfolding same_bytes
same_equal [] [] e = refl
same_equal [] (y ∷ ys) e = absurd (false≢true e)
same_equal (x ∷ xs) [] e = absurd (false≢true e)
same_equal (x ∷ xs) (y ∷ ys) e =
    let first = eqb-true x y (and_left (eqb x y) (same_bytes xs ys) e) in
    let rest = same_equal xs ys (and_right (eqb x y) (same_bytes xs ys) e) in
    cc

-- each case passes the test of its answer against the expected one
unfoldable pub passes : List Case → Bool
passes [] = true
passes (c ∷ cs) = same_bytes (answer c.call) c.expected && passes cs

-- what passes, holds
pub each_holds : (cs : List Case) → passes cs ≡ true → (c : Case) → Memᴰ c cs → Holds c
unfolding passes
each_holds [] e c m = elim m [ ]
each_holds (x ∷ xs) e c (Memᴰ.head h) =
    subst Holds (sym h) (same_equal (answer x.call) x.expected (and_left _ (passes xs) e))
each_holds (x ∷ xs) e c (Memᴰ.tail m) =
    each_holds xs (and_right (same_bytes (answer x.call) x.expected) (passes xs) e) c m

-- The test over the table. The line names all that it computes with.
pub all_pass : passes cases ≡ true
unfolding passes
    Build.beside Build.all_beside Build.column Build.placed Build.record_bytes Build.records Build.buffer_entries
    Build.entries Build.buffers_of Build.image_of Build.image Build.field Build.nullable Build.stored
    Build.numbers Build.text_offsets Build.texts Build.lists Build.bits Build.masked
    Calls.told Calls.answer
    Cases.session Cases.session_left Cases.session_right Cases.list_of Cases.runs_of Cases.dictionary_of Cases.float_of
    Cases.map_with Cases.map_of Cases.in_list Cases.in_dictionary Cases.in_map Cases.map_at_root Cases.map_in_list Cases.binary_of Cases.under Cases.depth_of Cases.p1 Cases.p2 Cases.p3
    Cases.p4 Cases.p5 Cases.p6 Cases.p7 Cases.p8 Cases.p9 Cases.p10 Cases.runs_left Cases.runs_right Cases.differences
    Cases.bytes_of Cases.text_of Cases.view_of Cases.unused_half Cases.half_and_key Cases.letter Cases.half Cases.text_cases
    Cases.decimal32_of Cases.decimal64_of Cases.frequencies Cases.other_frequencies Cases.struct_of_decimal Cases.digit_cases
    Cases.other_labels Cases.other_name Cases.other_flag Cases.other_key_flag Cases.other_value_flag Cases.struct_of Cases.label_cases
    Cases.named Cases.name_cases Cases.cases
    Ranges.any Ranges.every Ranges.first Ranges.sum_to Ranges.rises
    Bytes.ascii Bytes.number_at Bytes.number_bytes Bytes.bit_at Bytes.bytes_at
    Record.record_place Record.entry_place Record.tables_end Record.nullable Record.has_bitmap Record.elements_of
    Record.child_start Record.buffer_start Record.buffer_place Record.buffer_length
    TypeCode.entries TypeCode.entry_of TypeCode.layout_of TypeCode.integer_width TypeCode.width_of TypeCode.p1_fits
    TypeCode.is_decimal TypeCode.p2_fits TypeCode.is_union TypeCode.key_signed TypeCode.sign_bit
    Element.valid Element.element_width Element.element_place Element.element_at Element.run_end_width Element.run_end_at
    Element.view_length Element.view_data Element.text_at Element.ends_above Element.run_at
    Utf8.char Utf8.octets Utf8.well_formed
    Faults.fault10 Faults.fault11 Faults.level_end Faults.map_entries Faults.run_ends Faults.fault12 Faults.outside
    Faults.buffer_outside Faults.fault13 Faults.whole Faults.fault14 Faults.under Faults.fault15 Faults.rows_under
    Faults.child_under Faults.fault16 Faults.offsets_rise Faults.fault17 Faults.key_outside Faults.run_ends_rise
    Faults.last_end_below Faults.nonzero Faults.padding_nonzero Faults.view_fault Faults.view_row_fault Faults.key_row_fault Faults.fault18 Faults.text_row_fault Faults.fault19 Faults.fault Faults.first_faulty Faults.check_from
    Faults.check_image
    Types.same_bytes Types.name_of Types.unlabelled Types.counted_for Types.labels_agree Types.heads_agree Types.types_agree_at Types.types_agree
    MapNames.named MapNames.map_named MapNames.maps_named
    Row.range Row.fixed_row Row.variable_row Row.list_row Row.struct_row Row.dictionary_row Row.run_row Row.row_at
    Row.table_rows
    Equality.ranges_equal Equality.tables_equal Equality.rows_equal Equality.rows_differ Equality.first_difference
    RowBytes.range_bytes RowBytes.rows_bytes
    Digits.midway Digits.nearest Digits.divided Digits.whole_number Digits.stored_at Digits.kept_at Digits.same_whole
    Digits.kept_agree Digits.digits_equal Digits.not_digits
    Answers.compare_answer Answers.exceeds Answers.paired_of Answers.bounds_of Answers.compare_range_answer
    Answers.difference_answer Answers.digits_answer Answers.map_names_answer Answers.write_range Answers.write_answer Answers.write_output
    mathlib.Core.List.flatten mathlib.Core.List.flat_map
all_pass = refl

-- all of them, together
pub cases_hold : (c : Case) → Memᴰ c cases → Holds c
cases_hold = each_holds cases all_pass
