-- What each of the library's calls answers, for all inputs: what it finds, or why it refuses.
use Rattle.std.specs.Prelude.{Bool, true, false, cond, ◌||◌, List, [], ◌∷◌, ◌++◌, ℕ, ◌+◌, length, drop, ltb, Option, Result, Ok, Err}
use Rattle.std.specs.Bool.{then_some}
use Rattle.image.specs.declared.answer.Side.{Side}
use Rattle.image.specs.declared.answer.Side.TheVariants.{Left, Right}
use Rattle.image.specs.declared.answer.Fault.{Fault}
use Rattle.image.specs.Ranges.{any}
use Rattle.image.specs.Record.{longest_image, most_elements, node_count, length_of}
use Rattle.image.specs.Row.{Rows}
use Rattle.image.specs.Faults.{check_image}
use Rattle.image.specs.Types.{types_agree}
use Rattle.image.specs.MapNames.{maps_named}
use Rattle.image.specs.Equality.{ranges_equal, tables_equal, first_difference}
use Rattle.image.specs.RowBytes.{count, range_bytes}
use Rattle.image.specs.Digits.{digits_equal, not_digits}
use Rattle.image.specs.Parse.{Parsed, failed, parsed, readable, rows_in}
use Rattle.image.specs.Built.{column, built_image}
use Rattle.answers.specs.declared.SideFault.{SideFault}
use Rattle.answers.specs.declared.RangeRefusal.{RangeRefusal}
use Rattle.answers.specs.declared.RangeRefusal.TheVariants.{Image as RangeImage, UnequalTypes, OutOfRange}
use Rattle.answers.specs.declared.DigitsRefusal.{DigitsRefusal}
use Rattle.answers.specs.declared.DigitsRefusal.TheVariants.{Range, NotDigits}
use Rattle.answers.specs.declared.WriteRefusal.{WriteRefusal}
use Rattle.answers.specs.declared.WriteRefusal.TheVariants.{Image as WriteImage, OutOfRange as WriteOutOfRange, TooLong}
use Rattle.answers.specs.declared.BuildRefusal.{BuildRefusal}
use Rattle.answers.specs.declared.BuildRefusal.TheVariants.{Image as BuildImage, Unreadable, NotRows, TooLong as BuildTooLong}

-- A call goes on where a step finds what it needs, and ends where the step refuses.
infixl 10 ◌>>=◌
abbrev pub ◌>>=◌ : {A B E : Type 0} → Result A E → (A → Result B E) → Result B E
(Ok a) >>= rest = rest a
(Err e) >>= rest = Err e

-- a step's refusal as one of the call's
abbrev pub refused_as : {A E F : Type 0} → (E → F) → Result A E → Result A F
refused_as f (Ok a) = Ok a
refused_as f (Err e) = Err (f e)

-- a test that refuses
abbrev pub refuse_if : {E : Type 0} → Bool → E → Result (Unit {0}) E
refuse_if true e = Err e
refuse_if false e = Ok tt

abbrev pub side_fault : Side → Fault → SideFault
side_fault side f = record { side = side; fault = f }

-- the check of the image of a side
abbrev pub side_checked : Side → List ℕ → Result (Unit {0}) SideFault
side_checked side s = refused_as (side_fault side) (check_image s)

-- Whole comparison. "The left image is checked wholly before the right"; a refused check ends the comparison. Unequal types or
-- lengths are a no.
unfoldable pub compare_answer : List ℕ → List ℕ → Result Bool SideFault
compare_answer s t = do
  _ ← side_checked Left s
  _ ← side_checked Right t
  Ok (tables_equal s t)

-- What every call on ranges of two tables begins with: 10 to 19 of the left image, then of the right, then 20.
unfoldable pub paired_of : List ℕ → List ℕ → Result (Unit {0}) RangeRefusal
paired_of s t = do
  _ ← refused_as RangeImage (side_checked Left s)
  _ ← refused_as RangeImage (side_checked Right t)
  cond (types_agree s t) (Ok tt) (Err UnequalTypes)

-- 21: "start + count exceeds the length"
unfoldable pub exceeds : List ℕ → ℕ → ℕ → Bool
exceeds s start n = ltb (length_of s 0) (start + n)

-- of two ranges, "left first"
unfoldable pub bounds_of : List ℕ → List ℕ → ℕ → ℕ → ℕ → Result (Unit {0}) RangeRefusal
bounds_of s t i j n = do
  _ ← refuse_if (exceeds s i n) (OutOfRange Left)
  refuse_if (exceeds t j n) (OutOfRange Right)

-- range comparison: what the two images are, then whether the ranges lie within, then the rows
unfoldable pub compare_range_answer : List ℕ → List ℕ → ℕ → ℕ → ℕ → Result Bool RangeRefusal
compare_range_answer s t i j n = do
  _ ← paired_of s t
  _ ← bounds_of s t i j n
  Ok (ranges_equal s t i j n)

-- The first unequal row: "refused as range comparison is"; then the row, "or says none" where it would be past the range.
abbrev pub differs_at : ℕ → ℕ → Option ℕ
differs_at n row = then_some (ltb row n) row

unfoldable pub difference_answer : List ℕ → List ℕ → ℕ → ℕ → ℕ → Result (Option ℕ) RangeRefusal
difference_answer s t i j n = do
  _ ← paired_of s t
  _ ← bounds_of s t i j n
  Ok (differs_at n (first_difference s t i j n))

-- Comparison at fewer digits. "It takes two ranges of equal type and answers yes or no"; 22 comes "after 20 and before 21".
unfoldable pub digits_answer : List ℕ → List ℕ → ℕ → ℕ → ℕ → ℕ → Result Bool DigitsRefusal
digits_answer s t i j n d = do
  _ ← refused_as Range (paired_of s t)
  _ ← refuse_if (not_digits s d) NotDigits
  _ ← refused_as Range (bounds_of s t i j n)
  Ok (digits_equal d s t i j n)

-- The query of Map names: "it refuses only what the check refuses".
unfoldable pub map_names_answer : List ℕ → Result Bool Fault
map_names_answer s = do
  _ ← check_image s
  Ok (maps_named s)

-- 43: "output longer than the buffer"
unfoldable pub write_range : List ℕ → ℕ → ℕ → List ℕ → Result ℕ WriteRefusal
write_range s i n out = cond (ltb (length out) (length (range_bytes s i n))) (Err TooLong) (Ok (length (range_bytes s i n)))

-- a write: 10 to 19, then 21, then 43
unfoldable pub write_answer : List ℕ → ℕ → ℕ → List ℕ → Result ℕ WriteRefusal
write_answer s i n out = do
  _ ← refused_as WriteImage (check_image s)
  _ ← refuse_if (exceeds s i n) WriteOutOfRange
  write_range s i n out

-- the buffer after an answer of so many bytes: these, and then what it held; unchanged by a refusal
abbrev pub written_over : {E : Type 0} → Result ℕ E → List ℕ → List ℕ → List ℕ
written_over (Ok n) bytes out = bytes ++ drop n out
written_over (Err e) bytes out = out

-- the buffer after a write of the range's bytes
unfoldable pub write_output : List ℕ → ℕ → ℕ → List ℕ → List ℕ
write_output s i n out =
    let bytes = range_bytes s i n in
    written_over (write_answer s i n out) bytes out

-- From written rows back to a table: 10 to 19, then 23, 24, 43.

-- "a node would have more than 1,073,741,824 rows"
unfoldable pub too_many_rows : List ℕ → Rows → ℕ → Bool
too_many_rows s rs k = ltb most_elements (count (column s rs k))

-- "then 43 where the image is longer than the buffer or the maximum, or a node would have more than 1,073,741,824 rows"
unfoldable pub image_answer : List ℕ → Rows → List ℕ → Result ℕ BuildRefusal
image_answer s rs out =
    let size = length (built_image s rs) in
    cond (ltb (length out) size || ltb longest_image size || any (too_many_rows s rs) 0 (node_count s)) (Err BuildTooLong) (Ok size)

-- "24 for a string that is not that many rows by the row rule": nothing follows them
abbrev pub rows_answer : List ℕ → Parsed Rows → List ℕ → Result ℕ BuildRefusal
rows_answer s failed out = Err NotRows
rows_answer s (parsed rs (x ∷ b)) out = Err NotRows
rows_answer s (parsed rs []) out = image_answer s rs out

-- "23 for another code, 24 .., in this order after 10 to 19"
unfoldable pub build_answer : List ℕ → ℕ → List ℕ → List ℕ → Result ℕ BuildRefusal
build_answer s n b out = do
  _ ← refused_as BuildImage (check_image s)
  cond (readable s) (rows_answer s (rows_in s n b) out) (Err Unreadable)

-- the image of the rows that a string is
abbrev pub image_of : List ℕ → Parsed Rows → List ℕ
image_of s failed = []
image_of s (parsed rs b) = built_image s rs

-- the buffer after a table is built: the image and then what it held; unchanged by a refusal
unfoldable pub build_output : List ℕ → ℕ → List ℕ → List ℕ → List ℕ
build_output s n b out =
    let image = image_of s (rows_in s n b) in
    written_over (build_answer s n b out) image out
