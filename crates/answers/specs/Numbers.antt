-- The number, side, node and value of every answer, and these as one number of 64 bits.
use Rattle.std.specs.Prelude.{Bool, true, false, cond, ℕ, ◌+◌, ◌*◌, eqb, Option, Some, None, Result, Ok, Err}
use Rattle.image.specs.declared.answer.Side.{Side}
use Rattle.image.specs.declared.answer.Side.TheVariants.{Left, Right}
use Rattle.image.specs.declared.answer.Fault.{Fault}
use Rattle.image.specs.Faults.{Checked}
use Rattle.answers.specs.declared.SideFault.{SideFault}
use Rattle.answers.specs.declared.RangeRefusal.{RangeRefusal}
use Rattle.answers.specs.declared.RangeRefusal.TheVariants.{Image as RangeImage, UnequalTypes, OutOfRange}
use Rattle.answers.specs.declared.DigitsRefusal.{DigitsRefusal}
use Rattle.answers.specs.declared.DigitsRefusal.TheVariants.{Range, NotDigits}
use Rattle.answers.specs.declared.WriteRefusal.{WriteRefusal}
use Rattle.answers.specs.declared.WriteRefusal.TheVariants.{Image as WriteImage, OutOfRange as WriteOutOfRange, TooLong}
use Rattle.answers.specs.declared.BuildRefusal.{BuildRefusal}
use Rattle.answers.specs.declared.BuildRefusal.TheVariants.{Image as BuildImage, Unreadable, NotRows, TooLong as BuildTooLong}
use Rattle.answers.specs.declared.numbers.Numbers.{Numbers}

-- An answer in document 01's numbers: 0 or the refusal's number; the side, 0 left and 1 right; the node; the value.
-- What an answer does not return is 0.
abbrev pub numbers : ℕ → ℕ → ℕ → ℕ → Numbers
numbers number side node value = record { number = number; side = side; node = node; value = value }

abbrev pub side_number : Side → ℕ
side_number Left = 0
side_number Right = 1

-- The refusals. "10 to 18 return side and node"; 19 "with side and node as 18 has them". "A library call on one image takes it as
-- left."
abbrev pub fault_numbers : Side → Fault → Numbers
fault_numbers side f = numbers f.number (side_number side) f.node 0

abbrev pub side_fault_numbers : SideFault → Numbers
side_fault_numbers e = fault_numbers e.side e.fault

-- "21 its side", "the others only the number"
abbrev pub range_refusal_numbers : RangeRefusal → Numbers
range_refusal_numbers (RangeImage e) = side_fault_numbers e
range_refusal_numbers UnequalTypes = numbers 20 0 0 0
range_refusal_numbers (OutOfRange side) = numbers 21 (side_number side) 0 0

-- as those of a range comparison, and 22, which returns "only the number"
abbrev pub digits_refusal_numbers : DigitsRefusal → Numbers
digits_refusal_numbers (Range e) = range_refusal_numbers e
digits_refusal_numbers NotDigits = numbers 22 0 0 0

abbrev pub write_refusal_numbers : WriteRefusal → Numbers
write_refusal_numbers (WriteImage f) = fault_numbers Left f
write_refusal_numbers WriteOutOfRange = numbers 21 0 0 0
write_refusal_numbers TooLong = numbers 43 0 0 0

-- 23, 24 and 43 return "only the number"
abbrev pub build_refusal_numbers : BuildRefusal → Numbers
build_refusal_numbers (BuildImage f) = fault_numbers Left f
build_refusal_numbers Unreadable = numbers 23 0 0 0
build_refusal_numbers NotRows = numbers 24 0 0 0
build_refusal_numbers BuildTooLong = numbers 43 0 0 0

-- The values: of an accepted image 0; yes is 1, no is 0; of so many bytes their number; of a search for the first unequal row 0
-- where there is none, else one more than the row.
abbrev pub unit_value : Unit {0} → ℕ
unit_value found = 0

abbrev pub yes_value : Bool → ℕ
yes_value true = 1
yes_value false = 0

abbrev pub row_value : Option ℕ → ℕ
row_value None = 0
row_value (Some row) = row + 1

-- the numbers of an answer, by the value of what is found and the numbers of the refusals
abbrev pub answer_numbers : {A E : Type 0} → (A → ℕ) → (E → Numbers) → Result A E → Numbers
answer_numbers value refusal (Ok found) = numbers 0 0 0 (value found)
answer_numbers value refusal (Err e) = refusal e

abbrev pub checked_numbers : Checked → Numbers
checked_numbers = answer_numbers unit_value (fault_numbers Left)

abbrev pub compared_numbers : Result Bool SideFault → Numbers
compared_numbers = answer_numbers yes_value side_fault_numbers

abbrev pub ranges_compared_numbers : Result Bool RangeRefusal → Numbers
ranges_compared_numbers = answer_numbers yes_value range_refusal_numbers

abbrev pub difference_numbers : Result (Option ℕ) RangeRefusal → Numbers
difference_numbers = answer_numbers row_value range_refusal_numbers

abbrev pub digits_numbers : Result Bool DigitsRefusal → Numbers
digits_numbers = answer_numbers yes_value digits_refusal_numbers

abbrev pub map_names_numbers : Result Bool Fault → Numbers
map_names_numbers = answer_numbers yes_value (fault_numbers Left)

abbrev pub written_numbers : Result ℕ WriteRefusal → Numbers
written_numbers = answer_numbers (λ n. n) write_refusal_numbers

abbrev pub built_numbers : Result ℕ BuildRefusal → Numbers
built_numbers = answer_numbers (λ n. n) build_refusal_numbers

-- One number of 64 bits: bits 0 to 7 the refusal's number, or 0. Where it is 0, bits 8 to 63 the value; else bits 8 to 15
-- the side and bits 16 to 31 the node.
unfoldable pub packed : Numbers → ℕ
packed n = cond (eqb n.number 0) (256 * n.value) (n.number + 256 * n.side + 65536 * n.node)
