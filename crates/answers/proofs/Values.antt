-- The value of an answer fits into the 56 bits that one number has for it.
-- A refusal has no value, and what is found has a small one; a row that is told is below the count, and an image that is built is
-- no longer than images are.
use mathlib.Core.Path.{◌≡◌, refl}
use mathlib.Core.Bool.{Bool, true, false, cond, ◌||◌}
use mathlib.Core.List.{List, [], ◌∷◌}
use Prim.Native.Nat.{ℕ, ◌<◌, ◌^◌}
use native.Mathlib.Omega.{arith}
use lib.ListN.{length}
use lib.Dec.{ltb}
use borrow.Author.Tests.{ltb-true, ltb-false}
use Rattle.std.proofs.Common.{Option, Result, Ok, Err}
use Rattle.std.specs.Bool.{then_some}
use Rattle.image.specs.declared.answer.Fault.{Fault}
use Rattle.image.specs.Faults.{Checked, check_image}
use Rattle.image.specs.Ranges.{any}
use Rattle.image.specs.Record.{longest_image, node_count}
use Rattle.image.specs.Row.{Rows}
use Rattle.image.specs.Equality.{first_difference}
use Rattle.image.specs.Parse.{Parsed, failed, parsed, readable, rows_in}
use Rattle.image.specs.Built.{built_image}
use Rattle.answers.specs.declared.SideFault.{SideFault}
use Rattle.answers.specs.declared.RangeRefusal.{RangeRefusal}
use Rattle.answers.specs.declared.RangeRefusal.TheVariants.{Image as RangeImage, UnequalTypes, OutOfRange}
use Rattle.answers.specs.declared.DigitsRefusal.{DigitsRefusal}
use Rattle.answers.specs.declared.DigitsRefusal.TheVariants.{Range, NotDigits}
use Rattle.answers.specs.declared.BuildRefusal.{BuildRefusal}
use Rattle.answers.specs.declared.BuildRefusal.TheVariants.{Image as BuildImage, Unreadable, TooLong}
use Rattle.answers.specs.Answers.{◌>>=◌, refused_as, paired_of, bounds_of, difference_answer, too_many_rows, image_answer, rows_answer, build_answer}
use Rattle.answers.specs.declared.numbers.Numbers.{Numbers}
use Rattle.answers.specs.Numbers.{range_refusal_numbers, digits_refusal_numbers, yes_value, answer_numbers, checked_numbers, compared_numbers, ranges_compared_numbers, difference_numbers, digits_numbers, map_names_numbers, built_numbers}

-- an answer has a small value where what is found has
pub small : {A E : Type 0} (value : A → ℕ) (refusal : E → Numbers) → ((a : A) → value a < 2 ^ 56) → ((e : E) → (refusal e).value < 2 ^ 56) → (r : Result A E) → (answer_numbers value refusal r).value < 2 ^ 56
small value refusal found refused (Ok a) = found a
small value refusal found refused (Err e) = refused e

yes_small : (b : Bool) → yes_value b < 2 ^ 56
yes_small true = omega arith
yes_small false = omega arith

range_refusal_small : (e : RangeRefusal) → (range_refusal_numbers e).value < 2 ^ 56
range_refusal_small (RangeImage f) = omega arith
range_refusal_small UnequalTypes = omega arith
range_refusal_small (OutOfRange side) = omega arith

digits_refusal_small : (e : DigitsRefusal) → (digits_refusal_numbers e).value < 2 ^ 56
digits_refusal_small (Range e) = range_refusal_small e
digits_refusal_small NotDigits = omega arith

-- the values of checks and comparisons
pub checked_small : (answer : Checked) → (checked_numbers answer).value < 2 ^ 56
checked_small = small _ _ (λ a. omega arith) (λ e. omega arith)

pub compared_small : (answer : Result Bool SideFault) → (compared_numbers answer).value < 2 ^ 56
compared_small = small _ _ yes_small (λ e. omega arith)

pub ranges_compared_small : (answer : Result Bool RangeRefusal) → (ranges_compared_numbers answer).value < 2 ^ 56
ranges_compared_small = small _ _ yes_small range_refusal_small

pub digits_small : (answer : Result Bool DigitsRefusal) → (digits_numbers answer).value < 2 ^ 56
digits_small = small _ _ yes_small digits_refusal_small

pub map_names_small : (answer : Result Bool Fault) → (map_names_numbers answer).value < 2 ^ 56
map_names_small = small _ _ yes_small (λ e. omega arith)

-- the value of a search over fewer than 2 ^ 56 rows
pub difference_small : (s t : List ℕ) (i j n : ℕ) {r : Result (Option ℕ) RangeRefusal} → r ≡ difference_answer s t i j n → n < 2 ^ 56 → (difference_numbers r).value < 2 ^ 56
unfolding difference_answer
difference_small s t i j n e few =
    let row = first_difference s t i j n in
    rw e (cases row (paired_of s t) (bounds_of s t i j n) (ltb row n) refl)
  where
    cases : (row : ℕ) (x y : Result (Unit {0}) RangeRefusal) (b : Bool) → ltb row n ≡ b
        → (difference_numbers (x >>= λ _. y >>= λ _. Ok (then_some b row))).value < 2 ^ 56
    cases row (Err e) y b is = range_refusal_small e
    cases row (Ok _) (Err e) b is = range_refusal_small e
    cases row (Ok _) (Ok _) false is = omega arith
    cases row (Ok _) (Ok _) true is = omega (arith, ltb-true row n is)

-- the value of a table that is built
image_small : (s : List ℕ) (rs : Rows) (out : List ℕ) → (built_numbers (image_answer s rs out)).value < 2 ^ 56
unfolding image_answer
image_small s rs out =
    cases (length (built_image s rs)) (ltb (length out) (length (built_image s rs))) (ltb longest_image (length (built_image s rs))) (any (too_many_rows s rs) 0 (node_count s)) refl
  where
    cases : (size : ℕ) (short long many : Bool) → ltb longest_image size ≡ long → (built_numbers (cond (short || long || many) (Err TooLong) (Ok size))).value < 2 ^ 56
    cases size true long many is = omega arith
    cases size false true many is = omega arith
    cases size false false true is = omega arith
    cases size false false false is = omega (arith, ltb-false longest_image size is)

pub built_small : (s : List ℕ) (n : ℕ) (b out : List ℕ) {r : Result ℕ BuildRefusal} → r ≡ build_answer s n b out → (built_numbers r).value < 2 ^ 56
unfolding build_answer
built_small s n b out e = rw e (cases (check_image s) (readable s) (rows_in s n b))
  where
    cases : (c : Checked) (coded : Bool) (p : Parsed Rows) → (built_numbers (refused_as BuildImage c >>= λ _. cond coded (rows_answer s p out) (Err Unreadable))).value < 2 ^ 56
    cases (Err f) coded p = omega arith
    cases (Ok _) false p = omega arith
    cases (Ok _) true failed = omega arith
    cases (Ok _) true (parsed rs []) = image_small s rs out
    cases (Ok _) true (parsed rs (x ∷ rest)) = omega arith
