-- The part of a buffer that is lent is the part that is used, and the value of a write fits into 56 bits.
-- A write answers no more bytes than its buffer has.
use mathlib.Core.Path.{◌≡◌, refl, sym, ap, ◌∙◌}
use mathlib.Core.Bool.{Bool, true, false, cond}
use mathlib.Core.List.{List, ◌++◌}
use Prim.Native.Nat.{ℕ, ◌≤◌, ◌<◌, ◌^◌, min}
use native.Mathlib.Omega.{arith}
use lib.ListN.{length, take, drop, length-take, drop_of_length-le}
use lib.Seq.{take_all}
use lib.Dec.{ltb}
use borrow.Author.Tests.{ltb-true, ltb-false}
use Rattle.image.specs.Faults.{Checked, check_image}
use Rattle.std.proofs.Common.{Result, Ok, Err}
use Rattle.answers.specs.declared.WriteRefusal.{WriteRefusal}
use Rattle.answers.specs.declared.WriteRefusal.TheVariants.{Image, OutOfRange, TooLong}
use Rattle.image.specs.RowBytes.{range_bytes}
use Rattle.answers.specs.Answers.{◌>>=◌, refused_as, refuse_if, exceeds, write_range, write_answer, write_output}
use Rattle.answers.specs.Numbers.{written_numbers}
use Rattle.editions_c.specs.Outputs.{most, used, unused}

-- the value of a write into a buffer of less than 2 ^ 56 bytes
answer_small : (s : List ℕ) (i n : ℕ) (out : List ℕ) {r : Result ℕ WriteRefusal} → r ≡ write_answer s i n out → length out < 2 ^ 56 → (written_numbers r).value < 2 ^ 56
unfolding write_answer write_range
answer_small s i n out e few = rw e (cases (check_image s) (exceeds s i n) (ltb (length out) (length (range_bytes s i n))) refl)
  where
    cases : (c : Checked) (beyond long : Bool) → ltb (length out) (length (range_bytes s i n)) ≡ long
        → (written_numbers (refused_as Image c >>= λ _. refuse_if beyond OutOfRange >>= λ _. cond long (Err TooLong) (Ok (length (range_bytes s i n))))).value < 2 ^ 56
    cases (Err f) beyond long is = omega arith
    cases (Ok _) true long is = omega arith
    cases (Ok _) false true is = omega arith
    cases (Ok _) false false is =
        let h : length (range_bytes s i n) ≤ length out = ltb-false _ _ is in
        omega arith

most_small : (n : ℕ) → min n most < 2 ^ 56
unfolding most
most_small n = omega arith

-- the part that is lent, and the rest
at_most : (out : List ℕ) (m : ℕ) → (take (min (length out) m) out ≡ take m out) × (drop (min (length out) m) out ≡ drop m out)
at_most out m = cases (ltb m (length out)) refl
  where
    cases : (x : Bool) → ltb m (length out) ≡ x → (take (min (length out) m) out ≡ take m out) × (drop (min (length out) m) out ≡ drop m out)
    cases true is =
        let le : m < length out = ltb-true _ _ is in
        let e : min (length out) m ≡ m = omega arith in
        rw e (refl, refl)
    cases false is =
        let le : length out ≤ m = ltb-false _ _ is in
        let e : min (length out) m ≡ length out = omega arith in
        rw e (take_all (length out) out (omega arith) ∙ sym (take_all m out le), drop_of_length-le out {i = length out} (omega arith) ∙ sym (drop_of_length-le out le))

pub lent_used : (out : List ℕ) {end : ℕ} → end ≡ min (length out) most → take end out ≡ used out
unfolding used
lent_used out e = rw e (at_most out most).0

left_unused : (out : List ℕ) {end : ℕ} → end ≡ min (length out) most → drop end out ≡ unused out
unfolding unused
left_unused out e = rw e (at_most out most).1

pub lent_small : (s : List ℕ) (i n : ℕ) (out : List ℕ) {end : ℕ} {r : Result ℕ WriteRefusal} → end ≡ min (length out) most → r ≡ write_answer s i n (take end out) → (written_numbers r).value < 2 ^ 56
lent_small s i n out {end = end} ee er =
    let few : length (take end out) ≤ end = rw (length-take end out) (omega arith) in
    answer_small s i n (take end out) er (omega (arith, most_small (length out)))

-- the buffer after a write: what was written into the part that is lent, and the rest
pub lent_output : (s : List ℕ) (i n : ℕ) (out : List ℕ) {end : ℕ} {after : List ℕ} → end ≡ min (length out) most → after ≡ write_output s i n (take end out)
    → after ++ drop end out ≡ write_output s i n (used out) ++ unused out
lent_output s i n out {end = end} ee ea = rw (← lent_used out ee, ← left_unused out ee) (ap (λ (x : List ℕ). x ++ drop end out) ea)
