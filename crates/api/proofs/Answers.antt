-- Steps of the answers of the comparisons: what callees gave, put into the definitions.
-- By rewriting with the callees' equations; the variants that an answer cannot be are impossible.
use mathlib.Core.Path.{◌≡◌, refl, sym, ap}
use mathlib.Core.Bool.{Bool, true, false, cond, ◌&&◌}
use mathlib.Core.List.{List}
use Prim.Native.Nat.{ℕ, ◌+◌, ◌-◌, ◌≤◌, ◌<◌}
use native.Mathlib.Omega.{arith}
use lib.Dec.{eqb, ltb}
use borrow.Author.Tests.{eqb-true, ltb-true, ltb-false, lt-ltb, le-ltb}
use Rattle.image.specs.declared.answer.Side.TheVariants.{Left, Right}
use Rattle.image.specs.declared.answer.Fault.{Fault}
use Rattle.image.specs.Faults.{Checked, check_image}
use Rattle.std.proofs.Common.{Result, Ok, Err}
use Rattle.image.specs.Record.{max_depth, length_of}
use Rattle.image.specs.Row.{row_at}
use Rattle.image.specs.Types.{types_agree}
use Rattle.image.specs.Equality.{ranges_equal, tables_equal}
use Rattle.image.proofs.Bools.{and_left, and_right}
use Rattle.answers.specs.declared.RangeRefusal.TheVariants.{Image, UnequalTypes, OutOfRange}
use Rattle.answers.specs.Answers.{◌>>=◌, refused_as, refuse_if, side_fault, compare_answer, paired_of, bounds_of, exceeds}
use Rattle.values.specs.Pairs.{range_equal}
use Rattle.values.specs.Parts.{Sides}
use Rattle.laws.proofs.Accepted.{accepted}
use Rattle.equal.proofs.Types.{table_sides, table_answer}

-- The whole comparison: a refused check ends it.
module _ (s t : List ℕ) where
  pub compare_left : {f : Fault} → check_image s ≡ Err f → Err (side_fault Left f) ≡ compare_answer s t
  unfolding compare_answer
  compare_left is = rw is

  pub compare_right : {f : Fault} → check_image s ≡ Ok tt → check_image t ≡ Err f → Err (side_fault Right f) ≡ compare_answer s t
  unfolding compare_answer
  compare_right left is = rw (left, is)

  pub compare_both : {r : Bool} → check_image s ≡ Ok tt → check_image t ≡ Ok tt → r ≡ tables_equal s t → Ok r ≡ compare_answer s t
  unfolding compare_answer
  compare_both left right e = rw (left, right) (ap Ok e)

pub whole_sides : (s t : List ℕ) (n : ℕ) → (check_image s ≡ Ok tt) × (check_image t ≡ Ok tt) → types_agree s t && eqb (length_of s 0) (length_of t 0) ≡ true → n ≡ length_of s 0 → Sides s t 0 0 0 0 n max_depth
whole_sides s t n b same is =
    let lengths : length_of s 0 ≡ length_of t 0 = eqb-true _ _ (and_right (types_agree s t) _ same) in
    table_sides s t 0 0 n (accepted s b.0) (accepted t b.1) (and_left (types_agree s t) _ same) (omega arith) (omega arith)

fails : (a b c : Bool) → a && b ≡ false → a && b && c ≡ false
fails true b c e = rw e
fails false b c e = refl

holds : (a b c : Bool) → a && b ≡ true → a && b && c ≡ c
holds true b c e = rw e
holds false b c e = cc

pub compare_no : (s t : List ℕ) → types_agree s t && eqb (length_of s 0) (length_of t 0) ≡ false → false ≡ tables_equal s t
unfolding tables_equal
compare_no s t e = rw (fails (types_agree s t) (eqb (length_of s 0) (length_of t 0)) (ranges_equal s t 0 0 (length_of s 0)) e)

pub compare_rows : (s t : List ℕ) {n : ℕ} {r : Bool} → types_agree s t && eqb (length_of s 0) (length_of t 0) ≡ true → n ≡ length_of s 0 → r ≡ range_equal (row_at max_depth s 0) (row_at max_depth t 0) 0 0 n → r ≡ tables_equal s t
unfolding tables_equal
compare_rows s t {n} e is rows = rw (holds (types_agree s t) (eqb (length_of s 0) (length_of t 0)) (ranges_equal s t 0 0 (length_of s 0)) e, ← is, ← table_answer s t 0 0 n) rows

-- where they agree, both are accepted and of equal type
pub record Accord (s t : List ℕ) : Type 0 where
  pub left : check_image s ≡ Ok tt
  pub right : check_image t ≡ Ok tt
  pub types : types_agree s t ≡ true

pub agreed : (s t : List ℕ) → paired_of s t ≡ Ok tt → Accord s t
unfolding paired_of
agreed s t e = let h = cases (check_image s) (check_image t) (types_agree s t) e in record { left = h.0; right = h.1; types = h.2 }
  where
    cases : (x y : Checked) (agree : Bool)
        → (refused_as Image (refused_as (side_fault Left) x) >>= λ _. refused_as Image (refused_as (side_fault Right) y) >>= λ _. cond agree (Ok (tt {0})) (Err UnequalTypes)) ≡ Ok (tt {0})
        → (x ≡ Ok tt) × (y ≡ Ok tt) × (agree ≡ true)
    cases (Err f) y agree h = (cc, cc, cc)
    cases (Ok _) (Err f) agree h = (cc, cc, cc)
    cases (Ok _) (Ok _) true h = (refl, refl, refl)
    cases (Ok _) (Ok _) false h = (cc, cc, cc)

-- Whether two ranges lie within.
module _ (s t : List ℕ) (i j n : ℕ) where
  pub both_within : bounds_of s t i j n ≡ Ok tt → (exceeds s i n ≡ false) × (exceeds t j n ≡ false)
  unfolding bounds_of
  both_within = cases (exceeds s i n) (exceeds t j n)
    where
      cases : (x y : Bool) → (refuse_if x (OutOfRange Left) >>= λ _. refuse_if y (OutOfRange Right)) ≡ Ok (tt {0}) → (x ≡ false) × (y ≡ false)
      cases true y h = (cc, cc)
      cases false true h = (cc, cc)
      cases false false h = (refl, refl)

pub within : (s : List ℕ) (i n : ℕ) → exceeds s i n ≡ false → i + n ≤ length_of s 0
unfolding exceeds
within s i n e = ltb-false _ _ e

-- Rows that are given only where a test passes: there they are those rows, and else the refusal is the test's.
pub rows_given : {A E : Type 0} (x : Result (Unit {0}) E) (rows : A) {r : A} → (x >>= λ _. Ok rows) ≡ Ok r → (x ≡ Ok tt) × (r ≡ rows)
rows_given (Ok _) rows e = (refl, cc)
rows_given (Err f) rows e = (cc, cc)

pub rows_refused : {A E : Type 0} (x : Result (Unit {0}) E) (rows : A) {f : E} → (x >>= λ _. Ok rows) ≡ Err f → x ≡ Err f
rows_refused (Ok _) rows e = cc
rows_refused (Err g) rows e = cc

-- the rows that are compared
pub range_sides : (s t : List ℕ) (i j n : ℕ) → paired_of s t ≡ Ok tt → bounds_of s t i j n ≡ Ok tt → Sides s t 0 0 i j n max_depth
unfolding types_agree
range_sides s t i j n pair bounds =
    let a = agreed s t pair in
    let b = both_within s t i j n bounds in
    table_sides s t i j n (accepted s a.left) (accepted t a.right) a.types (within s i n b.0) (within t j n b.1)

-- start + count exceeds the length, in two steps
pub start_beyond : (s : List ℕ) (r start count : ℕ) → r ≡ length_of s 0 → r < start → true ≡ exceeds s start count
unfolding exceeds
start_beyond s r start count is beyond = sym (lt-ltb (length_of s 0) (start + count) (omega arith))

pub count_beyond : (s : List ℕ) (r start count : ℕ) → r ≡ length_of s 0 → start ≤ r → ltb (r - start) count ≡ exceeds s start count
unfolding exceeds
count_beyond s r start count is from = cases (ltb (r - start) count) refl
  where
    cases : (x : Bool) → ltb (r - start) count ≡ x → x ≡ ltb (length_of s 0) (start + count)
    cases true e =
        let h : r - start < count = ltb-true _ _ e in
        sym (lt-ltb (length_of s 0) (start + count) (omega arith))
    cases false e =
        let h : count ≤ r - start = ltb-false _ _ e in
        sym (le-ltb (length_of s 0) (start + count) (omega arith))
