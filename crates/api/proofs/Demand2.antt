-- The comparison of two images says yes exactly when both are accepted and their tables are equal.
-- By the answers of the two checks; ranges of rows are the same exactly when each row is.
use mathlib.Core.Path.{◌≡◌, refl}
use mathlib.Core.Bool.{Bool, true, false, ◌&&◌}
use mathlib.Core.List.{List}
use mathlib.Core.Logic.{◌↔◌}
use Prim.Native.Nat.{ℕ, zero, suc, ◌+◌, ◌<◌, ◌≤◌}
use native.Mathlib.Omega.{arith}
use native.Mathlib.Decide.{ℕ_discrete}
use lib.Dec.{eqb}
use borrow.Author.Tests.{eqb-true, eq-eqb}
use Rattle.image.specs.Faults.{Checked, check_image}
use Rattle.std.proofs.Common.{Ok, Err}
use Rattle.image.specs.declared.answer.Side.TheVariants.{Left, Right}
use Rattle.image.specs.Record.{max_depth, length_of}
use Rattle.image.specs.Types.{types_agree}
use Rattle.image.specs.Row.{Row, Rows, more, range, row_at, table_rows}
use Rattle.image.specs.Equality.{ranges_equal, tables_equal}
use Rattle.answers.specs.Answers.{◌>>=◌, refused_as, side_fault, compare_answer}
use Rattle.image.proofs.Bools.{and_left, and_right}
use Rattle.image.proofs.Ranges.{range_same}
use Rattle.laws.proofs.Sound.{rows_equal_is}
use Rattle.api.specs.Demand2.{EqualTables}

-- the rows of equal ranges
head : (x y : Row) (xs ys : Rows) → more x xs ≡ more y ys → x ≡ y
head x y xs ys e = cc

tail : (x y : Row) (xs ys : Rows) → more x xs ≡ more y ys → xs ≡ ys
tail x y xs ys e = cc

pub same_range : (g h : ℕ → Row) (i n : ℕ) → range g i n ≡ range h i n → (k : ℕ) → i ≤ k → k < i + n → g k ≡ h k
unfolding range
same_range g h i zero e k from end = absurd (omega arith)
same_range g h i (suc n) e k from end =
    cases (ℕ_discrete i k) (λ later. same_range g h (suc i) n (tail (g i) (h i) (range g (suc i) n) (range h (suc i) n) e) k later (omega arith))
  where
    cases : Dec (i ≡ k) → (suc i ≤ k → g k ≡ h k) → g k ≡ h k
    cases (yes q) rest = rw (← q) (head (g i) (h i) (range g (suc i) n) (range h (suc i) n) e)
    cases (no ne) rest = rest (omega arith)

-- the ranges from row 0 on are equal exactly when each row is
rows_out : (s t : List ℕ) (n : ℕ) → ranges_equal s t 0 0 n ≡ true → (i : ℕ) → i < n → row_at max_depth s 0 i ≡ row_at max_depth t 0 i
unfolding ranges_equal table_rows
rows_out s t n e i lt = same_range (row_at max_depth s 0) (row_at max_depth t 0) 0 n ((rows_equal_is _ _).0 e) i (omega arith) (omega arith)

rows_in_lem : (s t : List ℕ) (n : ℕ) → ((i : ℕ) → i < n → row_at max_depth s 0 i ≡ row_at max_depth t 0 i) → ranges_equal s t 0 0 n ≡ true
unfolding ranges_equal table_rows
rows_in_lem s t n e = (rows_equal_is _ _).1 (range_same (row_at max_depth s 0) (row_at max_depth t 0) 0 n (λ k from end. e k (omega arith)))

-- a yes is one of both checks and of the test
record Said (x y : Checked) (b : Bool) : Type 0 where
  left : x ≡ Ok tt
  right : y ≡ Ok tt
  test : b ≡ true

said : (x y : Checked) (b : Bool) → (refused_as (side_fault Left) x >>= λ _. refused_as (side_fault Right) y >>= λ _. Ok b) ≡ Ok true → Said x y b
said (Err f) y b e = record { left = cc; right = cc; test = cc }
said (Ok _) (Err f) b e = record { left = refl; right = cc; test = cc }
said (Ok _) (Ok _) false e = record { left = refl; right = refl; test = cc }
said (Ok _) (Ok _) true e = record { left = refl; right = refl; test = refl }

yes_equal : (s t : List ℕ) → compare_answer s t ≡ Ok true → EqualTables s t
unfolding compare_answer tables_equal
yes_equal s t e =
    let h = said (check_image s) (check_image t) (tables_equal s t) e in
    let same : types_agree s t && eqb (length_of s 0) (length_of t 0) ≡ true = and_left _ (ranges_equal s t 0 0 (length_of s 0)) h.test in
    record {
      left = h.left;
      right = h.right;
      types = and_left (types_agree s t) _ same;
      lengths = eqb-true _ _ (and_right (types_agree s t) _ same);
      rows = rows_out s t (length_of s 0) (and_right (types_agree s t && eqb (length_of s 0) (length_of t 0)) _ h.test);
    }

equal_yes : (s t : List ℕ) → EqualTables s t → compare_answer s t ≡ Ok true
unfolding compare_answer tables_equal
equal_yes s t e = rw (e.left, e.right, e.types, eq-eqb _ _ e.lengths, rows_in_lem s t (length_of s 0) e.rows)

-- demand 2
pub compare_yes : (s t : List ℕ) → (compare_answer s t ≡ Ok true) ↔ EqualTables s t
compare_yes s t = (yes_equal s t, equal_yes s t)
