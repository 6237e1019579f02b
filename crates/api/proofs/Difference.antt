-- The first unequal row in the answers of the calls: none exactly when the range comparison says yes, a row exactly when
-- the ranges part there, and refused as the range comparison is.
-- By the variants of what the images and the ranges are; the row is the one pair that fails after pairs that pass.
use mathlib.Core.Path.{◌≡◌, refl, sym, ◌∙◌}
use mathlib.Core.Bool.{Bool, true, false}
use mathlib.Core.List.{List}
use mathlib.Core.Logic.{◌↔◌}
use Prim.Native.Nat.{ℕ, ◌+◌, ◌≤◌, ◌<◌}
use native.Mathlib.Omega.{arith}
use lib.Dec.{eqb, ltb}
use borrow.Author.Tests.{eqb-true, eqb-false, ltb-true, lt-ltb, le-ltb}
use Rattle.image.specs.Record.{max_depth}
use Rattle.image.specs.Row.{row_at}
use Rattle.image.specs.Equality.{ranges_equal, first_difference}
use Rattle.std.proofs.Common.{Option, Some, None, Result, Ok, Err}
use Rattle.std.specs.Bool.{then_some}
use Rattle.answers.specs.declared.RangeRefusal.{RangeRefusal}
use Rattle.answers.specs.Answers.{paired_of, bounds_of, exceeds, ◌>>=◌, compare_range_answer, differs_at, difference_answer}
use Rattle.answers.specs.Numbers.{ranges_compared_numbers, difference_numbers}
use Rattle.laws.proofs.Sound.{row_equal_is}
use Rattle.values.specs.Pairs.{same_row, first_unequal}
use Rattle.values.proofs.Blocks.{all_at}
use Rattle.values.proofs.Steps.{all_by}
use Rattle.values.proofs.FirstUnequal.{apart, unequal_within, unequal_before, unequal_fails, unequal_is, unequal_whole}
use Rattle.difference.proofs.Search.{same_rows, all_rows_lem, first_row}
use Rattle.api.specs.Difference.{PartAt, SameRefusal}
use Rattle.api.proofs.Answers.{agreed, both_within, within}

-- the search and the comparison after the same checks
abbrev after : {A : Type 0} → Result (Unit {0}) RangeRefusal → Result (Unit {0}) RangeRefusal → A → Result A RangeRefusal
after x y found = do
  _ ← x
  _ ← y
  Ok found

module _ (n : ℕ) where
  nowhere : (x y : Result (Unit {0}) RangeRefusal) (row : ℕ) (b : Bool) → eqb row n ≡ b → row ≤ n
      → (after x y (differs_at n row) ≡ Ok None) ↔ (after x y b ≡ Ok true)
  nowhere (Err f) y row b e le = (λ h. cc, λ h. cc)
  nowhere (Ok _) (Err f) row b e le = (λ h. cc, λ h. cc)
  nowhere (Ok _) (Ok _) row true e le =
      let past : ltb row n ≡ false = le-ltb row n (omega (arith, eqb-true row n e)) in
      (λ h. refl, λ h. rw past)
  nowhere (Ok _) (Ok _) row false e le =
      let ne = eqb-false row n e in
      let inside : ltb row n ≡ true = lt-ltb row n (omega (arith, ne)) in
      (λ h. let g : ◌≡◌ {A = Result (Option ℕ) RangeRefusal} (Ok (Some row)) (Ok None) = rw inside at h in cc, λ h. cc)

  alike : (x y : Result (Unit {0}) RangeRefusal) (found : Option ℕ) (b : Bool)
      → SameRefusal (difference_numbers (after x y found)) (ranges_compared_numbers (after x y b))
  alike (Err e) y found b = record { number = refl; side = refl; node = refl }
  alike (Ok _) (Err e) found b = record { number = refl; side = refl; node = refl }
  alike (Ok _) (Ok _) found b = record { number = refl; side = refl; node = refl }

  -- a row that is told
  record Told (x y : Result (Unit {0}) RangeRefusal) (row told : ℕ) : Type 0 where
    agree : x ≡ Ok tt
    inside : y ≡ Ok tt
    below : row < n
    is : told ≡ row

  told : (x y : Result (Unit {0}) RangeRefusal) (row k : ℕ) → after x y (differs_at n row) ≡ Ok (Some k) → Told x y row k
  told (Err f) y row k e = record { agree = cc; inside = cc; below = absurd (apart true refl cc); is = cc }
  told (Ok _) (Err f) row k e = record { agree = refl; inside = cc; below = absurd (apart true refl cc); is = cc }
  told (Ok _) (Ok _) row k e = cases (ltb row n) refl e
    where
      cases : (b : Bool) → ltb row n ≡ b → ◌≡◌ {A = Result (Option ℕ) RangeRefusal} (Ok (then_some b row)) (Ok (Some k)) → Told (Ok tt) (Ok tt) row k
      cases true lt h = record { agree = refl; inside = refl; below = ltb-true _ _ lt; is = cc }
      cases false ge h = record { agree = refl; inside = refl; below = absurd (apart true refl cc); is = cc }

module _ (s t : List ℕ) (i j n : ℕ) where
  first_whole : eqb (first_difference s t i j n) n ≡ ranges_equal s t i j n
  first_whole = rw (← first_row s t i j n) (unequal_whole (same_rows s t) i j n ∙ all_rows_lem s t i j n)

  first_least : first_difference s t i j n ≤ n
  first_least = rw (← first_row s t i j n) (unequal_within (same_rows s t) i j n)

  -- "It says none exactly when the range is equal"
  pub nowhere_yes : (difference_answer s t i j n ≡ Ok None) ↔ (compare_range_answer s t i j n ≡ Ok true)
  unfolding difference_answer compare_range_answer
  nowhere_yes = nowhere n (paired_of s t) (bounds_of s t i j n) (first_difference s t i j n) (ranges_equal s t i j n) first_whole first_least

  -- "refused as range comparison is"
  pub refused_alike : SameRefusal (difference_numbers (difference_answer s t i j n)) (ranges_compared_numbers (compare_range_answer s t i j n))
  unfolding difference_answer compare_range_answer
  refused_alike = alike n (paired_of s t) (bounds_of s t i j n) (differs_at n (first_difference s t i j n)) (ranges_equal s t i j n)

  -- the rows of two tables that are compared
  row_same : (k : ℕ) → (same_rows s t (i + k) (j + k) ≡ true) ↔ (row_at max_depth s 0 (i + k) ≡ row_at max_depth t 0 (j + k))
  unfolding same_row
  row_same k = row_equal_is (row_at max_depth s 0 (i + k)) (row_at max_depth t 0 (j + k))

  parts : (row : ℕ) → difference_answer s t i j n ≡ Ok (Some row) → PartAt s t i j n row
  unfolding difference_answer
  parts row e =
      let h = told n (paired_of s t) (bounds_of s t i j n) (first_difference s t i j n) row e in
      let pair = agreed s t h.agree in
      let ranges = both_within s t i j n h.inside in
      let is : row ≡ first_unequal (same_rows s t) i j n = h.is ∙ sym (first_row s t i j n) in
      let inside : row < n = omega (arith, h.below, h.is) in
      record {
        left = pair.left;
        right = pair.right;
        types = pair.types;
        left_within = within s i n ranges.0;
        right_within = within t j n ranges.1;
        inside = inside;
        unequal = λ same. apart _ ((row_same row).1 same) (rw (← is) at (unequal_fails (same_rows s t) i j n (omega arith)));
        equal = λ k lt. (row_same k).0 (all_at (same_rows s t) i j row (rw (← is) at (unequal_before (same_rows s t) i j n)) k lt);
      }

  parted : (row : ℕ) → PartAt s t i j n row → difference_answer s t i j n ≡ Ok (Some row)
  unfolding difference_answer paired_of bounds_of exceeds
  parted row p =
      let is : row ≡ first_difference s t i j n =
      unequal_is (same_rows s t) i j n row (omega (arith, p.inside))
      (all_by (same_rows s t) i j row (λ k lt. (row_same k).1 (p.equal k lt)))
      (λ lt. fails row p.unequal) ∙ first_row s t i j n in
      rw (p.left, p.right, p.types, le-ltb _ _ p.left_within, le-ltb _ _ p.right_within, ← is, lt-ltb _ _ p.inside)
    where
      fails : (row : ℕ) → (row_at max_depth s 0 (i + row) ≡ row_at max_depth t 0 (j + row) → ⊥) → same_rows s t (i + row) (j + row) ≡ false
      fails row ne = cases (same_rows s t (i + row) (j + row)) refl
        where
          cases : (x : Bool) → same_rows s t (i + row) (j + row) ≡ x → x ≡ false
          cases true e = absurd (ne ((row_same row).0 e))
          cases false e = refl

  -- "the row given is unequal, and every row before it is equal"
  pub at_parts : (row : ℕ) → (difference_answer s t i j n ≡ Ok (Some row)) ↔ PartAt s t i j n row
  at_parts row = (parts row, parted row)
