-- Ranges of rows: one row, ranges of unequal lengths, tests moved to other places, and what the loops over rows keep.
-- Each is by induction over the count, or a loop law read through the rule that a range is equal where all its pairs are.
use mathlib.Core.Path.{◌≡◌, refl, sym, ap, ◌∙◌}
use mathlib.Core.Bool.{Bool, true, false, ◌&&◌}
use Prim.Native.Nat.{ℕ, zero, suc, ◌+◌, ◌-◌, ◌<◌, ◌≤◌}
use Rattle.image.specs.Row.{Row, range}
use Rattle.image.specs.Equality.{row_equal, rows_equal}
use Rattle.values.specs.Pairs.{same_row, range_equal}
use Rattle.values.proofs.Steps.{Left, left_none, left_more, left_fails, left_done, left_rest, left_jump, jump_fails, by_rows}

-- one row
pub one_row : (g h : ℕ → Row) (i j : ℕ) → range_equal g h i j 1 ≡ same_row g h i j
unfolding range row_equal same_row
one_row g h i j = and_true (row_equal (g i) (h j))
  where
    and_true : (x : Bool) → x && true ≡ x
    and_true true = refl
    and_true false = refl

-- ranges of unequal lengths differ
pub lengths_differ : (g h : ℕ → Row) (i j m n : ℕ) → (m ≡ n → ⊥) → rows_equal (range g i m) (range h j n) ≡ false
unfolding range row_equal
lengths_differ g h i j zero zero ne = absurd (ne refl)
lengths_differ g h i j zero (suc n) ne = refl
lengths_differ g h i j (suc m) zero ne = refl
lengths_differ g h i j (suc m) (suc n) ne = rw (lengths_differ g h (suc i) (suc j) m n (λ e. ne (ap suc e))) (and_false (row_equal (g i) (h j)))
  where
    and_false : (x : Bool) → x && false ≡ false
    and_false true = refl
    and_false false = refl

-- What the loops over rows keep: the rows of a range are equal exactly where those from row k on are.
pub record RowsLeft (g h : ℕ → Row) (i j n k : ℕ) : Type 0 where
  pub pairs : Left (same_row g h) i j n k

pub rows_none : (g h : ℕ → Row) (i j n : ℕ) → RowsLeft g h i j n 0
rows_none g h i j n = record { pairs = left_none (same_row g h) i j n }

module _ {g h : ℕ → Row} {i j n k : ℕ} (r : RowsLeft g h i j n k) where
  -- row k is equal, and one row more is passed
  pub rows_more : k < n → same_row g h (i + k) (j + k) ≡ true → RowsLeft g h i j n (k + 1)
  rows_more lt e = record { pairs = left_more (same_row g h) i j n k lt r.pairs e }

  -- row k differs
  pub rows_fail : k < n → same_row g h (i + k) (j + k) ≡ false → false ≡ range_equal g h i j n
  rows_fail lt e = left_fails (same_row g h) i j n k lt r.pairs e ∙ by_rows g h i j n

  -- all rows are passed
  pub rows_done : n ≤ k → true ≡ range_equal g h i j n
  rows_done le = left_done (same_row g h) i j n k le r.pairs ∙ by_rows g h i j n

  -- the rows that are left are the answer
  pub rows_rest : {x : Bool} → x ≡ range_equal g h (i + k) (j + k) (n - k) → x ≡ range_equal g h i j n
  rows_rest e = left_rest (same_row g h) i j n k r.pairs (e ∙ sym (by_rows g h (i + k) (j + k) (n - k))) ∙ by_rows g h i j n

  -- the m rows from row k on are equal, or not
  pub rows_jump : (m : ℕ) → m ≤ n - k → range_equal g h (i + k) (j + k) m ≡ true → RowsLeft g h i j n (k + m)
  rows_jump m le e = record { pairs = left_jump (same_row g h) i j n k m r.pairs.within le r.pairs (by_rows g h (i + k) (j + k) m ∙ e) }

  pub rows_jump_fail : (m : ℕ) → m ≤ n - k → range_equal g h (i + k) (j + k) m ≡ false → false ≡ range_equal g h i j n
  rows_jump_fail m le e = jump_fails (same_row g h) i j n k m le r.pairs (by_rows g h (i + k) (j + k) m ∙ e) ∙ by_rows g h i j n
