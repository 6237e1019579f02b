-- The tests of bytes, rows and lists of rows are their equality.
-- A true test gives the equation by induction over both sides, and each side passes the test with itself.
use mathlib.Core.Path.{◌≡◌, refl, ap, subst}
use mathlib.Core.Bool.{true}
use mathlib.Core.List.{List, [], ◌∷◌}
use mathlib.Core.Logic.{◌↔◌}
use Prim.Native.Nat.{ℕ}
use lib.Dec.{eqb}
use borrow.Author.Tests.{eqb-true, eq-eqb}
use Rattle.image.specs.Types.{same_bytes}
use Rattle.image.specs.Row.{Row, Rows, null, fixed, sized, joined, counted, tagged, none, more}
use Rattle.image.specs.Equality.{row_equal, rows_equal}
use Rattle.image.proofs.Bools.{and_left, and_right}

bytes_same : (a b : List ℕ) → same_bytes a b ≡ true → a ≡ b
unfolding same_bytes
bytes_same [] [] e = refl
bytes_same [] (y ∷ ys) e = cc
bytes_same (x ∷ xs) [] e = cc
bytes_same (x ∷ xs) (y ∷ ys) e = cc (eqb-true x y (and_left _ _ e), bytes_same xs ys (and_right (eqb x y) _ e))

pub same_bytes_refl : (a : List ℕ) → same_bytes a a ≡ true
unfolding same_bytes
same_bytes_refl [] = refl
same_bytes_refl (x ∷ xs) = rw (eq-eqb x x refl) (same_bytes_refl xs)

pub same_bytes_is : (a b : List ℕ) → (same_bytes a b ≡ true) ↔ (a ≡ b)
same_bytes_is a b = (bytes_same a b, λ e. subst (λ (x : List ℕ). same_bytes a x ≡ true) e (same_bytes_refl a))

mutual
  unfolding row_equal

  row_same : (a b : Row) → row_equal a b ≡ true → a ≡ b
  row_same null null e = refl
  row_same null (fixed y0) e = cc
  row_same null (sized y0) e = cc
  row_same null (joined y0) e = cc
  row_same null (counted y0) e = cc
  row_same null (tagged y0 y1) e = cc
  row_same (fixed x0) null e = cc
  row_same (fixed x0) (fixed y0) e = ap fixed (bytes_same x0 y0 e)
  row_same (fixed x0) (sized y0) e = cc
  row_same (fixed x0) (joined y0) e = cc
  row_same (fixed x0) (counted y0) e = cc
  row_same (fixed x0) (tagged y0 y1) e = cc
  row_same (sized x0) null e = cc
  row_same (sized x0) (fixed y0) e = cc
  row_same (sized x0) (sized y0) e = ap sized (bytes_same x0 y0 e)
  row_same (sized x0) (joined y0) e = cc
  row_same (sized x0) (counted y0) e = cc
  row_same (sized x0) (tagged y0 y1) e = cc
  row_same (joined x0) null e = cc
  row_same (joined x0) (fixed y0) e = cc
  row_same (joined x0) (sized y0) e = cc
  row_same (joined x0) (joined y0) e = ap joined (rows_same x0 y0 e)
  row_same (joined x0) (counted y0) e = cc
  row_same (joined x0) (tagged y0 y1) e = cc
  row_same (counted x0) null e = cc
  row_same (counted x0) (fixed y0) e = cc
  row_same (counted x0) (sized y0) e = cc
  row_same (counted x0) (joined y0) e = cc
  row_same (counted x0) (counted y0) e = ap counted (rows_same x0 y0 e)
  row_same (counted x0) (tagged y0 y1) e = cc
  row_same (tagged x0 x1) null e = cc
  row_same (tagged x0 x1) (fixed y0) e = cc
  row_same (tagged x0 x1) (sized y0) e = cc
  row_same (tagged x0 x1) (joined y0) e = cc
  row_same (tagged x0 x1) (counted y0) e = cc
  row_same (tagged x0 x1) (tagged y0 y1) e = cc (eqb-true x0 y0 (and_left _ _ e), row_same x1 y1 (and_right (eqb x0 y0) _ e))

  rows_same : (a b : Rows) → rows_equal a b ≡ true → a ≡ b
  rows_same none none e = refl
  rows_same none (more y ys) e = cc
  rows_same (more x xs) none e = cc
  rows_same (more x xs) (more y ys) e = cc (row_same x y (and_left _ _ e), rows_same xs ys (and_right (row_equal x y) _ e))

mutual
  unfolding row_equal

  pub row_equal_refl : (a : Row) → row_equal a a ≡ true
  row_equal_refl null = refl
  row_equal_refl (fixed b) = same_bytes_refl b
  row_equal_refl (sized b) = same_bytes_refl b
  row_equal_refl (joined r) = rows_equal_refl r
  row_equal_refl (counted r) = rows_equal_refl r
  row_equal_refl (tagged n r) = rw (eq-eqb n n refl) (row_equal_refl r)

  pub rows_equal_refl : (a : Rows) → rows_equal a a ≡ true
  rows_equal_refl none = refl
  rows_equal_refl (more r rs) = rw (row_equal_refl r) (rows_equal_refl rs)

pub row_equal_is : (a b : Row) → (row_equal a b ≡ true) ↔ (a ≡ b)
row_equal_is a b = (row_same a b, λ e. subst (λ (x : Row). row_equal a x ≡ true) e (row_equal_refl a))

-- the test of lists of rows is true exactly when they are the same
pub rows_equal_is : (a b : Rows) → (rows_equal a b ≡ true) ↔ (a ≡ b)
rows_equal_is a b = (rows_same a b, λ e. subst (λ (x : Rows). rows_equal a x ≡ true) e (rows_equal_refl a))
