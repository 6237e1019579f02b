-- Demand 3: outputs of equally many rows of equal type are the same exactly when the ranges are equal, and neither begins the other.
-- The rows of both ranges have one shape, so their bytes tell the rows and where they end; equal ranges are the same rows.
use mathlib.Core.Path.{◌≡◌, sym, ap, ◌∙◌}
use mathlib.Core.Bool.{true}
use mathlib.Core.List.{List, [], ◌++◌, append-nil}
use mathlib.Core.Logic.{◌↔◌}
use Prim.Native.Nat.{ℕ, ◌+◌, ◌≤◌}
use native.Mathlib.Omega.{arith}
use Rattle.image.specs.Record.{max_depth, length_of}
use Rattle.image.specs.Row.{row_at, table_rows}
use Rattle.image.specs.RowBytes.{rows_bytes, range_bytes}
use Rattle.image.specs.Equality.{ranges_equal}
use Rattle.laws.specs.Accepted.{AcceptedImage}
use Rattle.laws.specs.Shape.{fit_all, shape_of}
use Rattle.laws.specs.Demand3.{WrittenRanges, ProperPrefix}
use Rattle.laws.proofs.Sound.{rows_equal_is}
use Rattle.laws.proofs.Accepted.{accepted}
use Rattle.laws.proofs.Alike.{types_alike}
use Rattle.laws.proofs.Decode.{rows_back}
use Rattle.laws.proofs.Lengths.{table_count}
use Rattle.laws.proofs.Stored.{range_fits, stored_fits}
use Rattle.laws.proofs.OneShape.{one_shape}

-- the rows of a table have its root's shape
table_fits : (s : List ℕ) (i n : ℕ) → AcceptedImage s → i + n ≤ length_of s 0 → fit_all (table_rows s i n) (shape_of max_depth s 0) ≡ true
unfolding table_rows
table_fits s i n image within =
    range_fits (row_at max_depth s 0) (shape_of max_depth s 0) i n (λ c from end. stored_fits max_depth s 0 c image (omega (arith, image.tables.some_nodes)) (omega arith))

module _ (s t : List ℕ) (i j n : ℕ) (w : WrittenRanges s t i j n) where
  root_shape : shape_of max_depth s 0 ≡ shape_of max_depth t 0
  root_shape =
      let image = accepted s w.left in
      one_shape max_depth s t 0 0 image (omega (arith, image.tables.some_nodes)) (types_alike s t w.types)

  -- what begins with both outputs holds the same rows, and goes on in the same way
  ranges_back : (x y : List ℕ) → range_bytes s i n ++ x ≡ range_bytes t j n ++ y → (table_rows s i n ≡ table_rows t j n) × (x ≡ y)
  unfolding range_bytes
  ranges_back x y e =
      rows_back (table_rows s i n) (table_rows t j n) (shape_of max_depth s 0) x y
      (table_fits s i n (accepted s w.left) w.left_rows)
      (rw root_shape (table_fits t j n (accepted t w.right) w.right_rows))
      (table_count s i n ∙ sym (table_count t j n)) e

  -- the same bytes exactly when the ranges are equal
  pub same_bytes_lem : (range_bytes s i n ≡ range_bytes t j n) ↔ (ranges_equal s t i j n ≡ true)
  unfolding range_bytes ranges_equal
  same_bytes_lem =
      (λ e. (rows_equal_is _ _).1 (ranges_back [] [] (ap (λ (b : List ℕ). b ++ []) e)).0, λ e. ap rows_bytes ((rows_equal_is _ _).0 e))

  -- neither output a proper prefix of the other
  pub no_proper_prefix : ¬ ProperPrefix (range_bytes s i n) (range_bytes t j n) × ¬ ProperPrefix (range_bytes t j n) (range_bytes s i n)
  no_proper_prefix =
      (λ p. p.1 (ranges_back p.0 [] (p.2 ∙ sym (append-nil _))).1, λ p. p.1 (sym (ranges_back [] p.0 (append-nil _ ∙ sym p.2)).1))
