-- Ranges of two tables whose types agree, as the comparison of ranges asks for them.
-- By the law that roots of agreeing types are alike.
use mathlib.Core.Path.{◌≡◌, refl}
use mathlib.Core.Bool.{true}
use mathlib.Core.List.{List}
use Prim.Native.Nat.{ℕ, ◌+◌, ◌≤◌}
use native.Mathlib.Omega.{arith}
use Rattle.image.specs.Record.{max_depth, length_of}
use Rattle.image.specs.Types.{types_agree}
use Rattle.image.specs.Row.{table_rows, row_at}
use Rattle.image.specs.Equality.{ranges_equal}
use Rattle.laws.specs.Accepted.{AcceptedImage}
use Rattle.laws.proofs.Alike.{types_alike}
use Rattle.values.specs.Pairs.{range_equal}
use Rattle.values.specs.Parts.{Sides}

-- ranges of two tables
pub table_sides : (a b : List ℕ) (i j n : ℕ) → AcceptedImage a → AcceptedImage b → types_agree a b ≡ true → i + n ≤ length_of a 0 → j + n ≤ length_of b 0 → Sides a b 0 0 i j n max_depth
table_sides a b i j n left right types li lj = record {
  left = record { image = left; node = omega (arith, left.tables.some_nodes); rows = li };
  right = record { image = right; node = omega (arith, right.tables.some_nodes); rows = lj };
  alike = types_alike a b types;
}

pub table_answer : (a b : List ℕ) (i j n : ℕ) → range_equal (row_at max_depth a 0) (row_at max_depth b 0) i j n ≡ ranges_equal a b i j n
unfolding ranges_equal table_rows
table_answer a b i j n = refl
