-- What the comparison at fewer digits asks of its callers.
use Rattle.std.specs.Prelude.{◌≡◌, Bool, false, Option, None, Some, List, ℕ, ◌*◌, ◌≤◌, ◌<◌, ◌^◌}
use Rattle.image.specs.declared.element.Bitmap.{Bitmap}
use Rattle.image.specs.declared.type_code.Layout.TheVariants.{FixedWidth}
use Rattle.image.specs.Element.{element_width}
use Rattle.image.specs.Record.{has_bitmap}
use Rattle.image.specs.Reads.{BitmapParts}
use Rattle.values.specs.declared.leaf.Columns.{Columns}
use Rattle.image.specs.Digits.{kept_agree}
use Rattle.values.specs.declared.pair.Pair.{Pair}
use Rattle.values.specs.declared.pair.Rows.{Rows}
use Rattle.values.specs.Pairs.{all}
use Rattle.values.specs.Parts.{Masked, ColumnsAt}

-- a number that others are divided by: 1 to 10 to the 9
pub record Divisor (p : ℕ) : Type 0 where
  pub some : 0 < p
  pub small : p ≤ 1000000000

-- two numbers of w bytes
pub record TwoNumbers (w x y : ℕ) : Type 0 where
  pub some : 1 ≤ w
  pub narrow : w ≤ 8
  pub left : x < 2 ^ (8 * w)
  pub right : y < 2 ^ (8 * w)

-- n rows of each of two columns of numbers of 4 or of 8 bytes, whose null masks agree
pub record Numbers (a b : List ℕ) (i j n : ℕ) : Type 0 where
  pub rows : Masked FixedWidth a b 0 0 i j n
  pub width : (element_width a 0 ≡ 4 → ⊥) → element_width a 0 ≡ 8

-- a column's null mask, as it was read
pub record MaskRead (s : List ℕ) (read : Option Bitmap) : Type 0 where
  pub alone : read ≡ None → has_bitmap s 0 ≡ false
  pub bits : (m : Bitmap) → read ≡ Some m → BitmapParts s 0 m

-- what is read once of two columns: where their numbers start, how wide these are, and the left null mask
pub record Columned (a b : List ℕ) (v : Columns) (m : Option Bitmap) : Type 0 where
  pub places : ColumnsAt a b 0 0 v
  pub mask : MaskRead a m

-- the same of two roots, and whether their rows agree in turn once they are divided by p
pub record NumbersOf (v : Pair) (r : Rows) : Type 0 where
  pub left_root : v.left.number ≡ 0
  pub right_root : v.right.number ≡ 0
  pub numbers : Numbers v.left.image.now v.right.image.now r.left r.right r.count

abbrev pub ColumnedOf : Pair → Columns → Option Bitmap → Type 0
ColumnedOf v columns m = Columned v.left.image.now v.right.image.now columns m

abbrev pub agreed : ℕ → Pair → Rows → Bool
agreed p v r = all (kept_agree p v.left.image.now v.right.image.now) r.left r.right r.count
