-- What a reader's contract says of its result.
use Rattle.std.specs.Prelude.{◌≡◌, Bool, true, false, ◌||◌, Option, None, Some, List, ℕ, ◌+◌, ◌*◌, ◌<◌, ◌≤◌, ◌^◌, eqb, length, get_or}
use Rattle.image.specs.declared.bytes.Numbers.{Numbers}
use Rattle.image.specs.declared.element.Bitmap.{Bitmap}
use Rattle.image.specs.Record.{has_bitmap, bitmap_place, first_bit, first_child, length_of, offset_of, buffer_place}
use Rattle.image.specs.Element.{valid, child_end, child_with_id, run_end_width}

-- the result is the number x, which fits so many bits
pub record Read (x bits r : ℕ) : Type 0 where
  pub value : r ≡ x
  pub small : r < 2 ^ bits

-- so small that the place of element j of w bytes does not wrap
pub record Nth (place w j : ℕ) : Type 0 where
  pub near : place < 2 ^ 40
  pub narrow : w ≤ 8
  pub few : j < 2 ^ 40

-- a width that integers have
unfoldable pub is_width : ℕ → Bool
is_width w = eqb w 1 || eqb w 2 || eqb w 4 || eqb w 8

-- of n bytes those from a place on hold so many integers of w bytes
pub record Packed (n place w count : ℕ) : Type 0 where
  pub width : is_width w ≡ true
  pub inside : place + count * w ≤ n

-- the bitmap of node k as it was read: none where it has none, else where it starts and the bit of row 0
pub record BitmapParts (s : List ℕ) (k : ℕ) (m : Bitmap) : Type 0 where
  pub is_there : has_bitmap s k ≡ true
  pub start : m.place ≡ bitmap_place s k
  pub row : Read (first_bit s k) 32 m.first

abbrev pub BitmapOf : List ℕ → ℕ → Option Bitmap → Type 0
BitmapOf s k None = has_bitmap s k ≡ false
BitmapOf s k (Some m) = BitmapParts s k m

-- the child of union k that has the type id, as it was found: none where the search ends at the children's end
pub record NamedBy (s : List ℕ) (k id c : ℕ) : Type 0 where
  pub found : Read (child_with_id s k id) 17 c
  pub within : c < child_end s k

abbrev pub NamedChild : List ℕ → ℕ → ℕ → Option ℕ → Type 0
NamedChild s k id None = child_with_id s k id ≡ child_end s k
NamedChild s k id (Some c) = NamedBy s k id c

-- a table of the children of union k by their type ids
pub record ChildrenById (s : List ℕ) (k : ℕ) (table : List (Option ℕ)) : Type 0 where
  pub sized : length table ≡ 256
  pub entry : (id : ℕ) → id < 256 → NamedChild s k id (get_or table id None)

-- the ends of run node k's runs
pub record EndsOf (s : List ℕ) (k : ℕ) (r : Numbers) : Type 0 where
  pub bytes : r.bytes.now ≡ s
  pub width : r.width ≡ run_end_width s k
  pub place : r.place ≡ buffer_place s (first_child s k) 0 + offset_of s (first_child s k) * r.width
  pub some : 1 ≤ r.width
  pub narrow : r.width ≤ 8
  pub near : r.place < 2 ^ 40

-- p says of the rows of node k whether they pass a test: no null row does, and whatever may be answered of another is what p says
pub record TellsKept (s : List ℕ) (k : ℕ) (answers : ℕ → Bool → Type 0) (p : ℕ → Bool) : Type 0 where
  pub null : (i : ℕ) → valid s k i ≡ false → p i ≡ false
  pub kept : (i : ℕ) (b : Bool) → i < length_of s k → valid s k i ≡ true → answers i b → b ≡ p i
