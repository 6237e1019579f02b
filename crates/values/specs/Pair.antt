-- What contracts say of two nodes and of the rows that are compared of them.
-- Each word here is one of Pairs, of Bits or of Parts, of the images and numbers that the structs hold.
use Rattle.std.specs.Prelude.{◌≡◌, Bool, true, false, Option, None, Some, List, ℕ, ◌+◌, ◌-◌, ◌/◌, ◌≤◌, ◌<◌, ◌^◌, length}
use Rattle.image.specs.declared.record.Node.{Node}
use Rattle.image.specs.declared.type_code.Layout.{Layout}
use Rattle.image.specs.declared.type_code.Layout.TheVariants.{FixedWidth}
use Rattle.image.specs.Record.{code_of, offset_of, has_bitmap, bitmap_place, first_bit, first_child, buffer_place}
use Rattle.image.specs.Bytes.{byte_at}
use Rattle.image.specs.TypeCode.{layout_of}
use Rattle.image.specs.Element.{element_width, element_at, child_end, child_with_id}
use Rattle.image.specs.Row.{Row, row_at, value_at, boolean_row}
use Rattle.values.specs.declared.pair.Pair.{Pair}
use Rattle.values.specs.declared.pair.Rows.{Rows}
use Rattle.values.specs.declared.bits.Bits.{Bits}
use Rattle.values.specs.declared.leaf.Columns.{Columns}
use Rattle.values.specs.declared.leaf.Leaves.{Leaves}
use Rattle.values.specs.declared.leaf.Leaves.TheVariants.{Fixed as FixedLeaves, Texts as TextLeaves}
use Rattle.values.specs.declared.lengths.Offsets.{Offsets}
use Rattle.values.specs.Pairs.{all, first_unequal, same_row, range_equal, same_bit, same_mask, same_span, same_distance}
use Rattle.values.specs.Parts.{Sides, Parts, Masked, Spans, Above, SameEnds, RunParts, Together, Blocks, ColumnsAt, LeafPair, TextPair}

-- the roots of two images
pub record Roots (s t : List ℕ) (p : Pair) : Type 0 where
  pub left_image : p.left.image.now ≡ s
  pub left_root : p.left.number ≡ 0
  pub right_image : p.right.image.now ≡ t
  pub right_root : p.right.number ≡ 0

-- child c of each of two nodes
abbrev pub child_of : Node → ℕ → Node
child_of v c = record { image = v.image; number = first_child v.image.now v.number + c }

abbrev pub children : Pair → ℕ → Pair
children p c = record { left = child_of p.left c; right = child_of p.right c }

-- n rows from the one numbered k on; one row of each; and the elements that rows read
abbrev pub part : Rows → ℕ → ℕ → Rows
part r k n = record { left = r.left + k; right = r.right + k; count = n }

-- whatever may be answered of a part of rows, of at most w of them, is what p says of its pairs
abbrev pub TellsParts : (Rows → Bool → Type 0) → Rows → ℕ → (ℕ → ℕ → Bool) → Type 0
TellsParts answers r w p = (k n : ℕ) (b : Bool) → k + n ≤ r.count → n ≤ w → answers (part r k n) b → b ≡ all p (r.left + k) (r.right + k) n

abbrev pub one_row : ℕ → ℕ → Rows
one_row i j = record { left = i; right = j; count = 1 }

abbrev pub from_offset : Pair → Rows → Rows
from_offset p r = record { left = offset_of p.left.image.now p.left.number + r.left; right = offset_of p.right.image.now p.right.number + r.right; count = r.count }

-- a test of two images and of a node of each
abbrev pub agree : (List ℕ → List ℕ → ℕ → ℕ → Bool) → Pair → Bool
agree f p = f p.left.image.now p.right.image.now p.left.number p.right.number

-- what a node's rows are by its image and number: the rows are equal in turn
abbrev pub equal_rows : (List ℕ → ℕ → ℕ → Row) → Pair → Rows → Bool
equal_rows f p r = range_equal (f p.left.image.now p.left.number) (f p.right.image.now p.right.number) r.left r.right r.count

-- rows of nodes whose children's rows have a depth, and elements by the rule of their layout
abbrev pub nested : ((ℕ → ℕ → Row) → List ℕ → ℕ → ℕ → Row) → ℕ → List ℕ → ℕ → ℕ → Row
nested f depth s k = f (row_at depth s) s k

abbrev pub values_at : ℕ → List ℕ → ℕ → ℕ → Row
values_at depth s k = value_at (layout_of (code_of s k)) (row_at depth s) s k

-- rows are null together, and the number of the first pair that is not
abbrev pub same_masks : Pair → Rows → Bool
same_masks p r = all (same_mask p.left.image.now p.left.number p.right.image.now p.right.number) r.left r.right r.count

abbrev pub first_null : Pair → Rows → ℕ
first_null p r = first_unequal (same_mask p.left.image.now p.left.number p.right.image.now p.right.number) r.left r.right r.count

-- the number of the first pair of Boolean rows that are not the same
abbrev pub first_boolean : Pair → Rows → ℕ
first_boolean p r = first_unequal (same_row (boolean_row p.left.image.now p.left.number) (boolean_row p.right.image.now p.right.number)) r.left r.right r.count

pub record FewRows (r : Rows) : Type 0 where
  pub left : r.left + r.count < 2 ^ 34
  pub right : r.right + r.count < 2 ^ 34

-- texts or lists are equally long
abbrev pub same_spans : Pair → Rows → Bool
same_spans p r = all (same_span p.left.image.now p.left.number p.right.image.now p.right.number) r.left r.right r.count

-- the offsets of a node, looked at from element i on
abbrev pub offsets_from : Node → ℕ → Offsets
offsets_from v i = record { bytes = v.image; place = buffer_place v.image.now v.number 0; first = i; base = element_at v.image.now v.number i }

-- n offsets of w bytes from the one numbered k on stand equally far above the first
abbrev pub same_distances : ℕ → Offsets → Offsets → ℕ → ℕ → Bool
same_distances w x y k n = all (same_distance x.bytes.now x.place y.bytes.now y.place w x.base y.base) (x.first + k) (y.first + k) n

abbrev pub AboveOf : ℕ → Offsets → ℕ → ℕ → Type 0
AboveOf w x k n = Above x.bytes.now x.place w x.base (x.first + k) n

-- the bits of a node's first buffer from bit i on
abbrev pub bits_from : Node → ℕ → Bits
bits_from v i = record { bytes = v.image; place = buffer_place v.image.now v.number 0; first = i }

-- bits from bit k on, and the number of the first of n pairs of bits that are not the same
abbrev pub from_bit : Bits → ℕ → Bits
from_bit x k = record { bytes = x.bytes; place = x.place; first = x.first + k }

abbrev pub first_unequal_in : Bits → Bits → ℕ → ℕ
first_unequal_in x y n = first_unequal (same_bit x.bytes.now x.place y.bytes.now y.place) x.first y.first n

-- bit k is near enough that its place does not wrap
pub record Near (x : Bits) (k : ℕ) : Type 0 where
  pub place : x.place < 2 ^ 32
  pub few : x.first + k < 2 ^ 35

-- n bytes from the byte of bit k on lie inside
abbrev pub Inside : Bits → ℕ → ℕ → Type 0
Inside x k n = x.place + (x.first + k) / 8 + n ≤ length x.bytes.now

-- the bits of a node's bitmap from row i on, where it has one
pub record BitsOf (v : Node) (i : ℕ) (x : Bits) : Type 0 where
  pub is_there : has_bitmap v.image.now v.number ≡ true
  pub bytes : x.bytes.now ≡ v.image.now
  pub start : x.place ≡ bitmap_place v.image.now v.number
  pub row : x.first ≡ first_bit v.image.now v.number + i
  pub near : x.place < 2 ^ 32
  pub few : x.first < 2 ^ 32 + i

abbrev pub ValidityOf : Node → ℕ → Option Bits → Type 0
ValidityOf v i None = has_bitmap v.image.now v.number ≡ false
ValidityOf v i (Some x) = BitsOf v i x

-- What the comparison asks of two nodes and ranges of their rows.
abbrev pub SidesOf : Pair → Rows → ℕ → Type 0
SidesOf p r depth = Sides p.left.image.now p.right.image.now p.left.number p.right.number r.left r.right r.count depth

abbrev pub PartsOf : Pair → Rows → ℕ → Type 0
PartsOf p r depth = Parts p.left.image.now p.right.image.now p.left.number p.right.number r.left r.right r.count depth

abbrev pub MaskedOf : Layout → Pair → Rows → Type 0
MaskedOf x p r = Masked x p.left.image.now p.right.image.now p.left.number p.right.number r.left r.right r.count

abbrev pub SpansOf : Pair → Rows → Type 0
SpansOf p r = Spans p.left.image.now p.right.image.now p.left.number p.right.number r.left r.right r.count

abbrev pub BlocksOf : Pair → Rows → Type 0
BlocksOf p r = Blocks p.left.image.now p.right.image.now p.left.number p.right.number r.left r.right r.count

abbrev pub SameEndsOf : Pair → Rows → Type 0
SameEndsOf p r = SameEnds p.left.image.now p.right.image.now p.left.number p.right.number r.left r.right r.count

abbrev pub RunPartsOf : Pair → Rows → ℕ → ℕ → Type 0
RunPartsOf p r i j = RunParts p.left.image.now p.right.image.now p.left.number p.right.number r.left r.right r.count i j

-- the same of elements of a layout
pub record PartsIn (x : Layout) (p : Pair) (r : Rows) (depth : ℕ) : Type 0 where
  pub parts : PartsOf p r depth
  pub layout : layout_of (code_of p.left.image.now p.left.number) ≡ x

-- where their runs end together, in so many runs
pub record TogetherIn (p : Pair) (r : Rows) (i j m : ℕ) : Type 0 where
  pub some : 0 < m
  pub together : Together p.left.image.now p.right.image.now p.left.number p.right.number r.left r.right r.count i j (m - 1)

abbrev pub TogetherOf : Pair → Rows → ℕ → ℕ → Option ℕ → Type 0
TogetherOf p r i j None = Unit {0}
TogetherOf p r i j (Some m) = TogetherIn p r i j m

-- the elements of two nodes are equally wide, and not too wide; how wide they are, and where those of row 0 start
pub record OneWidth (p : Pair) : Type 0 where
  pub small : element_width p.left.image.now p.left.number < 2 ^ 32
  pub same : element_width p.left.image.now p.left.number ≡ element_width p.right.image.now p.right.number

abbrev pub ColumnsOf : Pair → Columns → Type 0
ColumnsOf p v = ColumnsAt p.left.image.now p.right.image.now p.left.number p.right.number v

-- what is read once of two nodes whose rows are compared one pair at a time
abbrev pub LeavesRead : Pair → Leaves → Type 0
LeavesRead p (FixedLeaves v) = LeafPair FixedWidth p.left.image.now p.right.image.now p.left.number p.right.number v.width v.left v.width v.right
LeavesRead p (TextLeaves u v x y) = TextPair p.left.image.now p.right.image.now p.left.number p.right.number u v x y

abbrev pub LeavesOf : Pair → Option Leaves → Type 0
LeavesOf p None = Unit {0}
LeavesOf p (Some v) = LeavesRead p v

-- the children that a type id of the left names, at one place among the children of each
pub record NamedPair (p : Pair) (id : ℕ) (r : Pair) : Type 0 where
  pub within : child_with_id p.left.image.now p.left.number id < child_end p.left.image.now p.left.number
  pub same : r ≡ children p (child_with_id p.left.image.now p.left.number id - first_child p.left.image.now p.left.number)

-- those that the type ids at places x and y name, where the ids are the same and name any
pub record NamedBoth (p : Pair) (x y : ℕ) (r : Pair) : Type 0 where
  pub ids : byte_at p.left.image.now x ≡ byte_at p.right.image.now y
  pub named : NamedPair p (byte_at p.left.image.now x) r

abbrev pub NamedAt : Pair → ℕ → ℕ → Option Pair → Type 0
NamedAt p x y None = byte_at p.left.image.now x ≡ byte_at p.right.image.now y → child_with_id p.left.image.now p.left.number (byte_at p.left.image.now x) ≡ child_end p.left.image.now p.left.number
NamedAt p x y (Some r) = NamedBoth p x y r
