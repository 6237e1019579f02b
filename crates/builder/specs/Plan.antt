-- How long the nodes of a built image are, how many bytes each part takes, and where each part stands: from the row count of
-- the root, and from how far the offsets of each node go on in all (its span).
use Rattle.std.specs.Prelude.{◌≡◌, Bool, cond, ◌||◌, List, ℕ, ◌+◌, ◌*◌, ◌/◌, ◌%◌, ◌<◌, ◌≤◌, get_or, eqb, ltb, Option, Some, None, Result, Ok, Err}
use Rattle.image.specs.declared.type_code.Layout.{Layout}
use Rattle.image.specs.declared.type_code.Layout.TheVariants.{Null, Boolean, FixedWidth, VariableSize, View, List as Lists, ListView, FixedList, Struct, DenseUnion, SparseUnion, Dictionary, Runs}
use Rattle.image.specs.Ranges.{any, sum_to}
use Rattle.image.specs.Record.{longest_image, most_elements, node_count, code_of, first_child, child_count}
use Rattle.image.specs.TypeCode.{layout_of, takes_bitmap}
use Rattle.image.specs.Element.{element_width}
use Rattle.image.specs.Built.{name_start}
use Rattle.answers.specs.declared.BuildRefusal.{BuildRefusal}
use Rattle.answers.specs.declared.BuildRefusal.TheVariants.{TooLong}

-- how many rows each child of node p has: as many as a Struct, or as a list's offsets go on
unfoldable pub child_rows : List ℕ → List ℕ → List ℕ → ℕ → ℕ
child_rows s lengths spans p = cond (eqb (code_of s p) 38) (get_or lengths p 0) (get_or spans p 0)

-- the lengths of the nodes, those of the children of the nodes below k
pub record LengthsTo (s : List ℕ) (count : ℕ) (spans lengths : List ℕ) (k : ℕ) : Type 0 where
  pub root : get_or lengths 0 0 ≡ count
  pub child : (p i : ℕ) → p < k → i < child_count s p → get_or lengths (first_child s p + i) 0 ≡ child_rows s lengths spans p

-- the lengths of all nodes
abbrev pub Lengths : List ℕ → ℕ → List ℕ → List ℕ → Type 0
Lengths s count spans lengths = LengthsTo s count spans lengths (node_count s)

-- the bytes that so many bits take
abbrev pub bit_bytes : ℕ → ℕ
bit_bytes n = (n + 7) / 8

-- the bytes of the bitmap of n rows
unfoldable pub bitmap_size : Layout → ℕ → ℕ
bitmap_size l n = cond (takes_bitmap l) (bit_bytes n) 0

-- the bytes of the first buffer of n rows, where an element is w bytes wide
abbrev pub first_size : Layout → ℕ → ℕ → ℕ
first_size Null w n = 0
first_size Boolean w n = bit_bytes n
first_size FixedWidth w n = n * w
first_size VariableSize w n = (n + 1) * w
first_size View w n = 0
first_size Lists w n = (n + 1) * w
first_size ListView w n = 0
first_size FixedList w n = 0
first_size Struct w n = 0
first_size DenseUnion w n = 0
first_size SparseUnion w n = 0
first_size Dictionary w n = 0
first_size Runs w n = 0

-- the bytes of the second buffer: of texts
abbrev pub second_size : Layout → ℕ → ℕ
second_size Null span = 0
second_size Boolean span = 0
second_size FixedWidth span = 0
second_size VariableSize span = span
second_size View span = 0
second_size Lists span = 0
second_size ListView span = 0
second_size FixedList span = 0
second_size Struct span = 0
second_size DenseUnion span = 0
second_size SparseUnion span = 0
second_size Dictionary span = 0
second_size Runs span = 0

-- the bytes of part i of a node: its bitmap, its first buffer, its second
unfoldable pub size_of : Layout → ℕ → ℕ → ℕ → ℕ → ℕ
size_of l w n span i = cond (eqb i 0) (bitmap_size l n) (cond (eqb i 1) (first_size l w n) (second_size l span))

-- the bytes of part q of all: of node q / 3 the part q % 3
unfoldable pub part_size : List ℕ → List ℕ → List ℕ → ℕ → ℕ
part_size s lengths spans q = size_of (layout_of (code_of s (q / 3))) (element_width s (q / 3)) (get_or lengths (q / 3) 0) (get_or spans (q / 3) 0) (q % 3)

-- where part q stands
unfoldable pub place_of : List ℕ → List ℕ → List ℕ → ℕ → ℕ
place_of s lengths spans q = name_start s (node_count s) + sum_to (part_size s lengths spans) q

-- the places of the parts before part q, and of part q
pub record PlacesTo (s lengths spans places : List ℕ) (q : ℕ) : Type 0 where
  pub place : (i : ℕ) → i ≤ q → get_or places i 0 ≡ place_of s lengths spans i

-- the places of all parts, and the image's end
abbrev pub Places : List ℕ → List ℕ → List ℕ → List ℕ → Type 0
Places s lengths spans places = PlacesTo s lengths spans places (3 * node_count s)

-- "a node would have more than 1,073,741,824 rows"
unfoldable pub too_many : List ℕ → ℕ → Bool
too_many lengths k = ltb most_elements (get_or lengths k 0)

-- "43 where the image is longer than the buffer or the maximum, or a node would have more than 1,073,741,824 rows"
unfoldable pub plan_answer : List ℕ → List ℕ → List ℕ → ℕ → Option ℕ
plan_answer s lengths spans room =
    let size = place_of s lengths spans (3 * node_count s) in
    cond (ltb room size || ltb longest_image size || any (too_many lengths) 0 (node_count s)) None (Some size)

-- what a plan answers, and the places that it gives where the image is not too long
pub record PlanOf (s lengths spans : List ℕ) (room : ℕ) (places : List ℕ) (r : Option ℕ) : Type 0 where
  pub answer : r ≡ plan_answer s lengths spans room
  pub table : (n : ℕ) → r ≡ Some n → Places s lengths spans places

-- the answer of the call that a plan stands for
abbrev pub built_of : Option ℕ → Result ℕ BuildRefusal
built_of (Some n) = Ok n
built_of None = Err TooLong
