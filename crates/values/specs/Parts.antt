-- What the comparison of ranges asks of its callers.
use Rattle.std.specs.Prelude.{◌≡◌, true, false, List, ◌⊎◌, ℕ, suc, ◌+◌, ◌-◌, ◌*◌, ◌≤◌, ◌<◌, ◌^◌, length}
use Rattle.image.specs.Bytes.{number_at}
use Rattle.image.specs.Record.{node_count, code_of, p1_of, length_of, offset_of, has_bitmap, first_child, buffer_place}
use Rattle.image.specs.declared.bytes.Numbers.{Numbers}
use Rattle.image.specs.declared.type_code.Layout.{Layout}
use Rattle.image.specs.declared.type_code.Layout.TheVariants.{VariableSize, Runs}
use Rattle.image.specs.TypeCode.{layout_of}
use Rattle.image.specs.Element.{element_width, element_place, element_at, run_end_at, run_at}
use Rattle.laws.specs.Accepted.{AcceptedImage}
use Rattle.laws.specs.Alike.{Alike}
use Rattle.accepted.specs.Parts.{Side, Part, RunPart}
use Rattle.values.specs.declared.leaf.Columns.{Columns}
use Rattle.values.specs.Pairs.{all, same_mask}

-- n rows of each of two nodes that are alike down to the depth
pub record Sides (a b : List ℕ) (k l i j n depth : ℕ) : Type 0 where
  pub left : Side a k i n
  pub right : Side b l j n
  pub alike : Alike depth a b k l

-- n elements of each of two nodes, none of them null, whose children are alike down to the depth
pub record Parts (a b : List ℕ) (k l i j n depth : ℕ) : Type 0 where
  pub left : Part a k i n
  pub right : Part b l j n
  pub alike : Alike (suc depth) a b k l

-- n rows of each of two nodes of a layout and of the same width, whose null masks agree
pub record Masked (x : Layout) (a b : List ℕ) (k l i j n : ℕ) : Type 0 where
  pub left : Side a k i n
  pub right : Side b l j n
  pub layout : layout_of (code_of a k) ≡ x
  pub code : code_of a k ≡ code_of b l
  pub p1 : p1_of a k ≡ p1_of b l
  pub masks : all (same_mask a k b l) i j n ≡ true

-- n offsets and one more of each of two nodes, of 4 or 8 bytes on both sides, rising and inside the image
pub record Spans (a b : List ℕ) (k l i j n : ℕ) : Type 0 where
  pub whole : (element_width a k ≡ 4) ⊎ (element_width a k ≡ 8)
  pub same : element_width a k ≡ element_width b l
  pub left : (h : ℕ) → i ≤ h → h < i + n → element_at a k h ≤ element_at a k (suc h)
  pub right : (h : ℕ) → j ≤ h → h < j + n → element_at b l h ≤ element_at b l (suc h)
  pub left_small : i + n < 2 ^ 34
  pub right_small : j + n < 2 ^ 34
  pub left_inside : element_place a k i + (n + 1) * element_width a k ≤ length a
  pub right_inside : element_place b l j + (n + 1) * element_width b l ≤ length b

-- n numbers of 4 or 8 bytes each from number i on of those from a place on, inside the image and none below x
pub record Above (s : List ℕ) (p w x i n : ℕ) : Type 0 where
  pub whole : (w ≡ 4) ⊎ (w ≡ 8)
  pub inside : p + (i + n) * w ≤ length s
  pub above : (h : ℕ) → i ≤ h → h < i + n → x ≤ number_at w s (p + h * w)

-- m runs from run i on of a run node of an accepted image
pub record RunRange (s : List ℕ) (k i m : ℕ) : Type 0 where
  pub image : AcceptedImage s
  pub node : k < node_count s
  pub runs : layout_of (code_of s k) ≡ Runs
  pub high : i + m ≤ length_of s (first_child s k)

-- the ends of m runs from i and from j on are the same
pub record SameEnds (a b : List ℕ) (k l i j m : ℕ) : Type 0 where
  pub same : (q : ℕ) → q < m → run_end_at a k (i + q) ≡ run_end_at b l (j + q)

-- some elements of each of two run nodes, the first of them in runs i and j
pub record RunParts (a b : List ℕ) (k l s t n i j : ℕ) : Type 0 where
  pub some : 0 < n
  pub left : RunPart a k (s + (n - 1))
  pub right : RunPart b l (t + (n - 1))
  pub left_first : i ≡ run_at a k s
  pub right_first : j ≡ run_at b l t

-- their last elements lie in runs i + m and j + m, and the runs before these end equally far from s and t
pub record Together (a b : List ℕ) (k l s t n i j m : ℕ) : Type 0 where
  pub left_last : i + m ≡ run_at a k (s + (n - 1))
  pub right_last : j + m ≡ run_at b l (t + (n - 1))
  pub ends : (q : ℕ) → q < m → run_end_at a k (i + q) + t ≡ run_end_at b l (j + q) + s

-- n elements of one width of each of two nodes, as blocks of bytes that lie inside
pub record Blocks (a b : List ℕ) (k l i j n : ℕ) : Type 0 where
  pub left : element_place a k i + n * element_width a k ≤ length a
  pub right : element_place b l j + n * element_width b l ≤ length b
  pub width : element_width a k ≡ element_width b l

-- what is read once of two nodes: how wide their elements are, and where those of row 0 start
pub record ColumnsAt (a b : List ℕ) (k l : ℕ) (r : Columns) : Type 0 where
  pub width : r.width ≡ element_width a k
  pub left : r.left ≡ element_place a k (offset_of a k)
  pub right : r.right ≡ element_place b l (offset_of b l)

-- a node without a bitmap whose elements have w bytes, and the element of row 0 starts at p
pub record Leaf (s : List ℕ) (k w p : ℕ) : Type 0 where
  pub whole : has_bitmap s k ≡ false
  pub width : w ≡ element_width s k
  pub place : p ≡ element_place s k (offset_of s k)

-- two of them, of a layout
pub record LeafPair (x : Layout) (a b : List ℕ) (k l w p v q : ℕ) : Type 0 where
  pub layout : layout_of (code_of a k) ≡ x
  pub left : Leaf a k w p
  pub right : Leaf b l v q

-- two of texts, and where their offsets and texts stand
pub record TextPair (a b : List ℕ) (k l : ℕ) (u v : Numbers) (x y : ℕ) : Type 0 where
  pub left_bytes : u.bytes.now ≡ a
  pub right_bytes : v.bytes.now ≡ b
  pub offsets : LeafPair VariableSize a b k l u.width u.place v.width v.place
  pub left : x ≡ buffer_place a k 1
  pub right : y ≡ buffer_place b l 1
