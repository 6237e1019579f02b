-- Rows and elements of a node of an accepted image: what readers and engines that go by acceptance ask of their callers,
-- and where what they name stands.
use Rattle.std.specs.Prelude.{◌≡◌, true, List, ℕ, ◌+◌, ◌*◌, ◌≤◌, ◌<◌, length}
use Rattle.image.specs.declared.type_code.Layout.TheVariants.{FixedWidth, Runs}
use Rattle.image.specs.Record.{node_count, code_of, length_of, offset_of, elements_of, entry_place, first_buffer, buffer_place}
use Rattle.image.specs.TypeCode.{layout_of}
use Rattle.image.specs.Element.{valid, element_width, element_place, view_length, view_data}
use Rattle.laws.specs.Accepted.{Tables, Buffers, AcceptedImage, ViewInside}

-- n rows from row i on of a node of an accepted image
pub record Side (s : List ℕ) (k i n : ℕ) : Type 0 where
  pub image : AcceptedImage s
  pub node : k < node_count s
  pub rows : i + n ≤ length_of s k

-- n elements from element j on of a node of an accepted image, each read by a row that is not null
pub record Part (s : List ℕ) (k j n : ℕ) : Type 0 where
  pub image : AcceptedImage s
  pub node : k < node_count s
  pub low : offset_of s k ≤ j
  pub high : j + n ≤ elements_of s k
  pub not_null : (i : ℕ) → j ≤ offset_of s k + i → offset_of s k + i < j + n → valid s k i ≡ true

-- n elements from element j on of a fixed-width node of an accepted image
pub record Elements (s : List ℕ) (k j n : ℕ) : Type 0 where
  pub image : AcceptedImage s
  pub node : k < node_count s
  pub fixed : layout_of (code_of s k) ≡ FixedWidth
  pub high : j + n ≤ elements_of s k

-- where they stand
pub record Spanned (s : List ℕ) (k j n at len : ℕ) : Type 0 where
  pub place : at ≡ element_place s k j
  pub size : len ≡ n * element_width s k
  pub inside : at + len ≤ length s

-- the view at v of a node, of a row that is not null, where the image has none of the faults up to 18; the entries of the
-- node's buffers start at e
pub record Viewed (s : List ℕ) (k e v : ℕ) : Type 0 where
  pub tables : Tables s
  pub buffers : Buffers s k
  pub entries : e ≡ entry_place s (first_buffer s k)
  pub fits : v + 16 ≤ length s
  pub view : ViewInside s k v

-- where the view of row i stands
abbrev pub view_place : List ℕ → ℕ → ℕ → ℕ
view_place s k i = buffer_place s k 0 + (offset_of s k + i) * 16

-- row i, a view, of which the same is known
pub record ViewRow (s : List ℕ) (k i : ℕ) : Type 0 where
  pub tables : Tables s
  pub buffers : Buffers s k
  pub fits : view_place s k i + 16 ≤ length s
  pub view : ViewInside s k (view_place s k i)

-- where the view of row 0 stands, and where the entries of the node's buffers start
pub record ViewsRead (s : List ℕ) (k first e : ℕ) : Type 0 where
  pub start : first ≡ buffer_place s k 0 + offset_of s k * 16
  pub entries : e ≡ entry_place s (first_buffer s k)

-- where a view's bytes stand
pub record ViewBytes (s : List ℕ) (k v at : ℕ) : Type 0 where
  pub place : at ≡ view_data s k v
  pub inside : at + view_length s v ≤ length s

-- an element of a run node of an accepted image
pub record RunPart (s : List ℕ) (k j : ℕ) : Type 0 where
  pub image : AcceptedImage s
  pub node : k < node_count s
  pub runs : layout_of (code_of s k) ≡ Runs
  pub element : j < elements_of s k
