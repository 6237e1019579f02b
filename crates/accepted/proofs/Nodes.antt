-- The nodes of an accepted image, parts of their elements, and what is read of them.
-- Each law is a field of what acceptance gives, at the node or at the row that reads an element.
use mathlib.Core.Path.{◌≡◌, sym, ◌∙◌}
use mathlib.Core.Bool.{true}
use mathlib.Core.List.{List}
use Prim.Native.Nat.{ℕ, ◌+◌, ◌*◌, ◌-◌, ◌<◌, ◌≤◌}
use native.Mathlib.Omega.{arith}
use native.Mathlib.Nat.{add-mul, mul-le-mul_right}
use lib.ListN.{length}
use Rattle.image.specs.declared.type_code.Layout.{Layout}
use Rattle.image.specs.Bytes.{byte_at, number_at}
use Rattle.image.specs.Record.{node_count, length_of, offset_of, first_child, child_count, elements_of, buffer_count, buffer_place, buffer_length}
use Rattle.image.specs.Element.{valid, child_end, element_width, element_place, element_at, size_at, type_id_at, dense_offset_at}
use Rattle.image.specs.Reads.{Read, Nth}
use Rattle.laws.specs.Accepted.{AcceptedImage, Node}
use Rattle.accepted.specs.Parts.{Side, Part}

-- a child is a node
pub child_node : (s : List ℕ) (k c : ℕ) → AcceptedImage s → k < node_count s → c < child_count s k → first_child s k + c < node_count s
unfolding child_end
child_node s k c image node lt = omega (arith, (image.node k node).tree.ends)

-- the first child is a node
pub first_child_node : (s : List ℕ) (k : ℕ) → AcceptedImage s → k < node_count s → 0 < child_count s k → first_child s k < node_count s
unfolding child_end
first_child_node s k image node some = omega (arith, (image.node k node).tree.ends)

-- a node has few elements, and so few rows
pub length_small : (s : List ℕ) (k : ℕ) → AcceptedImage s → k < node_count s → length_of s k ≤ 1073741824
unfolding elements_of
length_small s k image node = omega (arith, (image.node k node).buffers.small)

-- the layout as it is read: x is that of an arm
pub layout_is : {l m x : Layout} → l ≡ m → x ≡ l → m ≡ x
layout_is el ex = sym el ∙ sym ex

-- Element j of a buffer, as it is read: an offset or a key, a list view's size, a union's id, a dense union's offset.
pub element_read : (s : List ℕ) (k j : ℕ) {w p bits r : ℕ} → w ≡ element_width s k → Read (buffer_place s k 0) 32 p → Read (number_at w s (p + j * w)) bits r → r ≡ element_at s k j
unfolding element_at element_place
element_read s k j ew ep er = rw (← ew, ← ep.value) er.value

pub size_read : (s : List ℕ) (k j : ℕ) {w p bits r : ℕ} → w ≡ element_width s k → Read (buffer_place s k 1) 32 p → Read (number_at w s (p + j * w)) bits r → r ≡ size_at s k j
unfolding size_at
size_read s k j ew ep er = rw (← ew, ← ep.value) er.value

pub id_read : (s : List ℕ) (k j : ℕ) {p x : ℕ} → Read (buffer_place s k 0) 32 p → Read (byte_at s (p + j)) 8 x → x ≡ type_id_at s k j
unfolding type_id_at
id_read s k j ep ex = rw (← ep.value) ex.value

pub dense_offset_read : (s : List ℕ) (k j : ℕ) {p bits x : ℕ} → Read (buffer_place s k 1) 32 p → Read (number_at 4 s (p + j * 4)) bits x → x ≡ dense_offset_at s k j
unfolding dense_offset_at
dense_offset_read s k j ep ex = rw (← ep.value) ex.value

module _ {s : List ℕ} {k j n : ℕ} (r : Part s k j n) where
  pub part_node : Node s k
  part_node = r.image.node k r.node

  pub part_small : j + n ≤ 1073741824
  part_small = omega (arith, r.high, part_node.buffers.small)

  -- where element h of the part is read
  pub part_nth : (h : ℕ) → h ≤ n → {x p w : ℕ} → Read x 32 p → w ≤ 8 → Nth p w (j + h)
  part_nth h le place narrow = record { near = omega (arith, place.small); narrow = narrow; few = omega (arith, part_small) }

  -- the part's offsets and the one behind them lie inside, where the first buffer holds one more than there are elements
  pub part_offsets : 0 < buffer_count s k → (elements_of s k + 1) * element_width s k ≤ buffer_length s k 0 → element_place s k j + (n + 1) * element_width s k ≤ length s
  unfolding element_place
  part_offsets some enough =
      let inside : buffer_place s k 0 + buffer_length s k 0 ≤ length s = part_node.buffers.inside 0 some in
      let all : (j + (n + 1)) * element_width s k ≤ (elements_of s k + 1) * element_width s k = mul-le-mul_right (element_width s k) (omega (arith, r.high)) in
      let e : (j + (n + 1)) * element_width s k ≡ j * element_width s k + (n + 1) * element_width s k = add-mul j (n + 1) (element_width s k) in
      omega arith

  -- m elements of the part from element h on, as a part
  pub part_inside : (h m : ℕ) → h + m ≤ n → Part s k (j + h) m
  part_inside h m le = record {
    image = r.image;
    node = r.node;
    low = omega (arith, r.low);
    high = omega (arith, r.high);
    not_null = λ i from below. r.not_null i (omega arith) (omega arith);
  }

  -- element h of the part
  pub part_at_lem : (h : ℕ) → h < n → Part s k (j + h) 1
  part_at_lem h lt = part_inside h 1 (omega arith)

-- what holds of the element of each row that is not null holds of an element of a part
pub part_row : {s : List ℕ} {k j : ℕ} → Part s k j 1 → (P : ℕ → Type 0) → ((i : ℕ) → i < length_of s k → valid s k i ≡ true → P (offset_of s k + i)) → P j
unfolding elements_of
part_row {s} {k} {j} r P f =
    let e : offset_of s k + (j - offset_of s k) ≡ j = omega (arith, r.low) in
    rw e at (f (j - offset_of s k) (omega (arith, r.low, r.high)) (r.not_null (j - offset_of s k) (omega (arith, r.low)) (omega (arith, r.low))))

-- the element of a row that is not null, as a part
pub side_part : {s : List ℕ} {k i : ℕ} → Side s k i 1 → valid s k i ≡ true → Part s k (offset_of s k + i) 1
unfolding elements_of
side_part {s} {k} {i} r is = record {
  image = r.image;
  node = r.node;
  low = omega arith;
  high = omega (arith, r.rows);
  not_null = λ x low high.
      let e : i ≡ x = omega arith in
      rw e at is;
}

-- rows of an accepted node are few
pub side_small : (s : List ℕ) (k i n : ℕ) → Side s k i n → offset_of s k + i + n ≤ 1073741824
unfolding elements_of
side_small s k i n r = omega (arith, r.rows, (r.image.node k r.node).buffers.small)
