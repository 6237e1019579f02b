-- The value at an element of an accepted image has its bytes inside the image, and its child rows are rows of nodes.
-- Acceptance gives it for each layout: the element of a row that is not null names only what is there.
use mathlib.Core.Path.{◌≡◌, refl, sym, ap}
use mathlib.Core.Bool.{Bool, true, false}
use mathlib.Core.List.{List, []}
use Prim.Native.Nat.{ℕ, suc, ◌+◌, ◌*◌, ◌-◌, ◌≤◌, ◌<◌, ◌^◌}
use native.Mathlib.Nat.{one-mul}
use native.Mathlib.Numerals.{add-one}
use native.Mathlib.Omega.{arith}
use lib.Dec.{leb, ltb}
use lib.ListN.{length, take, drop}
use borrow.Author.Tests.{lt-ltb, le-ltb, leb-true, leb-false}
use Rattle.image.specs.declared.type_code.Layout.{Layout}
use Rattle.image.specs.declared.type_code.Layout.TheVariants.{Null, Boolean, FixedWidth, VariableSize, View, List as Lists, ListView, FixedList, Struct, DenseUnion, SparseUnion, Dictionary, Runs}
use Rattle.image.specs.declared.type_code.Count.TheVariants.{Exactly}
use Rattle.image.specs.Record.{record_place, entry_place, node_count, code_of, length_of, first_child, child_count, first_buffer, buffer_place}
use Rattle.image.specs.TypeCode.{layout_of, child_rule}
use Rattle.image.specs.Element.{element_width, element_place, element_at, variable_text, type_id_at, child_end, child_with_id, view_length, view_data, run_at}
use Rattle.laws.specs.Accepted.{AcceptedImage, IdKnown}
use Rattle.accepted.specs.Parts.{Side, Part, Elements, Viewed}
use Rattle.accepted.proofs.Nodes.{child_node, first_child_node, part_node}
use Rattle.accepted.proofs.Fixed.{spanned, spanned_small}
use Rattle.accepted.proofs.Texts.{text_rises, text_inside}
use Rattle.accepted.proofs.Views.{shown_short, shown_long, viewed, view_place_lem}
use Rattle.accepted.proofs.ChildRows.{fixed_list_within, key_below, dense_known, dense_within, sparse_known, sparse_within}
use Rattle.accepted.proofs.RunEnds.{run_first, runs_cover}
use Rattle.std.specs.Prelude.{Option, Some, None, ⊤}
use Rattle.image.specs.Bytes.{bytes_at}
use Rattle.image.proofs.Slices.{bytes_taken}
use Rattle.laws.proofs.Lengths.{bytes_length}
use Rattle.rows.specs.declared.value.ChildRows.{ChildRows}
use Rattle.rows.specs.Value.{Content, leaf_value, nested_value}
use Rattle.rows.specs.ValueOf.{byte_value, union_value, value_of}

-- child rows are rows of nodes
pub record PlacedRows (s : List ℕ) (v : ChildRows) : Type 0 where
  pub parts : (c : ℕ) → c < v.parts → Side s (v.child + c) v.start v.count
  pub few : v.child + v.parts ≤ 65536

abbrev pub RowsPlaced : List ℕ → Option ChildRows → Type 0
RowsPlaced s None = ⊤
RowsPlaced s (Some v) = PlacedRows s v

-- bytes that stand in the image, from a place on, and lie inside
pub record Inside (s bytes : List ℕ) : Type 0 where
  pub place : ℕ
  pub stand : bytes ≡ bytes_at s place (length bytes)
  pub within : place + length bytes ≤ length s

-- the number in front takes at most four bytes, the bytes lie inside, and the child rows are rows of nodes
pub record Placed (s : List ℕ) (v : Content) : Type 0 where
  pub narrow : v.width ≤ 4
  pub inside : Inside s v.bytes
  pub rows : RowsPlaced s v.rows

-- bytes
leaf_placed : {s : List ℕ} (head width : ℕ) {bytes : List ℕ} → width ≤ 4 → Inside s bytes → Placed s (leaf_value head width bytes)
leaf_placed head width narrow inside = record { narrow = narrow; inside = inside; rows = tt }

-- those of the image from a place on, and none
within : (s : List ℕ) (place size : ℕ) → place + size ≤ length s → Inside s (bytes_at s place size)
within s place size inside = record { place = place; stand = ap (bytes_at s place) (sym (bytes_length s place size)); within = omega (arith, inside, bytes_length s place size) }

none_within : (s : List ℕ) → Inside s []
unfolding bytes_at
none_within s = record { place = 0; stand = refl; within = omega arith }

-- child rows
nested_placed : {s : List ℕ} (head width child parts start count : ℕ) → AcceptedImage s → width ≤ 4
    → child + parts ≤ node_count s → ((c : ℕ) → c < parts → start + count ≤ length_of s (child + c)) → Placed s (nested_value head width child parts start count)
nested_placed {s} head width child parts start count image narrow nodes rows = record {
  narrow = narrow;
  inside = none_within s;
  rows = record {
    parts = λ c lt. record { image = image; node = omega arith; rows = rows c lt };
    few = omega (arith, image.tables.few_nodes);
  };
}

-- rows of one child
child_placed : {s : List ℕ} (head width child start count : ℕ) → AcceptedImage s → width ≤ 4 → child < node_count s → start + count ≤ length_of s child → Placed s (nested_value head width child 1 start count)
child_placed {s} head width child start count image narrow node rows =
    nested_placed head width child 1 start count image narrow (omega arith)
    (λ c lt.
    let first : child + c ≡ child = omega arith in
    rw first rows)

-- a union's value, where the id was found and where it was not
pub union_known : (s : List ℕ) (k id i : ℕ) {c : ℕ} → c ≡ child_with_id s k id → c < child_end s k → nested_value id 1 c 1 i 1 ≡ union_value s k id i
union_known s k id i e lt = rw (← e, lt-ltb _ _ lt)

pub union_unknown : (s : List ℕ) (k id i : ℕ) → child_with_id s k id ≡ child_end s k → byte_value id ≡ union_value s k id i
union_unknown s k id i e =
    let none : ltb (child_with_id s k id) (child_end s k) ≡ false = le-ltb _ _ (omega (arith, e)) in
    rw none

-- the bytes of a view lie inside
shown_inside : {s : List ℕ} {k e v : ℕ} → Viewed s k e v → (b : Bool) → leb (view_length s v) 12 ≡ b → view_data s k v + view_length s v ≤ length s
shown_inside {s} {v = v} r true short =
    let at = shown_short r (leb-true (view_length s v) 12 short) in
    omega (arith, at.place, at.inside)
shown_inside {s} {v = v} r false long =
    let at = shown_long r (leb-false (view_length s v) 12 long) refl refl refl in
    omega (arith, at.place, at.inside)

module _ {s : List ℕ} {k j : ℕ} (r : Part s k j 1) where
  -- the child of a node of one child
  only_child : child_rule (layout_of (code_of s k)) ≡ Exactly 1 → first_child s k < node_count s
  only_child rule =
      let one : child_count s k ≡ 1 = (part_node r).tree.exactly 1 rule in
      first_child_node s k r.image r.node (omega arith)

  -- an element of fixed width
  module _ (widths : layout_of (code_of s k) ≡ FixedWidth) where
    element : Elements s k j 1
    element = record { image = r.image; node = r.node; fixed = widths; high = r.high }

    fixed_inside : element_place s k j + element_width s k ≤ length s
    unfolding element_place
    fixed_inside = rw one-mul at (spanned s k j 1 _ _ element refl refl).inside

    pub fixed_lent : {w p : ℕ} → w ≡ element_width s k → p ≡ buffer_place s k 0 → p + j * w + w ≤ length s
    unfolding element_place
    fixed_lent ew ep = rw (ew, ep) fixed_inside

    pub fixed_small : {w p : ℕ} → w ≡ element_width s k → p ≡ buffer_place s k 0 → p + j * w + w ≤ 16777216
    fixed_small {w} {p} ew ep = rw one-mul at (spanned_small s k j 1 w p element ew ep)

  -- a text's offsets
  module _ (text : layout_of (code_of s k) ≡ VariableSize) where
    pub text_up : element_at s k j ≤ element_at s k (suc j)
    text_up = (text_rises s k j 1 r text).rise j (omega (arith, r.high))

    text_ends : buffer_place s k 1 + element_at s k (suc j) ≤ length s
    text_ends = rw add-one at (text_inside s k j 1 r text)

    -- as they are read
    module _ {p x y : ℕ} (ep : p ≡ buffer_place s k 1) (ex : x ≡ element_at s k j) (ey : y ≡ element_at s k (suc j)) where
      pub text_bounds : (x ≤ y) × (p + y ≤ length s)
      text_bounds = (omega (arith, ex, ey, text_up), omega (arith, ep, ey, text_ends))

      pub text_lent : take (p + y - (p + x)) (drop (p + x) s) ≡ variable_text s k j
      text_lent =
          let size : p + y - (p + x) ≡ y - x = omega arith in
          rw (size, ← ep, ← ex, ← ey) (bytes_taken s (p + x) (y - x) (omega (arith, text_bounds)))

  -- a list's offsets
  module _ (lists : layout_of (code_of s k) ≡ Lists) where
    pub list_rises : element_at s k j ≤ element_at s k (suc j)
    list_rises = ((part_node r).places.lists lists).rise j (omega (arith, r.high))

    list_ends : element_at s k (suc j) ≤ length_of s (first_child s k)
    list_ends = ((part_node r).places.lists lists).within (suc j) (omega (arith, r.high))

  -- the row of a union whose id is known
  union_placed : (i : ℕ) → IdKnown s k j → i < length_of s (child_with_id s k (type_id_at s k j)) → Placed s (union_value s k (type_id_at s k j) i)
  union_placed i known within =
      rw (lt-ltb _ _ known.high)
      (child_placed (type_id_at s k j) 1 (child_with_id s k (type_id_at s k j)) i 1 r.image (omega arith) (omega (arith, known.high, (part_node r).tree.ends)) (omega arith))

  -- where the entries of the node's buffers start
  entries_small : entry_place s (first_buffer s k + 0) < 2 ^ 40
  unfolding entry_place record_place
  entries_small = omega (arith, (part_node r).buffers.ends, r.image.tables.few_nodes, r.image.tables.few_buffers)

  -- the bytes of a view, the rows of a Struct's children and of a run's values
  pub view_inside : layout_of (code_of s k) ≡ View → view_data s k (element_place s k j) + view_length s (element_place s k j) ≤ length s
  view_inside views = shown_inside (rw (view_place_lem r views {p = buffer_place s k 0} refl) at (viewed r views refl (record { value = refl; small = entries_small }))) _ refl

  struct_placed : layout_of (code_of s k) ≡ Struct → Placed s (value_of Struct s k j)
  unfolding child_end
  struct_placed struct =
      nested_placed 0 0 (first_child s k) (child_count s k) j 1 r.image (omega arith) (part_node r).tree.ends
      (λ c lt. omega (arith, r.high, (part_node r).children.struct struct (first_child s k + c) (omega arith) (omega arith)))

  run_placed : layout_of (code_of s k) ≡ Runs → Placed s (value_of Runs s k j)
  run_placed runs =
      let two : child_count s k ≡ 2 = (part_node r).tree.exactly 2 (rw runs) in
      let part = run_first r runs (omega arith) in
      child_placed 0 0 (first_child s k + 1) (run_at s k j) 1 r.image (omega arith) (child_node s k 1 r.image r.node (omega arith)) (omega (arith, (runs_cover part).value j part.element))

  by_layout : (x : Layout) → layout_of (code_of s k) ≡ x → Placed s (value_of x s k j)
  by_layout Null e = leaf_placed 0 0 (omega arith) (none_within s)
  by_layout Boolean e = leaf_placed _ 1 (omega arith) (none_within s)
  by_layout FixedWidth e = leaf_placed 0 0 (omega arith) (within s _ _ (fixed_inside e))
  by_layout VariableSize e = leaf_placed _ 4 (omega arith) (within s _ _ (omega (arith, text_up e, text_ends e)))
  by_layout View e = leaf_placed _ 4 (omega arith) (within s _ _ (view_inside e))
  by_layout Lists e = child_placed _ 4 _ _ _ r.image (omega arith) (only_child (rw e)) (omega (arith, list_rises e, list_ends e))
  by_layout ListView e = child_placed _ 4 _ _ _ r.image (omega arith) (only_child (rw e)) ((part_node r).places.list_view e j (omega (arith, r.high)))
  by_layout FixedList e = child_placed 0 0 _ _ _ r.image (omega arith) (only_child (rw e)) (rw one-mul at (fixed_list_within r e))
  by_layout Struct e = struct_placed e
  by_layout DenseUnion e = union_placed _ (dense_known r e) (dense_within r e)
  by_layout SparseUnion e = union_placed j (sparse_known r e) (sparse_within r e)
  by_layout Dictionary e = child_placed 0 0 _ _ 1 r.image (omega arith) (only_child (rw e)) (omega (arith, key_below r e))
  by_layout Runs e = run_placed e

  pub value_placed : Placed s (value_of (layout_of (code_of s k)) s k j)
  value_placed = by_layout (layout_of (code_of s k)) refl
