-- The child rows that elements of a part name lie within the child, and a union's id names one of its children.
-- Acceptance says so of the element of each row that is not null; those of fixed-size lists stand one after the other.
use mathlib.Core.Path.{◌≡◌}
use mathlib.Core.List.{List}
use Prim.Native.Nat.{ℕ, ◌+◌, ◌*◌, ◌<◌, ◌≤◌}
use native.Mathlib.Omega.{arith}
use native.Mathlib.Nat.{mul-le-mul_right, add-mul}
use Rattle.image.specs.declared.type_code.Layout.TheVariants.{FixedList, DenseUnion, SparseUnion, Dictionary}
use Rattle.image.specs.Record.{code_of, p1_of, length_of, first_child, child_count, elements_of}
use Rattle.image.specs.TypeCode.{layout_of}
use Rattle.image.specs.Element.{element_at, type_id_at, dense_offset_at, child_with_id}
use Rattle.laws.specs.Accepted.{IdKnown}
use Rattle.accepted.specs.Parts.{Part}
use Rattle.accepted.proofs.Nodes.{length_small, first_child_node, part_node, part_row}

-- the child rows of fixed-size lists
module _ {s : List ℕ} {k j n : ℕ} (r : Part s k j n) (lists : layout_of (code_of s k) ≡ FixedList) where
  pub fixed_list_within : j * p1_of s k + n * p1_of s k ≤ length_of s (first_child s k)
  fixed_list_within =
      let part : (j + n) * p1_of s k ≤ elements_of s k * p1_of s k = mul-le-mul_right (p1_of s k) r.high in
      let e : (j + n) * p1_of s k ≡ j * p1_of s k + n * p1_of s k = add-mul j n (p1_of s k) in
      omega (arith, (part_node r).children.fixed_list lists)

  pub fixed_list_small : j * p1_of s k + n * p1_of s k ≤ 1073741824
  fixed_list_small =
      let one : child_count s k ≡ 1 = (part_node r).tree.exactly 1 (rw lists) in
      omega (arith, fixed_list_within, length_small s (first_child s k) r.image (first_child_node s k r.image r.node (omega arith)))

-- the child row that an element names
module _ {s : List ℕ} {k j : ℕ} (r : Part s k j 1) where
  pub key_below : layout_of (code_of s k) ≡ Dictionary → element_at s k j < length_of s (first_child s k)
  key_below keys = part_row r (λ x. element_at s k x < length_of s (first_child s k)) ((part_node r).rows.key keys)

  pub dense_known : layout_of (code_of s k) ≡ DenseUnion → IdKnown s k j
  dense_known dense = part_row r (IdKnown s k) (λ i lt set. (part_node r).rows.dense dense i lt)

  pub dense_within : layout_of (code_of s k) ≡ DenseUnion → dense_offset_at s k j < length_of s (child_with_id s k (type_id_at s k j))
  dense_within dense = part_row r (λ x. dense_offset_at s k x < length_of s (child_with_id s k (type_id_at s k x))) (λ i lt set. (part_node r).rows.dense_offset dense i lt)

  pub sparse_known : layout_of (code_of s k) ≡ SparseUnion → IdKnown s k j
  sparse_known sparse = part_row r (IdKnown s k) (λ i lt set. (part_node r).rows.sparse sparse i lt)

  pub sparse_within : layout_of (code_of s k) ≡ SparseUnion → j < length_of s (child_with_id s k (type_id_at s k j))
  sparse_within sparse =
      omega (arith, r.high, (part_node r).children.sparse sparse (child_with_id s k (type_id_at s k j)) (sparse_known sparse).low (sparse_known sparse).high)
