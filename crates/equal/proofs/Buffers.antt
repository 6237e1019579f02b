-- Numbers of a node's buffers, as the loops over rows read them.
-- The bytes are the image's, the place is the buffer's.
use mathlib.Core.Path.{◌≡◌}
use Prim.Native.Nat.{ℕ, ◌+◌, ◌*◌}
use Rattle.image.specs.declared.bytes.Numbers.{Numbers}
use Rattle.image.specs.declared.record.Node.{Node}
use Rattle.image.specs.Bytes.{number_at}
use Rattle.image.specs.Reads.{Read}
use Rattle.image.specs.Record.{buffer_place}
use Rattle.image.specs.Element.{element_width, element_at, size_at, dense_offset_at}
use Rattle.accepted.proofs.Nodes.{element_read, size_read, dense_offset_read}

module _ (node : Node) (v : Numbers) (j : ℕ) {bits r : ℕ} where
  pub element_from : v.width ≡ element_width node.image.now node.number → v.bytes ≡ node.image → Read (buffer_place node.image.now node.number 0) 32 v.place
      → Read (number_at v.width v.bytes.now (v.place + j * v.width)) bits r → r ≡ element_at node.image.now node.number j
  element_from ew eb ep er = element_read _ _ j ew ep (rw eb at er)

  pub size_from : v.width ≡ element_width node.image.now node.number → v.bytes ≡ node.image → Read (buffer_place node.image.now node.number 1) 32 v.place
      → Read (number_at v.width v.bytes.now (v.place + j * v.width)) bits r → r ≡ size_at node.image.now node.number j
  size_from ew eb ep er = size_read _ _ j ew ep (rw eb at er)

  pub dense_from : v.width ≡ 4 → v.bytes ≡ node.image → Read (buffer_place node.image.now node.number 1) 32 v.place
      → Read (number_at v.width v.bytes.now (v.place + j * v.width)) bits r → r ≡ dense_offset_at node.image.now node.number j
  dense_from ew eb ep er = dense_offset_read _ _ j ep (rw (eb, ew) at er)
