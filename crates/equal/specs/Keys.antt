-- The keys of two dictionaries, as they are read.
use Rattle.std.specs.Prelude.{◌≡◌, ℕ, ◌+◌, ◌*◌}
use Rattle.image.specs.Bytes.{number_at}
use Rattle.image.specs.Element.{element_width}
use Rattle.image.specs.Reads.{Read}
use Rattle.image.specs.Record.{buffer_place}
use Rattle.values.specs.declared.pair.Pair.{Pair}
use Rattle.equal.specs.declared.dictionary.Keys.{Keys}

-- where the keys of two nodes stand
pub record KeysOf (p : Pair) (v : Keys) : Type 0 where
  pub left_bytes : v.left.bytes ≡ p.left.image
  pub left_width : v.left.width ≡ element_width p.left.image.now p.left.number
  pub left_place : Read (buffer_place p.left.image.now p.left.number 0) 32 v.left.place
  pub right_bytes : v.right.bytes ≡ p.right.image
  pub right_width : v.right.width ≡ element_width p.left.image.now p.left.number
  pub right_place : Read (buffer_place p.right.image.now p.right.number 0) 32 v.right.place

-- key i of the left and key j of the right
pub record KeyPair (v : Keys) (i j : ℕ) (r : ℕ × ℕ) : Type 0 where
  pub left : Read (number_at v.left.width v.left.bytes.now (v.left.place + i * v.left.width)) (8 * v.left.width) r.0
  pub right : Read (number_at v.right.width v.right.bytes.now (v.right.place + j * v.right.width)) (8 * v.right.width) r.1
