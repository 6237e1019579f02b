-- The bytes of a view.
use Rattle.std.specs.Prelude.{List, ℕ}
use Rattle.image.specs.Bytes.{bytes_at}
use Rattle.image.specs.Element.{view_length, view_data}
use Rattle.accepted.specs.declared.byte_view.View.{View}

abbrev pub view_bytes : View → List ℕ
view_bytes v = bytes_at v.node.image.now (view_data v.node.image.now v.node.number v.place) (view_length v.node.image.now v.place)
