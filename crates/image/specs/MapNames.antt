-- Whether "every Map's entries are named `entries` and its fields `key` and `value`".
use Rattle.std.specs.Prelude.{Bool, not, ◌&&◌, ◌||◌, List, ℕ, ◌+◌}
use Prim.Native.String.{String}
use Rattle.image.specs.Ranges.{every}
use Rattle.image.specs.Bytes.{ascii}
use Rattle.image.specs.Record.{node_count, code_of, first_child}
use Rattle.image.specs.TypeCode.{is_map}
use Rattle.image.specs.Types.{same_bytes, name_of}

-- node k has that name
unfoldable pub named : List ℕ → ℕ → String → Bool
named s k name = same_bytes (name_of s k) (ascii name)

-- node k, where it is a Map, has these names: its child is its entries, and their first child the key, their second the value
unfoldable pub map_named : List ℕ → ℕ → Bool
map_named s k =
    let entries = first_child s k in
    let key = first_child s entries in
    not (is_map (code_of s k)) || (named s entries "entries" && named s key "key" && named s (key + 1) "value")

-- each Map of the tree has them, wherever it stands and whatever its rows are
unfoldable pub maps_named : List ℕ → Bool
maps_named s = every (map_named s) 0 (node_count s)
