-- Where a text may be cut.
use Rattle.std.specs.Prelude.{◌≡◌, Bool, false, not, List, ℕ, ◌<◌}
use Rattle.image.specs.Bytes.{byte_at}
use Rattle.image.specs.Utf8.{has, tail}

-- no tail stands at a place
unfoldable pub begins : List ℕ → ℕ → Bool
begins s x = not (has tail (byte_at s x))

-- no tail stands at place x, or the text ends there
abbrev pub Cut : List ℕ → ℕ → ℕ → Type 0
Cut s end x = x < end → has tail (byte_at s x) ≡ false
