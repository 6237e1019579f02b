-- Feeding: the characters of a chunk, up to a line feed, are taken to those of a line that are kept already.
use Rattle.std.specs.Prelude.{Bool, true, false, cond, List, [], ◌∷◌, ◌++◌, ℕ, length, take, eqb, Option}
use Rattle.std.specs.Bool.{then_some}

-- the characters before the first line feed
unfoldable pub before_feed : List ℕ → List ℕ
before_feed [] = []
before_feed (c ∷ cs) = cond (eqb c 10) [] (c ∷ before_feed cs)

-- there is a line feed
unfoldable pub has_feed : List ℕ → Bool
has_feed [] = false
has_feed (c ∷ cs) = cond (eqb c 10) true (has_feed cs)

-- where the first line feed stands, if there is one
abbrev pub feed_at : List ℕ → Option ℕ
feed_at chunk = then_some (has_feed chunk) (length (before_feed chunk))

-- what is kept of a line after more of its characters: 195 of them at most
abbrev pub kept_with : List ℕ → List ℕ → List ℕ
kept_with kept more = take 195 (kept ++ more)

-- what is kept of a line after a chunk's characters
unfoldable pub kept_of : List ℕ → List ℕ → List ℕ
kept_of kept chunk = kept_with kept (before_feed chunk)
