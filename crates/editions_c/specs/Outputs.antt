-- How much of a lent buffer a write uses: the length of its output has to fit into the 56 bits that an answer has for it.
use Rattle.std.specs.Prelude.{List, ℕ, take, drop}

-- the greatest length that 56 bits can give
unfoldable pub most : ℕ
most = 72057594037927935

-- the part of a buffer that is used, and the rest, which is never changed; only a buffer of 2 ^ 56 bytes and more has one
unfoldable pub used : List ℕ → List ℕ
used out = take most out

unfoldable pub unused : List ℕ → List ℕ
unused out = drop most out
