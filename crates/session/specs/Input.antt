-- The whole input and the whole output: "A line ends at a line feed or the end of input; nothing after the last line feed
-- is no line. One output line each".
use Rattle.std.specs.Prelude.{cond, ℕ, replicate, eqb}
use mathlib.Core.List.{List, [], ◌∷◌, flatten}
use Rattle.session.specs.Steps.{After}
use Rattle.session.specs.Sessions.{started, replies}

-- a character in front of lines: it stands in the first, or is a line where there is none
unfoldable pub in_front : ℕ → List (List ℕ) → List (List ℕ)
in_front c [] = (c ∷ []) ∷ []
in_front c (line ∷ lines) = (c ∷ line) ∷ lines

-- the lines of an input
unfoldable pub lines_of : List ℕ → List (List ℕ)
lines_of [] = []
lines_of (c ∷ cs) = cond (eqb c 10) ([] ∷ lines_of cs) (in_front c (lines_of cs))

-- before any input: "two image stores of 24,576 bytes each and an output of 64", all zero
abbrev pub fresh : After
fresh = started (replicate 24576 0) (replicate 24576 0) (replicate 64 0)

-- what an input prints from a session on: the line of each reply, one after the other
unfoldable pub printed_from : List ℕ → After → List ℕ
printed_from input a = flatten (replies (lines_of input) a)

-- what the program prints
abbrev pub printed : List ℕ → List ℕ
printed input = printed_from input fresh
