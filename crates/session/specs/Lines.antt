-- Lines: "1 to 65 bytes of lower-case hexadecimal, one space allowed between bytes".
use Rattle.std.specs.Prelude.{cond, List, [], ◌∷◌, ◌≡◌, ℕ, ◌+◌, ◌*◌, ◌-◌, ◌≤◌, length, drop, eqb, ltb, Option}
use Rattle.std.specs.Bool.{then_some}

-- the value of a digit, 0 to 9 and a to f; 16 for any other character
unfoldable pub digit_of : ℕ → ℕ
digit_of c = cond (ltb c 48) 16 (cond (ltb c 58) (c - 48) (cond (ltb c 97) 16 (cond (ltb c 103) (c - 87) 16)))

-- a digit's value, and none of any other character
abbrev pub digit_value : ℕ → Option ℕ
digit_value c = then_some (ltb (digit_of c) 16) (digit_of c)

-- where a reader of a line stands: a byte has to begin; after its first digit, of that value; after a byte
pub data Stand : Type 0 where
  begin : Stand
  half : ℕ → Stand
  between : Stand

-- what a reader found: no hexadecimal, or bytes
pub data Found : Type 0 where
  bad : Found
  good : List ℕ → Found

unfoldable pub preceded : ℕ → Found → Found
preceded x bad = bad
preceded x (good xs) = good (x ∷ xs)

-- The bytes that characters stand for. A space may stand between two bytes, and nowhere else; a line ends after a byte.
unfoldable pub scan : List ℕ → Stand → Found
scan [] begin = bad
scan [] (half h) = bad
scan [] between = good []
scan (c ∷ cs) begin = cond (ltb (digit_of c) 16) (scan cs (half (digit_of c))) bad
scan (c ∷ cs) (half h) = cond (ltb (digit_of c) 16) (preceded (16 * h + digit_of c) (scan cs between)) bad
scan (c ∷ cs) between = cond (eqb c 32) (scan cs begin) (cond (ltb (digit_of c) 16) (scan cs (half (digit_of c))) bad)

-- at most 65 bytes, or none
unfoldable pub not_too_long : Found → List ℕ
not_too_long bad = []
not_too_long (good xs) = cond (ltb 65 (length xs)) [] xs

-- the bytes that a line stands for; none where it is not 1 to 65 bytes of hexadecimal
unfoldable pub bytes_of : List ℕ → List ℕ
bytes_of line = not_too_long (scan line begin)

-- the frame that they are; none where there are none
abbrev pub frame_in : List ℕ → Option (List ℕ)
frame_in line = then_some (ltb 0 (length (bytes_of line))) (bytes_of line)

-- what is found where the next byte has to begin, if there is one more
unfoldable pub rest : List ℕ → Found
rest [] = good []
rest (c ∷ cs) = scan (c ∷ cs) begin

-- what is left of a line after a byte, and what is left of it where the next one begins: past one space, if something follows it
pub record NextByte (left next : List ℕ) : Type 0 where
  pub within : length next ≤ length left
  pub part : next ≡ drop (length left - length next) left
  pub found : scan left between ≡ rest next
