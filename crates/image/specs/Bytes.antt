-- Little-endian numbers and bits of a list of bytes. Past the list's end every byte reads as 0.
use Rattle.std.specs.Prelude.{Bool, List, [], ◌∷◌, ℕ, zero, suc, ◌+◌, ◌*◌, ◌/◌, ◌%◌, ◌^◌, ◌<◌, get_or, eqb}
use Prim.Native.Char.{code}
use Prim.Native.String.{String, [] as noText, ◌∷◌ as ◌then◌}

-- the byte at a place
abbrev pub byte_at : List ℕ → ℕ → ℕ
byte_at s i = get_or s i 0

-- each number of the list is a byte, as it is in a slice
abbrev pub AllBytes : List ℕ → Type 0
AllBytes s = (k : ℕ) → byte_at s k < 256

-- "Little-endian": the number that the w bytes at a place make
unfoldable pub number_at : ℕ → List ℕ → ℕ → ℕ
number_at zero s i = 0
number_at (suc w) s i = byte_at s i + 256 * number_at w s (suc i)

-- the w bytes of a number, lowest first
unfoldable pub number_bytes : ℕ → ℕ → List ℕ
number_bytes zero x = []
number_bytes (suc w) x = x % 256 ∷ number_bytes w (x / 256)

-- bit j of the bits that start at a place; Arrow counts from the lowest bit of each byte
unfoldable pub bit_at : List ℕ → ℕ → ℕ → Bool
bit_at s place j = eqb (byte_at s (place + j / 8) / 2 ^ (j % 8) % 2) 1

-- the n bytes from a place on
unfoldable pub bytes_at : List ℕ → ℕ → ℕ → List ℕ
bytes_at s i zero = []
bytes_at s i (suc n) = byte_at s i ∷ bytes_at s (suc i) n

-- the bytes of a text of ASCII
unfoldable pub ascii : String → List ℕ
ascii noText = []
ascii (c then cs) = code c ∷ ascii cs
