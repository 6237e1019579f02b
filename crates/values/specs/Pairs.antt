-- Two ranges compared in step.
use Rattle.std.specs.Prelude.{Bool, true, not, ◌&&◌, ◌||◌, List, ℕ, zero, suc, ◌+◌, ◌*◌, ◌-◌, ◌/◌, ◌%◌, ◌^◌, eqb}
use Rattle.std.specs.Bool.{beq}
use Rattle.image.specs.Bytes.{byte_at, number_at, bit_at}
use Rattle.image.specs.Ranges.{first}
use Rattle.image.specs.Element.{valid, element_at}
use Rattle.image.specs.Record.{offset_of}
use Rattle.image.specs.Row.{Row, range, masked}
use Rattle.image.specs.Equality.{row_equal, rows_equal}

-- the test holds of the n pairs (i, j), (i + 1, j + 1), ..
unfoldable pub all : (ℕ → ℕ → Bool) → ℕ → ℕ → ℕ → Bool
all p i j zero = true
all p i j (suc n) = p i j && all p (suc i) (suc j) n

-- the pair numbered k, (i + k, j + k), fails the test
unfoldable pub pair_differs : (ℕ → ℕ → Bool) → ℕ → ℕ → ℕ → Bool
pair_differs p i j k = not (p (i + k) (j + k))

-- the number of the first of the n pairs (i, j), (i + 1, j + 1), .. that fails the test, or n where none does
unfoldable pub first_unequal : (ℕ → ℕ → Bool) → ℕ → ℕ → ℕ → ℕ
first_unequal p i j n = first (pair_differs p i j) 0 n

-- rows g i and h j are equal
unfoldable pub same_row : (ℕ → Row) → (ℕ → Row) → ℕ → ℕ → Bool
same_row g h i j = row_equal (g i) (h j)

-- n rows g i, g (i + 1), .. and h j, h (j + 1), .. are equal in turn
abbrev pub range_equal : (ℕ → Row) → (ℕ → Row) → ℕ → ℕ → ℕ → Bool
range_equal g h i j n = rows_equal (range g i n) (range h j n)

-- the bytes at i and j
unfoldable pub same_byte : List ℕ → List ℕ → ℕ → ℕ → Bool
same_byte a b i j = eqb (byte_at a i) (byte_at b j)

-- bit i of a number
unfoldable pub bit_of : ℕ → ℕ → Bool
bit_of v i = eqb (v / 2 ^ i % 2) 1

-- bits i and j of two numbers
unfoldable pub same_bit_of : ℕ → ℕ → ℕ → ℕ → Bool
same_bit_of v w i j = beq (bit_of v i) (bit_of w j)

-- elements i and j of those of w bytes that stand side by side are the same, or bit i of a number is 0
unfoldable pub valid_same : ℕ → List ℕ → List ℕ → ℕ → ℕ → ℕ → Bool
valid_same bits a b w i j = not (bit_of bits i) || all (same_byte a b) (i * w) (j * w) w

-- bits i and j of the bits that start at two places
unfoldable pub same_bit : List ℕ → ℕ → List ℕ → ℕ → ℕ → ℕ → Bool
same_bit a p b q i j = beq (bit_at a p i) (bit_at b q j)

-- rows i and j of two nodes are both null or both not
unfoldable pub same_mask : List ℕ → ℕ → List ℕ → ℕ → ℕ → ℕ → Bool
same_mask a k b l i j = beq (valid a k i) (valid b l j)

-- from the offset at element i up to the next
unfoldable pub span_at : List ℕ → ℕ → ℕ → ℕ
span_at s k i = element_at s k (suc i) - element_at s k i

-- the texts or lists at elements i and j are equally long
unfoldable pub same_span : List ℕ → ℕ → List ℕ → ℕ → ℕ → ℕ → Bool
same_span a k b l i j = eqb (span_at a k i) (span_at b l j)

-- numbers i and j of those of w bytes that stand side by side from two places on are equally far above x and y
unfoldable pub same_distance : List ℕ → ℕ → List ℕ → ℕ → ℕ → ℕ → ℕ → ℕ → ℕ → Bool
same_distance a p b q w x y i j = eqb (number_at w a (p + i * w) - x) (number_at w b (q + j * w) - y)

-- row i of a node without children whose values are given: null, or its value
unfoldable pub masked_row : (List ℕ → ℕ → ℕ → Row) → List ℕ → ℕ → ℕ → Row
masked_row value s k i = masked (valid s k i) (value s k (offset_of s k + i))
