-- The library's calls on given images, and the answer of each, as a list of numbers.
-- An answer is its number, side, node and value, as document 01 gives them, and where a call has a buffer the whole buffer
-- afterwards.
use Rattle.std.specs.Prelude.{◌≡◌, List, [], ◌∷◌, ◌++◌, ℕ, suc, length}
use Rattle.image.specs.Faults.{check_image}
use Rattle.answers.specs.Answers.{compare_answer, compare_range_answer, difference_answer, digits_answer, map_names_answer, write_answer, write_output, build_answer, build_output}
use Rattle.answers.specs.declared.numbers.Numbers.{Numbers}
use Rattle.answers.specs.Numbers.{checked_numbers, compared_numbers, ranges_compared_numbers, difference_numbers, digits_numbers, map_names_numbers, written_numbers, built_numbers}

pub data Call : Type 0 where
  -- check an image
  check : List ℕ → Call
  -- compare two images
  compare : List ℕ → List ℕ → Call
  -- compare rows of two images: left start, right start, count
  compare_range : List ℕ → List ℕ → ℕ → ℕ → ℕ → Call
  -- the first of such rows that is not equal
  difference : List ℕ → List ℕ → ℕ → ℕ → ℕ → Call
  -- compare such rows at fewer digits: the digits come last
  compare_digits : List ℕ → List ℕ → ℕ → ℕ → ℕ → ℕ → Call
  -- ask for the names of an image's Maps
  map_names : List ℕ → Call
  -- write rows of an image: start, count, and what the buffer holds before
  write : List ℕ → ℕ → ℕ → List ℕ → Call
  -- build a table of an image's type: count, the written rows, and what the buffer holds before
  build : List ℕ → ℕ → List ℕ → List ℕ → Call

-- an answer's four numbers, and the buffer
unfoldable pub told : Numbers → List ℕ → List ℕ
told n out = n.number ∷ n.side ∷ n.node ∷ n.value ∷ out

unfoldable pub answer : Call → List ℕ
answer (check s) = told (checked_numbers (check_image s)) []
answer (compare s t) = told (compared_numbers (compare_answer s t)) []
answer (compare_range s t i j n) = told (ranges_compared_numbers (compare_range_answer s t i j n)) []
answer (difference s t i j n) = told (difference_numbers (difference_answer s t i j n)) []
answer (compare_digits s t i j n d) = told (digits_numbers (digits_answer s t i j n d)) []
answer (map_names s) = told (map_names_numbers (map_names_answer s)) []
answer (write s i n out) = told (written_numbers (write_answer s i n out)) (write_output s i n out)
answer (build s n b out) = told (built_numbers (build_answer s n b out)) (build_output s n b out)

-- Answers by name.
abbrev pub accepted : List ℕ
accepted = 0 ∷ 0 ∷ 0 ∷ 0 ∷ []

abbrev pub equal : List ℕ
equal = 0 ∷ 0 ∷ 0 ∷ 1 ∷ []

abbrev pub unequal : List ℕ
unequal = 0 ∷ 0 ∷ 0 ∷ 0 ∷ []

-- of the query of Map names
abbrev pub have_names : List ℕ
have_names = 0 ∷ 0 ∷ 0 ∷ 1 ∷ []

abbrev pub other_names : List ℕ
other_names = 0 ∷ 0 ∷ 0 ∷ 0 ∷ []

-- no row differs; the first that does has that number
abbrev pub nowhere : List ℕ
nowhere = 0 ∷ 0 ∷ 0 ∷ 0 ∷ []

abbrev pub at_row : ℕ → List ℕ
at_row row = 0 ∷ 0 ∷ 0 ∷ suc row ∷ []

-- refused with that number, side and node
abbrev pub refused : ℕ → ℕ → ℕ → List ℕ
refused number side node = number ∷ side ∷ node ∷ 0 ∷ []

-- so many bytes written, and the buffer afterwards
abbrev pub written : ℕ → List ℕ → List ℕ
written n out = 0 ∷ 0 ∷ 0 ∷ n ∷ out

-- 43, and the buffer afterwards
abbrev pub too_long : List ℕ → List ℕ
too_long out = 43 ∷ 0 ∷ 0 ∷ 0 ∷ out

-- a table built, and what the buffer holds behind it
abbrev pub built : List ℕ → List ℕ → List ℕ
built image rest = 0 ∷ 0 ∷ 0 ∷ length image ∷ image ++ rest

-- a call and the answer that it must have
pub record Case : Type 0 where
  pub call : Call
  pub expected : List ℕ

infixl 70 ◌answers◌
abbrev pub ◌answers◌ : Call → List ℕ → Case
c answers e = record { call = c; expected = e }

-- the call has the expected answer
abbrev pub Holds : Case → Type 0
Holds c = answer c.call ≡ c.expected
