-- What is kept of whole numbers, once digits are dropped: "at d = 1, 25 gives 3 and -25 gives -3", numbers beside the halves, and
-- the ends of both widths.
use Rattle.std.specs.Prelude.{◌≡◌, List, [], ◌∷◌, ℕ, ◌-◌, ◌^◌, ℤ, pos, neg_ℤ}
use Rattle.image.specs.Digits.{midway, divided, whole_number}

-- a whole number, how many digits are dropped, and what is kept
pub record Kept : Type 0 where
  pub number : ℤ
  pub digits : ℕ
  pub kept : ℤ

infixl 70 ◌dropping◌keeps◌
abbrev pub ◌dropping◌keeps◌ : ℤ → ℕ → ℤ → Kept
x dropping d keeps y = record { number = x; digits = d; kept = y }

abbrev pub minus : ℕ → ℤ
minus m = neg_ℤ (pos m)

unfoldable pub kept_numbers : List Kept
kept_numbers =
    pos 25 dropping 1 keeps pos 3
    ∷ minus 25 dropping 1 keeps minus 3
    ∷ pos 24 dropping 1 keeps pos 2
    ∷ minus 24 dropping 1 keeps minus 2
    ∷ pos 26 dropping 1 keeps pos 3
    ∷ pos 35 dropping 1 keeps pos 4
    ∷ pos 4 dropping 1 keeps pos 0
    ∷ minus 4 dropping 1 keeps pos 0
    ∷ minus 5 dropping 1 keeps minus 1
    ∷ pos 25 dropping 0 keeps pos 25
    ∷ minus 25 dropping 0 keeps minus 25
    ∷ pos 499999999 dropping 9 keeps pos 0
    ∷ pos 500000000 dropping 9 keeps pos 1
    -- the least and the greatest number of 4 bytes, and of 8
    ∷ whole_number 4 (2 ^ 31) dropping 9 keeps minus 2
    ∷ whole_number 4 (2 ^ 31 - 1) dropping 1 keeps pos 214748365
    ∷ whole_number 8 (2 ^ 63) dropping 9 keeps minus 9223372037
    ∷ whole_number 8 (2 ^ 63 - 1) dropping 1 keeps pos 922337203685477581
    ∷ []

-- the number, divided by 10 to the digits, is what is kept
abbrev pub Keeps : Kept → Type 0
Keeps c = divided midway (10 ^ c.digits) c.number ≡ c.kept
