-- What it is for ranges of decimal numbers to agree at fewer digits; and an answer of range comparison, as one of that call.
use Rattle.std.specs.Prelude.{◌≡◌, true, List, ◌⊎◌, ℕ, ◌+◌, ◌^◌, ◌≤◌, ◌<◌, Ok, Bool, Result}
use Rattle.answers.specs.declared.RangeRefusal.{RangeRefusal}
use Rattle.answers.specs.declared.DigitsRefusal.{DigitsRefusal}
use Rattle.answers.specs.declared.DigitsRefusal.TheVariants.{Range}
use Rattle.answers.specs.Answers.{refused_as}
use Rattle.image.specs.Record.{code_of, length_of}
use Rattle.image.specs.Element.{valid}
use Rattle.image.specs.Faults.{check_image}
use Rattle.image.specs.Types.{types_agree}
use Rattle.image.specs.Digits.{kept_at}

-- n rows of s from i on and of t from j on lie within two accepted tables of equal type, Decimal32 or Decimal64, d is at most 9,
-- rows are null together, and those that are not have the same kept value
pub record AgreeAt (s t : List ℕ) (i j n d : ℕ) : Type 0 where
  pub left : check_image s ≡ Ok tt
  pub right : check_image t ≡ Ok tt
  pub types : types_agree s t ≡ true
  pub decimal : (code_of s 0 ≡ 15) ⊎ (code_of s 0 ≡ 16)
  pub digits : d ≤ 9
  pub left_within : i + n ≤ length_of s 0
  pub right_within : j + n ≤ length_of t 0
  pub nulls : (k : ℕ) → k < n → valid s 0 (i + k) ≡ valid t 0 (j + k)
  pub kept : (k : ℕ) → k < n → valid s 0 (i + k) ≡ true → kept_at (10 ^ d) s (i + k) ≡ kept_at (10 ^ d) t (j + k)

-- the same answer
abbrev pub as_digits : Result Bool RangeRefusal → Result Bool DigitsRefusal
as_digits = refused_as Range
