-- Decimal numbers at fewer digits: "a comparison that drops d digits, 0 to 9, before comparing".
use Rattle.std.specs.Prelude.{Bool, false, cond, not, ◌&&◌, ◌||◌, List, ℕ, suc, ◌+◌, ◌*◌, ◌-◌, ◌/◌, ◌%◌, ◌^◌, ℤ, pos, negsuc, neg_ℤ, eqb, ltb}
use Rattle.std.specs.Bool.{beq}
use Rattle.image.specs.Ranges.{every}
use Rattle.image.specs.Record.{code_of, offset_of}
use Rattle.image.specs.TypeCode.{sign_bit}
use Rattle.image.specs.Element.{valid, element_width, element_at}

-- "halves away from zero": where a size midway between q and q + 1 goes
unfoldable pub midway : ℕ → ℕ
midway q = q + 1

-- the size m divided by p, "to the nearest": the quotient, or one more, by what is left over; a half goes where the rule says
unfoldable pub nearest : (ℕ → ℕ) → ℕ → ℕ → ℕ
nearest rule m p = cond (ltb (2 * (m % p)) p) (m / p) (cond (ltb p (2 * (m % p))) (m / p + 1) (rule (m / p)))

-- a whole number divided by p: its size, to the nearest, with its sign. `pos m` is m, and `negsuc m` is -(m + 1).
unfoldable pub divided : (ℕ → ℕ) → ℕ → ℤ → ℤ
divided rule p (pos m) = pos (nearest rule m p)
divided rule p (negsuc m) = neg_ℤ (pos (nearest rule (suc m) p))

-- the whole number that w bytes store which read as x: two's complement
unfoldable pub whole_number : ℕ → ℕ → ℤ
whole_number w x = cond (ltb x (sign_bit w)) (pos x) (neg_ℤ (pos (2 ^ (8 * w) - x)))

-- "the stored whole number" of row i of the root
unfoldable pub stored_at : List ℕ → ℕ → ℤ
stored_at s i = whole_number (element_width s 0) (element_at s 0 (offset_of s 0 + i))

-- "The kept value" of row i of the root, where p is 10 to the d
unfoldable pub kept_at : ℕ → List ℕ → ℕ → ℤ
kept_at p s i = divided midway p (stored_at s i)

-- two whole numbers are the same
unfoldable pub same_whole : ℤ → ℤ → Bool
same_whole (pos m) (pos n) = eqb m n
same_whole (pos m) (negsuc n) = false
same_whole (negsuc m) (pos n) = false
same_whole (negsuc m) (negsuc n) = eqb m n

-- row i of s and row j of t agree, where p is 10 to the d: "Null agrees only with null."
unfoldable pub kept_agree : ℕ → List ℕ → List ℕ → ℕ → ℕ → Bool
kept_agree p s t i j = beq (valid s 0 i) (valid t 0 j) && (not (valid s 0 i) || same_whole (kept_at p s i) (kept_at p t j))

-- n rows of s from i on and n rows of t from j on agree in turn, once d digits are dropped
unfoldable pub digits_equal : ℕ → List ℕ → List ℕ → ℕ → ℕ → ℕ → Bool
digits_equal d s t i j n = every (λ k. kept_agree (10 ^ d) s t (i + k) (j + k)) 0 n

-- 22: "any other root type or d above 9"; Decimal32 is 15, and Decimal64 is 16
unfoldable pub not_digits : List ℕ → ℕ → Bool
not_digits s d = not (eqb (code_of s 0) 15 || eqb (code_of s 0) 16) || ltb 9 d
