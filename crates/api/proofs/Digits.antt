-- The comparison at fewer digits in the answers of the calls: a yes exactly when the kept values agree; and with no digit dropped it
-- is the range comparison's answer, unless it is refused by 22.
-- By the variants of what the images and the ranges are. Divided by 1 a number stays, and numbers of bytes are the same where
-- the bytes are.
use mathlib.Core.Path.{◌≡◌, refl, sym, ap, ap₂, ◌∙◌}
use mathlib.Core.Bool.{Bool, true, false, not, beq, ◌&&◌, ◌||◌}
use mathlib.Core.List.{List}
use mathlib.Core.Logic.{◌↔◌, ⊎_elim}
use Prim.Native.Nat.{ℕ, ◌+◌, ◌^◌, ◌<◌}
use lib.Dec.{eqb}
use borrow.Author.Tests.{eqb-true, eq-eqb, le-ltb}
use Rattle.image.specs.Bytes.{AllBytes, number_at, bytes_at}
use Rattle.image.specs.Record.{max_depth, code_of, offset_of}
use Rattle.image.specs.Element.{valid, element_width, element_place, element_at}
use Rattle.image.specs.Types.{same_bytes}
use Rattle.image.specs.Row.{fixed, masked, fixed_row}
use Rattle.image.specs.Equality.{row_equal, ranges_equal}
use Rattle.image.specs.Digits.{midway, divided, whole_number, same_whole, stored_at, kept_at, kept_agree, digits_equal, not_digits}
use Rattle.image.proofs.Bools.{and_left, and_right, when_true, flags_same, tests_same}
use Rattle.std.proofs.Common.{Result, Ok, Err}
use Rattle.answers.specs.declared.RangeRefusal.{RangeRefusal}
use Rattle.answers.specs.declared.DigitsRefusal.{DigitsRefusal}
use Rattle.answers.specs.declared.DigitsRefusal.TheVariants.{Range, NotDigits}
use Rattle.answers.specs.Answers.{paired_of, bounds_of, exceeds, ◌>>=◌, refused_as, refuse_if, compare_range_answer, digits_answer}
use Rattle.laws.proofs.Alike.{same_width}
use Rattle.laws.proofs.Rounding.{divided_one, same_whole_lem, whole_once}
use Rattle.values.specs.Pairs.{same_row, masked_row}
use Rattle.values.specs.Parts.{Sides}
use Rattle.values.proofs.Steps.{by_rows, by_bytes, all_moved, all_by}
use Rattle.values.proofs.Blocks.{all_at}
use Rattle.values.proofs.Octets.{same_numbers, number_small}
use Rattle.equal.proofs.Nulls.{masked_answer}
use Rattle.equal.proofs.Types.{table_answer}
use Rattle.digits.proofs.Agreeing.{by_pairs, decimal_root, few_digits, decimal_layout}
use Rattle.api.specs.Digits.{AgreeAt, as_digits}
use Rattle.api.proofs.Answers.{agreed, both_within, within, range_sides}

-- the answer, by what the images are, by 22, by what the ranges are, and by the rows
abbrev answer_of : Result (Unit {0}) RangeRefusal → Bool → Result (Unit {0}) RangeRefusal → Bool → Result Bool DigitsRefusal
answer_of x z y b = do
  _ ← refused_as Range x
  _ ← refuse_if z NotDigits
  _ ← refused_as Range y
  Ok b

-- numbers of w bytes, undivided, are the same where their bytes are
module _ (s t : List ℕ) (left : AllBytes s) (right : AllBytes t) where
  stored_same : (w x y : ℕ) → same_whole (divided midway 1 (whole_number w (number_at w s x))) (divided midway 1 (whole_number w (number_at w t y))) ≡ same_bytes (bytes_at s x w) (bytes_at t y w)
  stored_same w x y =
      ap₂ same_whole (divided_one midway _) (divided_one midway _)
      ∙ tests_same _ (eqb (number_at w s x) (number_at w t y))
      (λ e. eq-eqb _ _ (whole_once w _ _ (number_small s left w x) (number_small t right w y) ((same_whole_lem _ _).0 e)))
      (λ e. (same_whole_lem _ _).1 (ap (whole_number w) (eqb-true _ _ e)))
      ∙ same_numbers s t left right w x y
      ∙ by_bytes s t x y w

  -- a row of each
  row_same : element_width s 0 ≡ element_width t 0 → (i j : ℕ) → kept_agree 1 s t i j ≡ same_row (masked_row fixed_row s 0) (masked_row fixed_row t 0) i j
  unfolding kept_agree kept_at stored_at element_at same_row masked_row fixed_row row_equal
  row_same width i j =
      rw (← width, stored_same (element_width s 0) (element_place s 0 (offset_of s 0 + i)) (element_place t 0 (offset_of t 0 + j)))
      (cases (valid s 0 i) (valid t 0 j) (bytes_at s (element_place s 0 (offset_of s 0 + i)) (element_width s 0)) (bytes_at t (element_place t 0 (offset_of t 0 + j)) (element_width s 0)))
    where
      cases : (u v : Bool) (x y : List ℕ) → beq u v && (not u || same_bytes x y) ≡ row_equal (masked u (fixed x)) (masked v (fixed y))
      cases true true x y = refl
      cases true false x y = refl
      cases false true x y = refl
      cases false false x y = refl

  -- ranges of two tables
  none_dropped : {i j n : ℕ} → Sides s t 0 0 i j n max_depth → not_digits s 0 ≡ false → digits_equal 0 s t i j n ≡ ranges_equal s t i j n
  none_dropped {i} {j} {n} r fit =
      sym (by_pairs 0 s t i j n refl)
      ∙ all_moved (kept_agree 1 s t) (same_row (masked_row fixed_row s 0) (masked_row fixed_row t 0)) i j i j n (λ k lt. row_same (same_width s t 0 0 r.alike.0.code r.alike.0.p1) (i + k) (j + k))
      ∙ by_rows _ _ i j n
      ∙ masked_answer r (decimal_layout s 0 fit) fixed_row (λ A s k j. refl)
      ∙ table_answer s t i j n

  -- "At d = 0, unless 22 refuses": the answer of the range comparison
  pub no_digit_dropped : (i j n : ℕ) → (digits_answer s t i j n 0 ≡ Err NotDigits → ⊥) → digits_answer s t i j n 0 ≡ as_digits (compare_range_answer s t i j n)
  unfolding digits_answer compare_range_answer
  no_digit_dropped i j n = cases (paired_of s t) (not_digits s 0) (bounds_of s t i j n) refl refl refl
    where
      cases : (x : Result (Unit {0}) RangeRefusal) (z : Bool) (y : Result (Unit {0}) RangeRefusal) → paired_of s t ≡ x → not_digits s 0 ≡ z → bounds_of s t i j n ≡ y
          → (answer_of x z y (digits_equal 0 s t i j n) ≡ Err NotDigits → ⊥)
          → answer_of x z y (digits_equal 0 s t i j n) ≡ as_digits (x >>= λ _. y >>= λ _. Ok (ranges_equal s t i j n))
      cases (Err e) z y ex ez ey not22 = refl
      cases (Ok _) true y ex ez ey not22 = absurd (not22 refl)
      cases (Ok _) false (Err e) ex ez ey not22 = refl
      cases (Ok _) false (Ok _) ex ez ey not22 = rw (none_dropped (range_sides s t i j n ex ey) ez)

-- a yes is one of the images, of 22 and 21, and of the rows
record Said (x : Result (Unit {0}) RangeRefusal) (z : Bool) (y : Result (Unit {0}) RangeRefusal) (b : Bool) : Type 0 where
  pair : x ≡ Ok tt
  fit : z ≡ false
  inside : y ≡ Ok tt
  rows : b ≡ true

said : (x : Result (Unit {0}) RangeRefusal) (z : Bool) (y : Result (Unit {0}) RangeRefusal) (b : Bool) → answer_of x z y b ≡ Ok true → Said x z y b
said (Err e) z y b h = record { pair = cc; fit = cc; inside = cc; rows = cc }
said (Ok _) true y b h = record { pair = refl; fit = cc; inside = cc; rows = cc }
said (Ok _) false (Err e) b h = record { pair = refl; fit = refl; inside = cc; rows = cc }
said (Ok _) false (Ok _) true h = record { pair = refl; fit = refl; inside = refl; rows = refl }
said (Ok _) false (Ok _) false h = record { pair = refl; fit = refl; inside = refl; rows = cc }

module _ (s t : List ℕ) (i j n d : ℕ) where
  yes_says : digits_answer s t i j n d ≡ Ok true → AgreeAt s t i j n d
  unfolding digits_answer kept_agree
  yes_says e =
      let h = said (paired_of s t) (not_digits s d) (bounds_of s t i j n) (digits_equal d s t i j n) e in
      let pair = agreed s t h.pair in
      let ranges = both_within s t i j n h.inside in
      let row : (k : ℕ) → k < n → kept_agree (10 ^ d) s t (i + k) (j + k) ≡ true = all_at (kept_agree (10 ^ d) s t) i j n (by_pairs d s t i j n refl ∙ h.rows) in
      record {
        left = pair.left;
        right = pair.right;
        types = pair.types;
        decimal = decimal_root s d h.fit;
        digits = few_digits s d h.fit;
        left_within = within s i n ranges.0;
        right_within = within t j n ranges.1;
        nulls = λ k lt. flags_same _ _ (and_left _ _ (row k lt));
        kept = λ k lt is. (same_whole_lem _ _).0 (when_true (valid s 0 (i + k)) _ (and_right (beq (valid s 0 (i + k)) (valid t 0 (j + k))) _ (row k lt)) is);
      }

  says_yes : AgreeAt s t i j n d → digits_answer s t i j n d ≡ Ok true
  unfolding digits_answer paired_of bounds_of exceeds not_digits kept_agree
  says_yes r = rw (r.left, r.right, r.types, fit, le-ltb _ _ r.left_within, le-ltb _ _ r.right_within, rows)
    where
      fit : not_digits s d ≡ false
      fit = ⊎_elim (λ (h : code_of s 0 ≡ 15). rw (h, le-ltb 9 d r.digits)) (λ (h : code_of s 0 ≡ 16). rw (h, le-ltb 9 d r.digits)) r.decimal

      row : (k : ℕ) → (u v : Bool) → valid s 0 (i + k) ≡ u → valid t 0 (j + k) ≡ v → u ≡ v → (u ≡ true → kept_at (10 ^ d) s (i + k) ≡ kept_at (10 ^ d) t (j + k)) → kept_agree (10 ^ d) s t (i + k) (j + k) ≡ true
      row k true true eu ev same kept = rw (eu, ev) ((same_whole_lem _ _).1 (kept refl))
      row k true false eu ev same kept = cc
      row k false true eu ev same kept = cc
      row k false false eu ev same kept = rw (eu, ev)

      rows : digits_equal d s t i j n ≡ true
      rows = sym (by_pairs d s t i j n refl) ∙ all_by (kept_agree (10 ^ d) s t) i j n (λ k lt. row k (valid s 0 (i + k)) (valid t 0 (j + k)) refl refl (r.nulls k lt) (r.kept k lt))

  -- yes exactly when rows are null together and the others' kept values are the same
  pub yes_agree : (digits_answer s t i j n d ≡ Ok true) ↔ AgreeAt s t i j n d
  yes_agree = (yes_says, says_yes)
