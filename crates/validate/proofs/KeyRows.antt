-- Which rows of a Dictionary have a key outside the values.
-- A null row has none; any other has one where its key reaches the limit.
use mathlib.Core.Path.{◌≡◌, ◌∙◌}
use mathlib.Core.Bool.{Bool, true, false}
use mathlib.Core.List.{List}
use Prim.Native.Nat.{ℕ, ◌+◌, ◌*◌}
use Rattle.image.specs.Ranges.{any}
use Rattle.image.specs.Record.{has_bitmap, length_of, offset_of, buffer_place}
use Rattle.image.specs.Element.{valid, element_width, element_place, element_at}
use Rattle.image.specs.declared.bytes.Numbers.{Numbers}
use Rattle.image.specs.Faults.{key_row_fault, key_outside}
use Rattle.image.proofs.Loops.{any_same}
use Rattle.validate.specs.Numbers.{KeyLimit, number_in, reaches}
use Rattle.validate.proofs.Elements.{shift}

pub null_row : (s : List ℕ) (k i : ℕ) → valid s k i ≡ false → key_row_fault s k i ≡ false
unfolding key_row_fault
null_row s k i e = rw e

-- what was read of Dictionary k: its rows' keys, and their limit
pub record Keys (s : List ℕ) (k limit : ℕ) (keys : Numbers) : Type 0 where
  pub bytes : keys.bytes.now ≡ s
  pub width : keys.width ≡ element_width s k
  pub place : keys.place ≡ buffer_place s k 0 + offset_of s k * keys.width
  pub limits : KeyLimit s k limit

module _ {s : List ℕ} {k limit : ℕ} {keys : Numbers} (r : Keys s k limit keys) where
  -- whether row i has a key outside, where it is not null
  reached : (i : ℕ) → reaches limit (number_in keys.bytes.now keys.place keys.width) i ≡ key_outside s k (offset_of s k + i)
  unfolding element_at element_place number_in reaches
  reached i = rw (r.limits.outside _, r.bytes, ← r.width, ← shift (buffer_place s k 0) (offset_of s k) i keys.width, ← r.place)

  pub key_row : (i : ℕ) {b : Bool} → valid s k i ≡ true → b ≡ reaches limit (number_in keys.bytes.now keys.place keys.width) i → b ≡ key_row_fault s k i
  unfolding key_row_fault
  key_row i full e = e ∙ rw full (reached i)

  full_row : has_bitmap s k ≡ false → (i : ℕ) → reaches limit (number_in keys.bytes.now keys.place keys.width) i ≡ key_row_fault s k i
  unfolding key_row_fault valid
  full_row none i = rw none (reached i)

  -- without a bitmap it is the keys that decide
  pub by_keys : {x : Bool} {rows : ℕ} → has_bitmap s k ≡ false → rows ≡ length_of s k → x ≡ any (reaches limit (number_in keys.bytes.now keys.place keys.width)) 0 rows → x ≡ any (key_row_fault s k) 0 (length_of s k)
  by_keys {rows = rows} none count p = p ∙ any_same _ _ 0 rows (full_row none) ∙ rw count
