-- More characters of a line, put behind those that are kept.
-- What fits is the front of both together, and the rest of the line is as it was.
use mathlib.Core.Path.{◌≡◌, refl, sym, ap, ◌∙◌}
use mathlib.Core.List.{List, ◌++◌, append_assoc}
use Prim.Native.Nat.{ℕ, ◌+◌, ◌-◌}
use native.Mathlib.Omega.{arith}
use lib.ListN.{length, take, drop, length-take, length-append}
use lib.Seq.{take-append-add, drop-drop}
use borrow.Rule.Slice.PartMut.{put_mid}
use Rattle.session.specs.Feeds.{kept_with}
use Rattle.session.proofs.Fronts.{front_same}

module _ (len : ℕ) (chars more : List ℕ) (at n : ℕ) (sized : length chars ≡ 195) (held : at ≡ length (take len chars)) (fits : n ≡ length (take (195 - at) more)) where
  whole : kept_with (take len chars) more ≡ take len chars ++ take n more
  whole =
      let all : 195 ≡ length (take len chars) + (195 - at) = omega (arith, held, sized, length-take len chars) in
      ap (λ (m : ℕ). take m (take len chars ++ more)) all ∙ take-append-add (take len chars) more (195 - at) ∙ ap (λ (r : List ℕ). take len chars ++ r) (sym (front_same n (195 - at) more fits))

  pub added_length : at + n ≡ length (kept_with (take len chars) more)
  added_length = rw whole (rw length-append (omega (arith, held, fits, ap length (front_same n (195 - at) more fits))))

  pub added : (after part : List ℕ) (k : ℕ) → k ≡ n → after ≡ put_mid at k chars part → part ≡ take n more →
      after ≡ kept_with (take len chars) more ++ drop (length (kept_with (take len chars) more)) chars
  added after part k all e same =
      let put : put_mid at k chars part ≡ (take len chars ++ take n more) ++ drop (at + n) chars =
      rw (all, same, drop-drop n at chars, front_same at len chars held) (sym (append_assoc (take len chars) (take n more) (drop (at + n) chars))) in
      e ∙ put ∙ rw (← added_length, whole) refl
