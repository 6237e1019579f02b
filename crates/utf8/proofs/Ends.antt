-- Of a text the last m bytes answer for all, where what stands before them has been looked at; some are looked at once more.
-- Where none of them is above 7F, none of the text is; and they are bytes of the text.
use mathlib.Core.Path.{◌≡◌, refl, sym, ap, ◌∙◌}
use mathlib.Core.Bool.{Bool, true, false, ◌||◌, or-true, false≢true}
use mathlib.Core.List.{List, ◌++◌}
use Prim.Native.Nat.{ℕ, ◌+◌, ◌-◌, ◌≤◌}
use native.Mathlib.Omega.{arith}
use lib.Dec.{leb}
use lib.Seq.{drop-drop}
use lib.ListN.{length, take, drop}
use Rattle.std.proofs.Math.Seq.{drop-append_seam}
use Rattle.std.proofs.Common.{length-append}
use Rattle.std.proofs.lemmas.List.{take-append-drop, take-take}
use Rattle.std.proofs.lemmas.List.Folds.{list_any-append}
use Rattle.image.specs.Ranges.{any}
use Rattle.image.proofs.Bools.{tests_same}
use Rattle.image.proofs.Ranges.{any_false, any_none}
use Rattle.utf8.specs.Ascii.{any_high}

-- a part of a range of which one passes
pub part_found : (p : ℕ → Bool) (i n j m : ℕ) → i ≤ j → j + m ≤ i + n → any p j m ≡ true → true ≡ any p i n
part_found p i n j m from upto e = cases (any p i n) refl
  where
    cases : (b : Bool) → any p i n ≡ b → true ≡ b
    cases true eb = refl
    cases false eb = absurd (false≢true (sym (any_none p j m (λ k low high. any_false p i n eb k (omega arith) (omega arith))) ∙ e))

high_joined : (x t : List ℕ) → any_high (x ++ t) ≡ any_high x || any_high t
unfolding any_high
high_joined x t = list_any-append (leb 128) x t

-- the first k bytes and the others
high_parts : (k : ℕ) (s : List ℕ) → any_high s ≡ any_high (take k s) || any_high (drop k s)
high_parts k s = ap any_high (sym (take-append-drop k s)) ∙ high_joined (take k s) (drop k s)

-- the first bytes have one
pub front_found : (k : ℕ) (s : List ℕ) → any_high (take k s) ≡ true → true ≡ any_high s
front_found k s e = sym (high_parts k s ∙ rw e)

-- the last bytes have one
back_found : (k : ℕ) (s : List ℕ) → any_high (drop k s) ≡ true → true ≡ any_high s
back_found k s e = sym (high_parts k s ∙ rw e (or-true (any_high (take k s))))

-- the first m have been looked at, and the others are looked at from a place among them on
pub both_ends : (k m : ℕ) (s : List ℕ) → k ≤ m → any_high (take m s) ≡ false → any_high (drop k s) ≡ any_high s
both_ends k m s le e = sym (high_parts k s ∙ rw none)
  where
    front : (b : Bool) → any_high (take k (take m s)) ≡ b → b ≡ false
    front true h = front_found k (take m s) h ∙ e
    front false h = refl

    none : any_high (take k s) ≡ false
    none = ap any_high (sym (take-take k m s le)) ∙ front _ refl

-- a loop that looks for a byte above 7F has come to the rest of a text
pub record Ahead (s rest : List ℕ) : Type 0 where
  pub within : length rest ≤ length s
  pub part : rest ≡ drop (length s - length rest) s
  pub same : any_high s ≡ any_high rest

module _ (s : List ℕ) where
  pub ahead_none : Ahead s s
  ahead_none =
      let e : length s - length s ≡ 0 = omega arith in
      record { within = omega arith; part = rw e; same = refl }

  pub ahead_more : {rest : List ℕ} (x t : List ℕ) → Ahead s rest → rest ≡ x ++ t → any_high x ≡ false → Ahead s t
  ahead_more {rest} x t a e none =
      let long : length rest ≡ length x + length t = ap length e ∙ length-append x t in
      let place : length s - length rest + length x ≡ length s - length t = omega (arith, a.within) in
      record {
        within = omega (arith, a.within);
        part = sym (drop-append_seam x t) ∙ ap (drop (length x)) (sym e ∙ a.part) ∙ drop-drop (length x) (length s - length rest) s ∙ rw place;
        same = a.same ∙ ap any_high e ∙ high_joined x t ∙ rw none;
      }

  pub ahead_found : {rest : List ℕ} (x t : List ℕ) → Ahead s rest → rest ≡ x ++ t → any_high x ≡ true → true ≡ any_high s
  ahead_found x t a e some = sym (a.same ∙ ap any_high e ∙ high_joined x t ∙ rw some)

  -- no more than m are left
  pub ahead_last : {rest : List ℕ} (m : ℕ) → Ahead s rest → length rest ≤ m → m ≤ length s → any_high (drop (length s - m) s) ≡ any_high s
  ahead_last {rest} m a le fits =
      let k : length s - m + (m - length rest) ≡ length s - length rest = omega (arith, a.within) in
      let part : rest ≡ drop (m - length rest) (drop (length s - m) s) = a.part ∙ rw (← k) (sym (drop-drop (m - length rest) (length s - m) s)) in
      tests_same _ _
      (λ some. sym (back_found (length s - m) s some))
      (λ some. sym (back_found (m - length rest) (drop (length s - m) s) (ap any_high (sym part) ∙ sym a.same ∙ some)))
