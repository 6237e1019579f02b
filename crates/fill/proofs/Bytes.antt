-- Bytes put over a part of a buffer, and bytes with zeros behind them.
-- Lists of equal length are the same where each byte is; a byte of a buffer that is put over is the new one inside and the old one
-- before and behind.
use mathlib.Core.Path.{◌≡◌, refl, sym, ap, ◌∙◌}
use mathlib.Core.Bool.{Bool, true, false}
use mathlib.Core.List.{List, [], ◌∷◌, ◌++◌, append_assoc, append-nil}
use mathlib.Core.Logic.{◌⊎◌, inl, inr}
use Prim.Native.Nat.{ℕ, zero, suc, ◌+◌, ◌-◌, ◌/◌, ◌%◌, ◌≤◌, ◌<◌, ◌^◌}
use native.Mathlib.Nat.{add-zero}
use native.Mathlib.Omega.{arith}
use lib.ListN.{length, take, drop, replicate, length-append, length-drop, length-replicate, replicate-append-replicate, get_or-append}
use lib.Seq.{length-take-le, take-add, drop-drop, take-append_seam, drop-append-add, get_or-append-add, get_or-drop, ext_get_or}
use lib.Dec.{ltb}
use borrow.Author.Tests.{ltb-true, ltb-false}
use borrow.Rule.Slice.PartMut.{put_mid}
use Rattle.std.proofs.lemmas.List.{nil_from_length, take_all}
use Rattle.image.specs.Bytes.{byte_at, bytes_at}
use Rattle.laws.proofs.Lengths.{bytes_length}
use Rattle.rows.specs.Output.{over}
use Rattle.rows.proofs.Over.{over_length, over_before}
use Rattle.fill.specs.Filling.{padded}

-- a number lies before another or not
pub lt_or_ge : (a b : ℕ) → (a < b) ⊎ (b ≤ a)
lt_or_ge a b = cases (ltb a b) refl
  where
    cases : (t : Bool) → ltb a b ≡ t → (a < b) ⊎ (b ≤ a)
    cases true e = inl (ltb-true a b e)
    cases false e = inr (ltb-false a b e)

-- a byte of some bytes
pub byte_of : (s : List ℕ) (p n i : ℕ) → i < n → byte_at (bytes_at s p n) i ≡ byte_at s (p + i)
unfolding bytes_at
byte_of s p zero i lt = absurd (omega arith)
byte_of s p (suc n) zero lt = rw (add-zero p)
byte_of s p (suc n) (suc i) lt =
    let e : suc p + i ≡ p + suc i = omega arith in
    byte_of s (suc p) n i (omega arith) ∙ ap (byte_at s) e

pub bytes_same : (a b : List ℕ) (p q n : ℕ) → ((i : ℕ) → i < n → byte_at a (p + i) ≡ byte_at b (q + i)) → bytes_at a p n ≡ bytes_at b q n
bytes_same a b p q n same =
    ext_get_or 0 (bytes_at a p n) (bytes_at b q n) (bytes_length a p n ∙ sym (bytes_length b q n)) (λ i lt.
    let few : i < n = omega (arith, bytes_length a p n) in
    byte_of a p n i few ∙ same i few ∙ sym (byte_of b q n i few))

-- a byte of a buffer that bytes are put over: inside them, and behind
module _ (out : List ℕ) (at : ℕ) (x : List ℕ) (fits : at + length x ≤ length out) where
  front : length (take at out) ≡ at
  front = length-take-le at out (omega arith)

  pub over_inside : (o : ℕ) → o < length x → byte_at (over out at x) (at + o) ≡ byte_at x o
  unfolding over
  over_inside o lt =
      let there = get_or-append-add (take at out) (x ++ drop (at + length x) out) o 0 in
      rw front at there ∙ get_or-append x (drop (at + length x) out) 0 o lt

  pub over_behind : (p : ℕ) → at + length x ≤ p → byte_at (over out at x) p ≡ byte_at out p
  unfolding over
  over_behind p le =
      let m : ℕ = p - (at + length x) in
      let a : at + (length x + m) ≡ p = omega arith in
      let b : at + length x + m ≡ p = omega arith in
      let there = get_or-append-add (take at out) (x ++ drop (at + length x) out) (length x + m) 0 in
      let here = get_or-append-add x (drop (at + length x) out) m 0 in
      rw (← a) (rw front at there ∙ here ∙ get_or-drop (at + length x) out m 0 ∙ ap (byte_at out) (b ∙ sym a))

-- bytes elsewhere stay
pub over_elsewhere : (out : List ℕ) (at : ℕ) (x : List ℕ) → at + length x ≤ length out → (p n : ℕ) → (p + n ≤ at) ⊎ (at + length x ≤ p) → bytes_at (over out at x) p n ≡ bytes_at out p n
over_elsewhere out at x fits p n (inl before) = bytes_same (over out at x) out p p n (λ i lt. over_before out at x fits (p + i) (omega arith))
over_elsewhere out at x fits p n (inr behind) = bytes_same (over out at x) out p p n (λ i lt. over_behind out at x fits (p + i) (omega arith))

-- bytes that are put inside n bytes from p on
pub over_within : (out x : List ℕ) (p n o : ℕ) → p + n ≤ length out → o + length x ≤ n → bytes_at (over out (p + o) x) p n ≡ over (bytes_at out p n) o x
over_within out x p n o inside fits =
    let long : length (bytes_at out p n) ≡ n = bytes_length out p n in
    let here : o + length x ≤ length (bytes_at out p n) = omega arith in
    let there : p + o + length x ≤ length out = omega arith in
    ext_get_or 0 (bytes_at (over out (p + o) x) p n) (over (bytes_at out p n) o x) (bytes_length (over out (p + o) x) p n ∙ sym (over_length (bytes_at out p n) o x here ∙ long)) (λ i lt.
    let few : i < n = omega (arith, bytes_length (over out (p + o) x) p n) in
    byte_of (over out (p + o) x) p n i few ∙ cases i few here there (lt_or_ge i o) (lt_or_ge i (o + length x)))
  where
    cases : (i : ℕ) → i < n → o + length x ≤ length (bytes_at out p n) → p + o + length x ≤ length out → (i < o) ⊎ (o ≤ i) → (i < o + length x) ⊎ (o + length x ≤ i) → byte_at (over out (p + o) x) (p + i) ≡ byte_at (over (bytes_at out p n) o x) i
    cases i few here there (inl before) e = over_before out (p + o) x there (p + i) (omega arith) ∙ sym (over_before (bytes_at out p n) o x here i before ∙ byte_of out p n i few)
    cases i few here there (inr after) (inl among) =
        let a : p + o + (i - o) ≡ p + i = omega arith in
        let b : o + (i - o) ≡ i = omega arith in
        let m : i - o < length x = omega arith in
        sym (ap (byte_at (over out (p + o) x)) a) ∙ over_inside out (p + o) x there (i - o) m ∙ sym (over_inside (bytes_at out p n) o x here (i - o) m) ∙ ap (byte_at (over (bytes_at out p n) o x)) b
    cases i few here there (inr after) (inr behind) = over_behind out (p + o) x there (p + i) (omega arith) ∙ sym (over_behind (bytes_at out p n) o x here i behind ∙ byte_of out p n i few)

-- Zeros behind.

abbrev pub zeros : ℕ → List ℕ
zeros n = replicate n 0

drop_zeros : (m n : ℕ) → drop m (zeros n) ≡ zeros (n - m)
drop_zeros zero n =
    let e : n - 0 ≡ n = omega arith in
    rw e
drop_zeros (suc m) zero =
    let e : 0 - suc m ≡ 0 = omega arith in
    rw e
drop_zeros (suc m) (suc n) =
    let e : suc n - suc m ≡ n - m = omega arith in
    rw e (drop_zeros m n)

pub padded_length : (n : ℕ) (x : List ℕ) → length x ≤ n → length (padded n x) ≡ n
unfolding padded
padded_length n x le = length-append x (zeros (n - length x)) ∙ omega (arith, length-replicate {A = ℕ} (n - length x) 0)

-- more bytes put behind bytes
pub padded_more : (n : ℕ) (x y : List ℕ) → length x + length y ≤ n → over (padded n x) (length x) y ≡ padded n (x ++ y)
unfolding padded over
padded_more n x y fits =
    let z : List ℕ = zeros (n - length x) in
    let left : n - length x - length y ≡ n - length (x ++ y) = omega (arith, length-append x y) in
    let rest : drop (length x + length y) (x ++ z) ≡ zeros (n - length (x ++ y)) = drop-append-add x z (length y) ∙ drop_zeros (length y) (n - length x) ∙ ap zeros left in
    rw (take-append_seam x z, rest) (sym (append_assoc x y (zeros (n - length (x ++ y)))))

-- zeros need not be put
pub padded_zeros : (n : ℕ) (x : List ℕ) (w : ℕ) → length x + w ≤ n → padded n (x ++ zeros w) ≡ padded n x
unfolding padded
padded_zeros n x w fits =
    let size : length (x ++ zeros w) ≡ length x + w = length-append x (zeros w) ∙ ap (λ (m : ℕ). length x + m) (length-replicate {A = ℕ} w 0) in
    let all : w + (n - (length x + w)) ≡ n - length x = omega arith in
    rw (size, append_assoc x (zeros w) (zeros (n - (length x + w))), replicate-append-replicate {A = ℕ} w (n - (length x + w)) 0, all)

-- a slice from a place on
pub from_place : (b : List ℕ) (k : ℕ) → take (length b - k) (drop k b) ≡ drop k b
from_place b k = take_all (length b - k) (drop k b) (omega (arith, length-drop k b))

-- bytes that are put over a slice from a place on, as code lends it
pub over_from : (out : List ℕ) (at o : ℕ) (x : List ℕ) → put_mid at (length out - at) out (over (drop at out) o x) ≡ over out (at + o) x
unfolding over
over_from out at o x =
    let none : drop (length out - at) (drop at out) ≡ [] = nil_from_length (drop (length out - at) (drop at out)) (omega (arith, length-drop (length out - at) (drop at out), length-drop at out)) in
    let front : take (at + o) out ≡ take at out ++ take o (drop at out) = take-add at o out in
    let back : at + (o + length x) ≡ at + o + length x = omega arith in
    let behind : drop (o + length x) (drop at out) ≡ drop (at + o + length x) out = drop-drop (o + length x) at out ∙ ap (λ (n : ℕ). drop n out) back in
    rw (none, append-nil, front, behind) (sym (append_assoc (take at out) (take o (drop at out)) (x ++ drop (at + o + length x) out)))

-- A bit of such a slice: that it is inside and free, and that it is set in the whole.
module _ (out : List ℕ) (at j : ℕ) where
  abbrev slice : List ℕ
  slice = take (length out - at) (drop at out)

  byte_there : byte_at slice (j / 8) ≡ byte_at out (at + j / 8)
  byte_there = rw (from_place out at) (get_or-drop at out (j / 8) 0)

  pub bit_there : (at + j / 8 < length out) × (byte_at out (at + j / 8) < 2 ^ (j % 8)) → (j / 8 < length slice) × (byte_at slice (j / 8) < 2 ^ (j % 8))
  bit_there both = (rw (from_place out at) (omega (arith, length-drop at out, both.0)), rw byte_there both.1)

  pub bit_over : {bits : List ℕ} → bits ≡ over slice (j / 8) ((byte_at slice (j / 8) + 2 ^ (j % 8)) ∷ []) → put_mid at (length out - at) out bits ≡ over out (at + j / 8) ((byte_at out (at + j / 8) + 2 ^ (j % 8)) ∷ [])
  bit_over e = rw (e, byte_there, from_place out at) (over_from out at (j / 8) ((byte_at out (at + j / 8) + 2 ^ (j % 8)) ∷ []))
