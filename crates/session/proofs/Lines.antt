-- What is left to be found of a line, step by step as a decoder goes from byte to byte.
-- A decoder keeps that the line's bytes are those it has, with what is found in what is left.
use mathlib.Core.Path.{◌≡◌, refl, sym, ap, ◌∙◌}
use mathlib.Core.Bool.{Bool, true, false, cond, false≢true}
use mathlib.Core.List.{List, [], ◌∷◌, ◌++◌, append-nil}
use Prim.Native.Nat.{ℕ, ◌+◌, ◌*◌, ◌-◌, ◌≤◌, ◌<◌}
use native.Mathlib.Numerals.{add-one}
use native.Mathlib.Omega.{arith}
use lib.ListN.{length, get_or, take, drop, set, length-append, length-set, length-drop}
use lib.Seq.{take-suc-set, take_all, length-take-le, append_snoc}
use lib.Dec.{eqb, ltb}
use borrow.Author.Tests.{eqb-true, eqb-false, ltb-true, ltb-false, lt-ltb, le-ltb, eq-eqb, ne_eqb}
use Rattle.std.proofs.Common.{Option, Some, None, Bor}
use Rattle.std.specs.Option.{option_copied}
use Rattle.std.specs.Bool.{then_some}
use Rattle.session.proofs.Fronts.{after_first}
use Rattle.session.specs.Frames.{lent_bytes}
use Rattle.session.specs.Lines.{digit_of, digit_value, between, Found, bad, good, preceded, scan, not_too_long, bytes_of, frame_in, rest, NextByte}

same_arms : {A : Type 0} (b : Bool) (x : A) → cond b x x ≡ x
same_arms true x = refl
same_arms false x = refl

-- a digit's value is below 16, and that of any other character is 16
digit_most : (c : ℕ) → digit_of c ≤ 16
unfolding digit_of
digit_most c = by_low (ltb c 48) refl
  where
    by_letter : (b : Bool) → ltb c 103 ≡ b → 97 ≤ c → cond b (c - 87) 16 ≤ 16
    by_letter true e h = let t : c < 103 = ltb-true _ _ e in omega arith
    by_letter false e h = omega arith

    by_gap : (b : Bool) → ltb c 97 ≡ b → cond b 16 (cond (ltb c 103) (c - 87) 16) ≤ 16
    by_gap true e = omega arith
    by_gap false e = by_letter (ltb c 103) refl (ltb-false _ _ e)

    by_figure : (b : Bool) → ltb c 58 ≡ b → 48 ≤ c → cond b (c - 48) (cond (ltb c 97) 16 (cond (ltb c 103) (c - 87) 16)) ≤ 16
    by_figure true e h = let t : c < 58 = ltb-true _ _ e in omega arith
    by_figure false e h = by_gap (ltb c 97) refl

    by_low : (b : Bool) → ltb c 48 ≡ b → cond b 16 (cond (ltb c 58) (c - 48) (cond (ltb c 97) 16 (cond (ltb c 103) (c - 87) 16))) ≤ 16
    by_low true e = omega arith
    by_low false e = by_figure (ltb c 58) refl (ltb-false _ _ e)

-- a character that is a digit, and one that is not
pub digit_found : (c h : ℕ) → digit_value c ≡ Some h → (h ≡ digit_of c) × (h < 16)
digit_found c h = cases (digit_of c) (ltb (digit_of c) 16) refl
  where
    cases : (d : ℕ) (b : Bool) → ltb d 16 ≡ b → then_some b d ≡ Some h → (h ≡ d) × (h < 16)
    cases d true small e =
        let same : d ≡ h = cc in
        (sym same, rw same at (ltb-true d 16 small))
    cases d false small e = absurd (false≢true cc)

pub no_digit : (c : ℕ) → digit_value c ≡ None → digit_of c ≡ 16
no_digit c = cases (digit_of c) (ltb (digit_of c) 16) refl (digit_most c)
  where
    cases : (d : ℕ) (b : Bool) → ltb d 16 ≡ b → d ≤ 16 → then_some b d ≡ None → d ≡ 16
    cases d true small most e = absurd (false≢true cc)
    cases d false small most e = omega (arith, ltb-false d 16 small)

-- after a byte: at most one character is left
pub between_one : (cs : List ℕ) → length cs < 2 → scan cs between ≡ rest cs
unfolding scan rest
between_one [] h = refl
between_one (c ∷ []) h = rw (same_arms (ltb (digit_of c) 16) bad, same_arms (eqb c 32) bad)
between_one (c ∷ d ∷ cs) h = absurd (omega arith)

-- after a byte: a space, and something follows it
pub between_space : (c : ℕ) (cs : List ℕ) → c ≡ 32 → 0 < length cs → scan (c ∷ cs) between ≡ rest cs
unfolding scan rest
between_space c [] e h = absurd (omega arith)
between_space c (d ∷ cs) e h = rw (eq-eqb c 32 e)

-- after a byte: no space
pub between_other : (c : ℕ) (cs : List ℕ) → (c ≡ 32 → ⊥) → scan (c ∷ cs) between ≡ rest (c ∷ cs)
unfolding scan rest
between_other c cs ne = rw (ne_eqb c 32 ne)

-- where a byte has to begin, and what is found from there
rest_one : (c : ℕ) → rest (c ∷ []) ≡ bad
unfolding rest scan
rest_one c = same_arms (ltb (digit_of c) 16) bad

rest_no_high : (c : ℕ) (cs : List ℕ) → digit_of c ≡ 16 → rest (c ∷ cs) ≡ bad
unfolding rest scan
rest_no_high c cs e = rw e

rest_no_low : (c d : ℕ) (cs : List ℕ) → digit_of d ≡ 16 → rest (c ∷ d ∷ cs) ≡ bad
unfolding rest scan
rest_no_low c d cs e = rw (e, same_arms (ltb (digit_of c) 16) bad)

rest_two : (c d : ℕ) (cs : List ℕ) → digit_of c < 16 → digit_of d < 16 → rest (c ∷ d ∷ cs) ≡ preceded (16 * digit_of c + digit_of d) (scan cs between)
unfolding rest scan
rest_two c d cs p q = rw (lt-ltb _ _ p, lt-ltb _ _ q)

-- what is left: nothing, or its first characters and the part of it that is lent after them
none_left : (left : List ℕ) → length left ≡ 0 → left ≡ []
none_left [] e = refl
none_left (c ∷ cs) e = cc

one_left : (left : List ℕ) → 1 ≤ length left → left ≡ get_or left 0 0 ∷ take (length left - 1) (drop 1 left)
one_left [] h = absurd (omega arith)
one_left (c ∷ cs) h = ap (λ (r : List ℕ). c ∷ r) (sym (take_all (length (c ∷ cs) - 1) cs (omega arith)))

pub two_left : (left : List ℕ) → 2 ≤ length left → left ≡ get_or left 0 0 ∷ get_or left 1 0 ∷ take (length left - 2) (drop 2 left)
two_left [] h = absurd (omega arith)
two_left (c ∷ []) h = absurd (omega arith)
two_left (c ∷ d ∷ cs) h = ap (λ (r : List ℕ). c ∷ d ∷ r) (sym (take_all (length (c ∷ d ∷ cs) - 2) cs (omega arith)))

-- what is left where the next byte begins
next_same : (left : List ℕ) → scan left between ≡ rest left → NextByte left left
next_same left found =
    let none : length left - length left ≡ 0 = omega arith in
    record { within = omega arith; part = rw none refl; found = found }

pub next_few : (left : List ℕ) → length left < 2 → NextByte left left
next_few left few = next_same left (between_one left few)

pub next_other : (left : List ℕ) → 1 ≤ length left → (get_or left 0 0 ≡ 32 → ⊥) → NextByte left left
next_other left some ne =
    let all = one_left left some in
    next_same left (rw all (between_other _ _ ne))

pub next_space : (left : List ℕ) → 1 ≤ length left → get_or left 0 0 ≡ 32 → 0 < length (take (length left - 1) (drop 1 left)) → NextByte left (take (length left - 1) (drop 1 left))
next_space left some e more =
    let next = take (length left - 1) (drop 1 left) in
    let found : scan (get_or left 0 0 ∷ next) between ≡ rest next = between_space (get_or left 0 0) next e more in
    let shorter : length next ≡ length left - 1 = rw (after_first left) (length-drop 1 left) in
    let one : length left - length next ≡ 1 = omega (arith, shorter, some) in
    record {
      within = omega (arith, shorter);
      part = rw one (after_first left);
      found = rw (← one_left left some) at found;
    }

-- a byte's two digits are read
pub record Pair (first second high low : ℕ) : Type 0 where
  pub first_is : high ≡ digit_of first
  pub second_is : low ≡ digit_of second
  pub high_small : high < 16
  pub low_small : low < 16

rest_byte : (first second high low : ℕ) (left : List ℕ) → Pair first second high low → rest (first ∷ second ∷ left) ≡ preceded (16 * high + low) (scan left between)
rest_byte first second high low left p =
    let hc : digit_of first < 16 = rw (← p.first_is) p.high_small in
    let hd : digit_of second < 16 = rw (← p.second_is) p.low_small in
    rw (p.first_is, p.second_is) (rest_two first second left hc hd)

-- bytes that were found, and what is found after them
unfoldable pub joined : List ℕ → Found → Found
joined xs bad = bad
joined xs (good ys) = good (xs ++ ys)

joined_none : (f : Found) → joined [] f ≡ f
unfolding joined
joined_none bad = refl
joined_none (good ys) = refl

joined_more : (xs : List ℕ) (x : ℕ) (f : Found) → joined xs (preceded x f) ≡ joined (xs ++ (x ∷ [])) f
unfolding preceded joined
joined_more xs x bad = refl
joined_more xs x (good ys) = ap good (sym (append_snoc xs x ys))

-- the line's bytes are the n that the frame has, with what is found in what is left
pub record Decoded (line frame left : List ℕ) (n : ℕ) : Type 0 where
  pub few : n ≤ 65
  pub sized : length frame ≡ 65
  pub same : bytes_of line ≡ not_too_long (joined (take n frame) (rest left))

-- the empty line has no bytes either way
from_none : (line : List ℕ) → bytes_of line ≡ not_too_long (joined [] (rest line))
unfolding bytes_of rest not_too_long scan joined
from_none [] = refl
from_none (c ∷ cs) = ap not_too_long (sym (joined_none (rest (c ∷ cs))))

pub decoded_none : (line frame : List ℕ) → length frame ≡ 65 → Decoded line frame line 0
decoded_none line frame e = record { few = omega arith; sized = e; same = from_none line }

module _ (line frame left : List ℕ) (n : ℕ) (d : Decoded line frame left n) where
  pub decoded_bad : rest left ≡ bad → bytes_of line ≡ []
  unfolding not_too_long joined
  decoded_bad e = d.same ∙ rw e

  -- a byte more than a frame has
  too_long_lem : (xs : List ℕ) (x : ℕ) (f : Found) → length xs ≡ 65 → not_too_long (joined xs (preceded x f)) ≡ []
  unfolding not_too_long preceded joined
  too_long_lem xs x bad e = refl
  too_long_lem xs x (good ys) e = let h : 65 < length (xs ++ x ∷ ys) = simp length-append (omega arith) in rw (lt-ltb _ _ h)

  -- two characters are left at least, and no digit
  pub decoded_no_high : (c d : ℕ) (cs : List ℕ) → left ≡ c ∷ d ∷ cs → digit_of c ≡ 16 → bytes_of line ≡ []
  decoded_no_high c d cs is e = decoded_bad (rw is (rest_no_high c (d ∷ cs) e))

  pub decoded_no_low : (c d : ℕ) (cs : List ℕ) → left ≡ c ∷ d ∷ cs → digit_of d ≡ 16 → bytes_of line ≡ []
  decoded_no_low c d cs is e = decoded_bad (rw is (rest_no_low c d cs e))

  -- two digits
  module _ (c d' : ℕ) (cs : List ℕ) (is : left ≡ c ∷ d' ∷ cs) (high low : ℕ) (p : Pair c d' high low) where
    pub decoded_full : n ≡ 65 → bytes_of line ≡ []
    decoded_full full =
        let e : length (take n frame) ≡ 65 = length-take-le n frame (omega (arith, d.sized)) ∙ full in
        d.same ∙ rw (is, rest_byte c d' high low cs p) (too_long_lem (take n frame) (16 * high + low) (scan cs between) e)

    pub decoded_more : (next : List ℕ) → (n ≡ 65 → ⊥) → NextByte cs next → Decoded line (set frame n (16 * high + low)) next (n + 1)
    decoded_more next room after =
        let x = 16 * high + low in
        let inside : n < length frame = omega (arith, d.sized, d.few) in
        let put : take (n + 1) (set frame n x) ≡ take n frame ++ (x ∷ []) = rw add-one (take-suc-set frame n x inside) in
        let found : rest left ≡ preceded x (rest next) = rw is (rest_byte c d' high low cs p ∙ ap (preceded x) after.found) in
        record {
          few = omega (arith, d.few);
          sized = length-set frame n x ∙ d.sized;
          same = d.same ∙ ap not_too_long (ap (joined (take n frame)) found ∙ joined_more (take n frame) x (rest next) ∙ rw put);
        }

  ends_short : (xs : List ℕ) → length xs ≤ 65 → not_too_long (joined xs (rest [])) ≡ xs
  unfolding not_too_long rest joined
  ends_short xs h = rw (append-nil xs, le-ltb _ _ h)

  decoded_done : left ≡ [] → (n ≡ length (bytes_of line)) × (take n frame ≡ bytes_of line)
  decoded_done end =
      let sized : length (take n frame) ≡ n = length-take-le n frame (omega (arith, d.sized, d.few)) in
      let all : bytes_of line ≡ take n frame = d.same ∙ rw end (ends_short (take n frame) (omega (arith, d.few))) in
      (rw all (sym sized), sym all)

  -- a character is left over
  pub decoded_odd : length left < 2 → (length left ≡ 0 → ⊥) → bytes_of line ≡ []
  decoded_odd few some = decoded_bad (one left few some)
    where
      one : (left : List ℕ) → length left < 2 → (length left ≡ 0 → ⊥) → rest left ≡ bad
      one [] h k = absurd (k refl)
      one (c ∷ []) h k = rest_one c
      one (c ∷ d' ∷ cs) h k = absurd (omega arith)

  pub decoded_nothing : length left < 2 → n ≡ 0 → bytes_of line ≡ []
  decoded_nothing few none = cases (eqb (length left) 0) refl
    where
      cases : (b : Bool) → eqb (length left) 0 ≡ b → bytes_of line ≡ []
      cases true e = sym (decoded_done (none_left left (eqb-true _ _ e))).1 ∙ rw none refl
      cases false e = decoded_odd few (eqb-false _ _ e)

  pub decoded_bytes : length left ≡ 0 → (n ≡ 0 → ⊥) → Some (take n frame) ≡ frame_in line
  decoded_bytes end some =
      let both = decoded_done (none_left left end) in
      let more : 0 < length (bytes_of line) = omega (arith, some, both.0) in
      rw (lt-ltb 0 (length (bytes_of line)) more) (ap Some both.1)

-- a line without bytes
pub none_decoded : (line : List ℕ) → bytes_of line ≡ [] → None ≡ frame_in line
none_decoded line e = rw e refl

-- what a decoder lends is the line's bytes, and it lends nothing where there are none
pub decoded_lent : (line : List ℕ) (found : Option (Bor (List ℕ))) → option_copied found ≡ frame_in line → lent_bytes found ≡ bytes_of line
decoded_lent line None e = cases (bytes_of line) e
  where
    cases : (xs : List ℕ) → None ≡ then_some (ltb 0 (length xs)) xs → [] ≡ xs
    cases [] h = refl
    cases (x ∷ xs) h = let more : 0 < length (x ∷ xs) = omega arith in let some : ◌≡◌ {A = Option (List ℕ)} None (Some (x ∷ xs)) = rw (lt-ltb 0 (length (x ∷ xs)) more) at h in cc
decoded_lent line (Some f) e = cases (ltb 0 (length (bytes_of line))) (bytes_of line) e
  where
    cases : (b : Bool) (xs : List ℕ) → Some f.now ≡ then_some b xs → f.now ≡ xs
    cases true xs h = cc
    cases false xs h = absurd (false≢true cc)
