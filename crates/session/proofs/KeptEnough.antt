-- A line's first 195 characters are answered as the whole line is.
-- A byte takes two characters and at most one space, so a line of 195 characters or more is no 65 bytes.
use mathlib.Core.Path.{◌≡◌, refl, sym, ap, ◌∙◌}
use mathlib.Core.Bool.{Bool, true, false, cond}
use mathlib.Core.List.{List, [], ◌∷◌}
use Prim.Native.Nat.{ℕ, suc, ◌+◌, ◌*◌, ◌≤◌, ◌<◌}
use native.Mathlib.Omega.{arith}
use lib.ListN.{length, take}
use lib.Seq.{take_all, length-take-le}
use lib.Dec.{eqb, ltb}
use borrow.Author.Tests.{lt-ltb, ltb-true, ltb-false}
use Rattle.session.specs.Lines.{digit_of, Stand, begin, half, between, Found, bad, good, preceded, scan, not_too_long, bytes_of}
use Rattle.session.specs.Steps.{State, after_line}

-- how many characters of the next byte are behind a reader, its space with them
behind : Stand → ℕ
behind begin = 1
behind (half h) = 2
behind between = 0

-- so many characters are at most three for each byte that is found
AtMost : ℕ → Found → Type 0
AtMost n bad = Unit {0}
AtMost n (good xs) = n ≤ 3 * length xs

either : (n : ℕ) (b : Bool) (f g : Found) → AtMost n f → AtMost n g → AtMost n (cond b f g)
either n true f g p q = p
either n false f g p q = q

fewer : (m n : ℕ) (f : Found) → m ≤ n → AtMost n f → AtMost m f
unfolding AtMost
fewer m n bad h p = tt
fewer m n (good xs) h p = omega arith

one_more : (n x : ℕ) (f : Found) → AtMost n f → AtMost (n + 3) (preceded x f)
unfolding AtMost preceded
one_more n x bad p = tt
one_more n x (good xs) p = omega arith

three_each : (line : List ℕ) (s : Stand) → AtMost (length line + behind s) (scan line s)
unfolding AtMost behind scan
three_each [] begin = tt
three_each [] (half h) = tt
three_each [] between = omega arith
three_each (c ∷ cs) begin =
    let d = digit_of c in
    let n = suc (length cs) + 1 in
    either n (ltb d 16) (scan cs (half d)) bad (fewer n (length cs + 2) (scan cs (half d)) (omega arith) (three_each cs (half d))) tt
three_each (c ∷ cs) (half h) =
    let d = digit_of c in
    let n = suc (length cs) + 2 in
    let found = preceded (16 * h + d) (scan cs between) in
    either n (ltb d 16) found bad (fewer n (length cs + 0 + 3) found (omega arith) (one_more (length cs + 0) (16 * h + d) (scan cs between) (three_each cs between))) tt
three_each (c ∷ cs) between =
    let d = digit_of c in
    let n = suc (length cs) + 0 in
    either n (eqb c 32) (scan cs begin) (cond (ltb d 16) (scan cs (half d)) bad)
    (fewer n (length cs + 1) (scan cs begin) (omega arith) (three_each cs begin))
    (either n (ltb d 16) (scan cs (half d)) bad (fewer n (length cs + 2) (scan cs (half d)) (omega arith) (three_each cs (half d))) tt)

long_refused : (line : List ℕ) → 195 ≤ length line → bytes_of line ≡ []
unfolding bytes_of not_too_long AtMost behind
long_refused line h = refused (scan line begin) (three_each line begin)
  where
    refused : (f : Found) → AtMost (length line + behind begin) f → not_too_long f ≡ []
    refused bad p = refl
    refused (good xs) p = let over : 65 < length xs = omega arith in rw (lt-ltb _ _ over)

pub kept_enough : (line : List ℕ) → bytes_of (take 195 line) ≡ bytes_of line
kept_enough line = cases (ltb (length line) 195) refl
  where
    cases : (b : Bool) → ltb (length line) 195 ≡ b → bytes_of (take 195 line) ≡ bytes_of line
    cases true e = let h : length line < 195 = ltb-true _ _ e in ap bytes_of (take_all 195 line (omega arith))
    cases false e =
        let h : 195 ≤ length line = ltb-false _ _ e in
        long_refused (take 195 line) (omega (arith, length-take-le 195 line h)) ∙ sym (long_refused line h)

pub kept_answers : (line left right : List ℕ) (state : State) (out : List ℕ) → after_line (take 195 line) left right state out ≡ after_line line left right state out
unfolding after_line
kept_answers line left right state out = rw (kept_enough line)
