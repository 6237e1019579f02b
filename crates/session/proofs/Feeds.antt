-- Characters with and without a line feed, and the lines of an input.
-- By induction on the characters; each is a line feed or is none.
use mathlib.Core.Path.{◌≡◌, refl, sym, ap, ◌∙◌}
use mathlib.Core.Bool.{Bool, true, false, cond, false≢true}
use mathlib.Core.List.{List, [], ◌∷◌, ◌++◌}
use Prim.Native.Nat.{ℕ, suc, ◌+◌, ◌<◌, ◌≤◌}
use native.Mathlib.Omega.{arith}
use lib.ListN.{length, take, drop}
use lib.Dec.{eqb, ltb}
use borrow.Author.Tests.{eqb-true, ltb-true, ltb-false, lt-ltb, le-ltb}
use Rattle.std.proofs.Common.{Option, Some, None}
use Rattle.std.specs.Bool.{then_some}
use Rattle.std.specs.List.{position_or_len}
use Rattle.std.proofs.lemmas.List.Recursion.{is_position_or_len}
use Rattle.session.specs.Feeds.{before_feed, has_feed, feed_at}
use Rattle.session.specs.Input.{in_front, lines_of}

-- no line feed
pub empty_none : has_feed [] ≡ false
unfolding has_feed
empty_none = refl

no_feed_more : (c : ℕ) (cs : List ℕ) → has_feed (c ∷ cs) ≡ false → (eqb c 10 ≡ false) × (has_feed cs ≡ false)
unfolding has_feed
no_feed_more c cs e = cases (eqb c 10) e
  where
    cases : (b : Bool) → cond b true (has_feed cs) ≡ false → (b ≡ false) × (has_feed cs ≡ false)
    cases true e' = (cc, cc)
    cases false e' = (refl, e')

pub before_none : (cs : List ℕ) → has_feed (before_feed cs) ≡ false
unfolding has_feed before_feed
before_none [] = refl
before_none (c ∷ cs) = cases (eqb c 10) refl (before_none cs)
  where
    cases : (b : Bool) → eqb c 10 ≡ b → has_feed (before_feed cs) ≡ false → has_feed (cond b [] (c ∷ before_feed cs)) ≡ false
    cases true e none = refl
    cases false e none = rw e none

pub none_both : (p q : List ℕ) → has_feed p ≡ false → has_feed q ≡ false → has_feed (p ++ q) ≡ false
unfolding has_feed
none_both [] q e f = f
none_both (c ∷ p) q e f =
    let both = no_feed_more c p e in
    rw both.0 (none_both p q both.1 f)

pub before_all : (cs : List ℕ) → has_feed cs ≡ false → before_feed cs ≡ cs
unfolding before_feed
before_all [] e = refl
before_all (c ∷ cs) e =
    let both = no_feed_more c cs e in
    rw both.0 (ap (λ (r : List ℕ). c ∷ r) (before_all cs both.1))

-- a chunk with a line feed is what stands before it, and what stands after it
pub around : (cs : List ℕ) → has_feed cs ≡ true → cs ≡ before_feed cs ++ 10 ∷ drop (suc (length (before_feed cs))) cs
unfolding has_feed before_feed
around [] e = cc
around (c ∷ cs) e = cases (eqb c 10) refl e (λ h. around cs h)
  where
    cases : (b : Bool) → eqb c 10 ≡ b → cond b true (has_feed cs) ≡ true → (has_feed cs ≡ true → cs ≡ before_feed cs ++ 10 ∷ drop (suc (length (before_feed cs))) cs) →
        c ∷ cs ≡ cond b [] (c ∷ before_feed cs) ++ 10 ∷ drop (suc (length (cond b [] (c ∷ before_feed cs)))) (c ∷ cs)
    cases true is e' then = let feed : c ≡ 10 = eqb-true c 10 is in rw feed refl
    cases false is e' then = ap (λ (r : List ℕ). c ∷ r) (then e')

-- the lines of an input
pub lines_more : (line cs : List ℕ) → has_feed line ≡ false → lines_of (line ++ 10 ∷ cs) ≡ line ∷ lines_of cs
unfolding lines_of in_front
lines_more [] cs e = refl
lines_more (c ∷ line) cs e =
    let both = no_feed_more c line e in
    rw (both.0, lines_more line cs both.1) refl

pub lines_last : (c : ℕ) (cs : List ℕ) → has_feed (c ∷ cs) ≡ false → lines_of (c ∷ cs) ≡ (c ∷ cs) ∷ []
unfolding lines_of in_front
lines_last c [] e =
    let both = no_feed_more c [] e in
    rw both.0 refl
lines_last c (d ∷ cs) e =
    let both = no_feed_more c (d ∷ cs) e in
    rw (both.0, lines_last d cs both.1) refl

-- the place of the first line feed
abbrev pub is_feed : ℕ → Bool
is_feed c = eqb c 10

before_place : (cs : List ℕ) → length (before_feed cs) ≡ position_or_len is_feed cs
unfolding before_feed
before_place = is_position_or_len (λ (cs : List ℕ). length (before_feed cs)) is_feed refl step
  where
    cases : (b : Bool) (c : ℕ) (cs : List ℕ) → length (cond b [] (c ∷ before_feed cs)) ≡ cond b 0 (1 + length (before_feed cs))
    cases true c cs = refl
    cases false c cs = omega arith

    step : (c : ℕ) (cs : List ℕ) → length (before_feed (c ∷ cs)) ≡ cond (eqb c 10) 0 (1 + length (before_feed cs))
    step c cs = cases (eqb c 10) c cs

less_more : (n m : ℕ) → ltb n m ≡ ltb (suc n) (suc m)
less_more n m = cases (ltb n m) refl
  where
    cases : (b : Bool) → ltb n m ≡ b → b ≡ ltb (suc n) (suc m)
    cases true e = let h : n < m = ltb-true _ _ e in sym (lt-ltb (suc n) (suc m) (omega arith))
    cases false e = let h : m ≤ n = ltb-false _ _ e in sym (le-ltb (suc n) (suc m) (omega arith))

has_place : (cs : List ℕ) → has_feed cs ≡ ltb (length (before_feed cs)) (length cs)
unfolding before_feed has_feed
has_place [] = refl
has_place (c ∷ cs) = cases (eqb c 10) (has_place cs)
  where
    cases : (b : Bool) → has_feed cs ≡ ltb (length (before_feed cs)) (length cs) → cond b true (has_feed cs) ≡ ltb (length (cond b [] (c ∷ before_feed cs))) (suc (length cs))
    cases true e = sym (lt-ltb 0 (suc (length cs)) (omega arith))
    cases false e = e ∙ less_more (length (before_feed cs)) (length cs)

place_given : (b : Bool) (n : ℕ) → cond b (Some n) None ≡ then_some b n
place_given true n = refl
place_given false n = refl

pub feed_place : (r : Option ℕ) (cs : List ℕ) → r ≡ cond (ltb (position_or_len is_feed cs) (length cs)) (Some (position_or_len is_feed cs)) None → r ≡ feed_at cs
feed_place r cs e = e ∙ rw (← before_place cs, ← has_place cs) (place_given (has_feed cs) (length (before_feed cs)))

pub feed_found : (cs : List ℕ) (end : ℕ) → feed_at cs ≡ Some end → (has_feed cs ≡ true) × (end ≡ length (before_feed cs))
feed_found cs end = cases (has_feed cs) (length (before_feed cs))
  where
    cases : (b : Bool) (n : ℕ) → then_some b n ≡ Some end → (b ≡ true) × (end ≡ n)
    cases true n e = let same : n ≡ end = cc in (refl, sym same)
    cases false n e = absurd (false≢true cc)

pub feed_none : (cs : List ℕ) → feed_at cs ≡ None → has_feed cs ≡ false
feed_none cs = cases (has_feed cs) (length (before_feed cs))
  where
    cases : (b : Bool) (n : ℕ) → then_some b n ≡ None → b ≡ false
    cases true n e = absurd (false≢true cc)
    cases false n e = refl

pub feed_inside : (cs : List ℕ) → has_feed cs ≡ true → length (before_feed cs) < length cs
feed_inside cs e = ltb-true _ _ (sym (has_place cs) ∙ e)

pub before_front : (cs : List ℕ) → take (length (before_feed cs)) cs ≡ before_feed cs
unfolding before_feed
before_front [] = refl
before_front (c ∷ cs) = cases (eqb c 10) (before_front cs)
  where
    cases : (b : Bool) → take (length (before_feed cs)) cs ≡ before_feed cs → take (length (cond b [] (c ∷ before_feed cs))) (c ∷ cs) ≡ cond b [] (c ∷ before_feed cs)
    cases true e = refl
    cases false e = ap (λ (r : List ℕ). c ∷ r) e
