-- However an input is cut into chunks, the turns over them and its end print what the whole input's lines are answered with,
-- and hold the session after them.
-- What is kept is the front of the characters since the last line feed; each turn leaves the lines that are to come.
use mathlib.Core.Path.{◌≡◌, refl, sym, ap, ◌∙◌}
use mathlib.Core.Bool.{Bool, true, false, cond}
use mathlib.Core.List.{List, [], ◌∷◌, ◌++◌, append_assoc, append-nil, flatten}
use Prim.Native.Nat.{ℕ, zero, suc, ◌+◌, ◌≤◌, ◌<◌}
use native.Mathlib.Omega.{arith}
use lib.ListN.{length, take, drop, length-drop}
use lib.Seq.{drop-length}
use lib.Dec.{ltb}
use borrow.Author.Tests.{lt-ltb, ltb-true, ltb-false}
use Rattle.session.specs.Feeds.{before_feed, has_feed, kept_of}
use Rattle.session.specs.Steps.{After, after_line}
use Rattle.session.specs.Sessions.{next, after_lines, replies}
use Rattle.session.specs.Input.{lines_of, fresh, printed_from, printed}
use Rattle.session.specs.Turns.{Reader, reader_at, Turn, outcome, answered, turn_of, end_of, turns_of, run_of}
use Rattle.session.proofs.Feeds.{empty_none, before_none, none_both, before_all, feed_inside, around, lines_more, lines_last}
use Rattle.session.proofs.Fronts.{front_over}
use Rattle.session.proofs.KeptEnough.{kept_answers}

-- From the session a, with the characters p since the last line feed, a chunk leads on: this text is printed, this is held,
-- and so much of the chunk is left. Whatever follows, the lines that are to come are answered alike.
pub record Led (p chunk : List ℕ) (a : After) (text : List ℕ) (r : Reader) (left : List ℕ) : Type 0 where
  pub line : List ℕ
  pub session : After
  pub none : has_feed line ≡ false
  pub held : r ≡ reader_at (take 195 line) session
  pub prints : (more : List ℕ) → printed_from (p ++ (chunk ++ more)) a ≡ text ++ printed_from (line ++ (left ++ more)) session
  pub ends : (more : List ℕ) → after_lines (lines_of (p ++ (chunk ++ more))) a ≡ after_lines (lines_of (line ++ (left ++ more))) session

pub led_none : (p : List ℕ) (a : After) → has_feed p ≡ false → Led p [] a [] (reader_at (take 195 p) a) []
led_none p a e = record { line = p; session = a; none = e; held = refl; prints = λ more. refl; ends = λ more. refl }

pub led_then : (p chunk : List ℕ) (a : After) (text : List ℕ) (r : Reader) (left text' : List ℕ) (r' : Reader) (left' : List ℕ) (one : Led p chunk a text r left) →
    Led one.line left one.session text' r' left' → Led p chunk a (text ++ text') r' left'
led_then p chunk a text r left text' r' left' one two =
    record {
      line = two.line;
      session = two.session;
      none = two.none;
      held = two.held;
      prints = λ more. one.prints more ∙ ap (λ (s : List ℕ). text ++ s) (two.prints more) ∙ sym (append_assoc text text' (printed_from (two.line ++ (left' ++ more)) two.session));
      ends = λ more. one.ends more ∙ two.ends more;
    }

-- one turn, where what is kept is the front of the characters p since the last line feed
module _ (chunk p : List ℕ) (a : After) (none : has_feed p ≡ false) where
  abbrev here : Turn
  here = turn_of chunk (reader_at (take 195 p) a)

  turn_ended : has_feed chunk ≡ true → (here.outcome ≡ answered (next (p ++ before_feed chunk) a)) × (here.consumed ≡ suc (length (before_feed chunk)))
  unfolding turn_of kept_of
  turn_ended e =
      let line = p ++ before_feed chunk in
      let same : after_line (take 195 (take 195 p ++ before_feed chunk)) a.left a.right a.stepped.state a.out ≡ next line a =
      rw (front_over 195 p (before_feed chunk)) (kept_answers line a.left a.right a.stepped.state a.out) in
      (rw e (ap answered same), rw e (omega arith))

  turn_kept : has_feed chunk ≡ false → (here.outcome ≡ outcome [] (reader_at (take 195 (p ++ chunk)) a)) × (here.consumed ≡ length chunk)
  unfolding turn_of kept_of
  turn_kept e = (rw (e, before_all chunk e, front_over 195 p chunk) refl, rw (e, before_all chunk e) (omega arith))

  led_ended : has_feed chunk ≡ true → Led p chunk a here.outcome.printed here.outcome.reader (drop here.consumed chunk)
  unfolding printed_from after_lines replies flatten
  led_ended e =
      let line = p ++ before_feed chunk in
      let left = drop (suc (length (before_feed chunk))) chunk in
      let whole : has_feed line ≡ false = none_both p (before_feed chunk) none (before_none chunk) in
      let lines : (more : List ℕ) → lines_of (p ++ (chunk ++ more)) ≡ line ∷ lines_of (left ++ more) =
      λ more. ap (λ (cs : List ℕ). lines_of (p ++ (cs ++ more))) (around chunk e) ∙ (simp append_assoc) ∙ lines_more line (left ++ more) whole in
      rw ((turn_ended e).0, (turn_ended e).1)
      (record {
        line = [];
        session = next line a;
        none = empty_none;
        held = refl;
        prints = λ more. rw (lines more) refl;
        ends = λ more. rw (lines more) refl;
      })

  led_kept : has_feed chunk ≡ false → Led p chunk a here.outcome.printed here.outcome.reader (drop here.consumed chunk)
  led_kept e =
      rw ((turn_kept e).0, (turn_kept e).1, drop-length)
      (record {
        line = p ++ chunk;
        session = a;
        none = none_both p chunk none e;
        held = refl;
        prints = λ more. rw (append_assoc p chunk more) refl;
        ends = λ more. rw (append_assoc p chunk more) refl;
      })

  pub led_turn : Led p chunk a here.outcome.printed here.outcome.reader (drop here.consumed chunk)
  led_turn = cases (has_feed chunk) refl
    where
      cases : (b : Bool) → has_feed chunk ≡ b → Led p chunk a here.outcome.printed here.outcome.reader (drop here.consumed chunk)
      cases true e = led_ended e
      cases false e = led_kept e

-- a turn consumes a character at least
pub turn_forward : (chunk : List ℕ) (r : Reader) → 0 < length chunk → 0 < (turn_of chunk r).consumed
unfolding turn_of
turn_forward chunk r more = cases (has_feed chunk) refl
  where
    cases : (b : Bool) → has_feed chunk ≡ b → 0 < length (before_feed chunk) + cond b 1 0
    cases true e = omega arith
    cases false e = rw (before_all chunk e) (omega arith)

-- and no more than there are
pub turn_within : (chunk : List ℕ) (r : Reader) → (turn_of chunk r).consumed ≤ length chunk
unfolding turn_of
turn_within chunk r = cases (has_feed chunk) refl
  where
    cases : (b : Bool) → has_feed chunk ≡ b → length (before_feed chunk) + cond b 1 0 ≤ length chunk
    cases true e = omega (arith, feed_inside chunk e)
    cases false e = rw (before_all chunk e) (omega arith)

no_more : (cs : List ℕ) → length cs ≤ 0 → cs ≡ []
no_more [] h = refl
no_more (c ∷ cs) h = let z : ◌≡◌ {A = ℕ} 0 1 = omega arith in cc

left_fewer : (n : ℕ) (chunk : List ℕ) (r : Reader) → length chunk ≤ suc n → length (drop (turn_of chunk r).consumed chunk) ≤ n
left_fewer n chunk r h = cases (ltb 0 (length chunk)) refl
  where
    cases : (b : Bool) → ltb 0 (length chunk) ≡ b → length (drop (turn_of chunk r).consumed chunk) ≤ n
    cases true e = let more : 0 < length chunk = ltb-true _ _ e in omega (arith, turn_forward chunk r more, length-drop (turn_of chunk r).consumed chunk)
    cases false e = let end : length chunk ≤ 0 = ltb-false _ _ e in omega (arith, length-drop (turn_of chunk r).consumed chunk)

-- as many turns as characters consume a chunk
led_turns : (n : ℕ) (chunk p : List ℕ) (a : After) (r : Reader) → r ≡ reader_at (take 195 p) a → has_feed p ≡ false → length chunk ≤ n →
    Led p chunk a (turns_of n chunk r).printed (turns_of n chunk r).reader []
unfolding turns_of
led_turns zero chunk p a r is none h = rw (no_more chunk h, is) (led_none p a none)
led_turns (suc n) chunk p a r is none h =
    let left = drop (turn_of chunk r).consumed chunk in
    let one : Led p chunk a (turn_of chunk r).outcome.printed (turn_of chunk r).outcome.reader left = rw is (led_turn chunk p a none) in
    let rest = turns_of n left (turn_of chunk r).outcome.reader in
    let two : Led one.line left one.session rest.printed rest.reader [] =
    led_turns n left one.line one.session (turn_of chunk r).outcome.reader one.held one.none (left_fewer n chunk r h) in
    pick rest.printed rest.reader (led_then p chunk a (turn_of chunk r).outcome.printed (turn_of chunk r).outcome.reader left rest.printed rest.reader [] one two) (ltb 0 (length chunk)) refl
  where
    pick : (text : List ℕ) (r' : Reader) → Led p chunk a ((turn_of chunk r).outcome.printed ++ text) r' [] → (b : Bool) → ltb 0 (length chunk) ≡ b →
        Led p chunk a (cond b (outcome ((turn_of chunk r).outcome.printed ++ text) r') (outcome [] r)).printed (cond b (outcome ((turn_of chunk r).outcome.printed ++ text) r') (outcome [] r)).reader []
    pick text r' led true e = led
    pick text r' led false e = let end : length chunk ≤ 0 = ltb-false _ _ e in rw (no_more chunk end, is) (led_none p a none)

-- the end of the input
pub end_answers : (p : List ℕ) (a : After) → has_feed p ≡ false →
    ((end_of (reader_at (take 195 p) a)).printed ≡ printed_from p a) × ((end_of (reader_at (take 195 p) a)).reader ≡ reader_at [] (after_lines (lines_of p) a))
unfolding end_of printed_from after_lines replies flatten lines_of
end_answers [] a e = (refl, refl)
end_answers (c ∷ p) a e =
    let more : 0 < length (take 195 (c ∷ p)) = omega arith in
    let some : ltb 0 (length (take 195 (c ∷ p))) ≡ true = lt-ltb _ _ more in
    rw (lines_last c p e, kept_answers (c ∷ p) a.left a.right a.stepped.state a.out, some, append-nil) (refl, refl)

-- The whole input, from a session a and the characters p of a line that has begun.
run_answers : (chunks : List (List ℕ)) (p : List ℕ) (a : After) (r : Reader) → r ≡ reader_at (take 195 p) a → has_feed p ≡ false →
    ((run_of chunks r).printed ≡ printed_from (p ++ flatten chunks) a) × ((run_of chunks r).reader ≡ reader_at [] (after_lines (lines_of (p ++ flatten chunks)) a))
unfolding run_of flatten
run_answers [] p a r is none = rw (is, append-nil) (end_answers p a none)
run_answers (chunk ∷ chunks) p a r is none =
    let led = led_turns (length chunk) chunk p a r is none (omega arith) in
    let here = turns_of (length chunk) chunk r in
    let rest = run_answers chunks led.line led.session here.reader led.held led.none in (
      ap (λ (s : List ℕ). here.printed ++ s) rest.0 ∙ sym (led.prints (flatten chunks)),
      rest.1 ∙ ap (reader_at []) (sym (led.ends (flatten chunks))),
    )

pub chunks_answered : (chunks : List (List ℕ)) (a : After) →
    ((run_of chunks (reader_at [] a)).printed ≡ printed_from (flatten chunks) a) × ((run_of chunks (reader_at [] a)).reader ≡ reader_at [] (after_lines (lines_of (flatten chunks)) a))
chunks_answered chunks a = run_answers chunks [] a (reader_at [] a) refl empty_none

-- from the start, for an input that is cut in any way
pub input_answered : (input : List ℕ) (chunks : List (List ℕ)) → flatten chunks ≡ input → (run_of chunks (reader_at [] fresh)).printed ≡ printed input
input_answered input chunks e = rw (← e) (chunks_answered chunks fresh).0
