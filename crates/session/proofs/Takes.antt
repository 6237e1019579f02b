-- What a call of `turn` or `end` does is what the definition of a turn, or of the input's end, says; what its caller holds
-- afterwards.
-- What is kept stands at the front of the line; the answer is that of `step` and `render`.
use mathlib.Core.Path.{◌≡◌, refl, ◌∙◌}
use mathlib.Core.Bool.{true, false}
use mathlib.Core.List.{List, [], ◌++◌}
use Prim.Native.Nat.{ℕ, ◌+◌, ◌≤◌, ◌<◌}
use native.Mathlib.Omega.{arith}
use lib.ListN.{length, drop, length-take}
use lib.Seq.{take-append_seam}
use borrow.Author.Tests.{lt-ltb}
use Rattle.session.specs.declared.turn.Progress.{Progress}
use Rattle.session.specs.declared.turn.Taken.{Taken}
use Rattle.session.specs.declared.feed.Line.{Line}
use Rattle.session.specs.Feeds.{before_feed, has_feed, kept_of, kept_with}
use Rattle.session.specs.Replies.{Replied, reply_line}
use Rattle.session.specs.Stores.{kept_in, after_of, after_line_of}
use Rattle.session.specs.Turns.{Reader, reader, outcome, Turn, line_at, answered, turn_of, end_of, held_in, Told, Turned}
use Rattle.session.proofs.Feeds.{before_all}
use Rattle.session.proofs.Turns.{turn_forward, turn_within}

-- a line that is stepped and rendered, after which none is kept
pub told_line : (p : Progress) (line : List ℕ) (after : Progress) (r : Replied) (k : ℕ) (text₀ text₁ : List ℕ) → after_of r after.session ≡ after_line_of line p.session → after.line.len ≡ 0 →
    k ≡ length (reply_line r after.session.out) → text₁ ≡ reply_line r after.session.out ++ drop k text₀ → Told (answered (line_at line (held_in p))) (held_in after) k text₀ text₁
told_line p line after r k text₀ text₁ e none ek et =
    rw (← e) (record { held = rw none refl; printed = ek; text = et ∙ rw ek refl })

-- nothing was done
told_none : (r : Reader) (text : List ℕ) → Told (outcome [] r) r 0 text text
told_none r text = record { held = refl; printed = refl; text = refl }

-- the end of the input
pub end_none : (p : Progress) (text : List ℕ) → p.line.len ≤ 0 → Told (end_of (held_in p)) (held_in p) 0 text text
unfolding end_of
end_none p text h =
    let none : p.line.len ≡ 0 = omega arith in
    rw none (told_none (reader [] (held_in p).state (held_in p).left (held_in p).right (held_in p).out) text)

pub end_line : (p : Progress) (after : Reader) (k : ℕ) (text₀ text₁ : List ℕ) → 0 < p.line.len → 0 < length p.line.chars →
    Told (answered (line_at (held_in p).kept (held_in p))) after k text₀ text₁ → Told (end_of (held_in p)) after k text₀ text₁
unfolding end_of
end_line p after k text₀ text₁ some long told =
    let more : 0 < length (kept_in p.line) = omega (arith, length-take p.line.len p.line.chars) in
    rw (lt-ltb 0 (length (kept_in p.line)) more) told

-- a line that more characters were taken to
pub record Added (before after : Line) (more : List ℕ) : Type 0 where
  pub len : after.len ≡ length (kept_with (kept_in before) more)
  pub chars : after.chars ≡ kept_with (kept_in before) more ++ drop (length (kept_with (kept_in before) more)) before.chars

added_front : (before after : Line) (more : List ℕ) → Added before after more → kept_in after ≡ kept_with (kept_in before) more
added_front before after more a = rw (a.len, a.chars) (take-append_seam (kept_with (kept_in before) more) _)

-- a turn over a chunk
module _ (chunk : List ℕ) (p : Progress) (text₀ : List ℕ) (line : Line) where
  abbrev here : Turn
  here = turn_of chunk (held_in p)

  abbrev fed : Progress
  fed = record p { line = line }

  pub turn_kept : has_feed chunk ≡ false → Added p.line line chunk → Turned here p text₀ (record { consumed = length chunk; printed = 0 }) fed text₀
  unfolding turn_of kept_of
  turn_kept none a =
      let all : before_feed chunk ≡ chunk = before_all chunk none in
      rw (none, all)
      (record {
        told = rw (added_front p.line line chunk a) (told_none (reader (kept_with (kept_in p.line) chunk) (held_in p).state (held_in p).left (held_in p).right (held_in p).out) text₀);
        consumed = omega arith;
        kept = a.len;
        chars = a.chars;
      })

  pub turn_ended : (after : Progress) (k : ℕ) (text₁ : List ℕ) → has_feed chunk ≡ true → Added p.line line (before_feed chunk) →
      Told (answered (line_at (held_in fed).kept (held_in fed))) (held_in after) k text₀ text₁ → after.line.chars ≡ line.chars → after.line.len ≡ 0 →
      Turned here p text₀ (record { consumed = length (before_feed chunk) + 1; printed = k }) after text₁
  unfolding turn_of kept_of
  turn_ended after k text₁ some a told chars len =
      rw some
      (record {
        told = rw (added_front p.line line (before_feed chunk) a) at told;
        consumed = refl;
        kept = len;
        chars = chars ∙ a.chars;
      })

-- For a caller: what is consumed stands within the chunk, and a turn goes on.
pub turned_within : (chunk : List ℕ) (p : Progress) (text₀ : List ℕ) (t : Taken) (after : Progress) (text₁ : List ℕ) → Turned (turn_of chunk (held_in p)) p text₀ t after text₁ → t.consumed ≤ length chunk
turned_within chunk p text₀ t after text₁ turned = omega (arith, turned.consumed, turn_within chunk (held_in p))

pub turned_forward : (chunk : List ℕ) (p : Progress) (text₀ : List ℕ) (t : Taken) (after : Progress) (text₁ : List ℕ) → Turned (turn_of chunk (held_in p)) p text₀ t after text₁ → 0 < length chunk → 0 < t.consumed
turned_forward chunk p text₀ t after text₁ turned more = omega (arith, turned.consumed, turn_forward chunk (held_in p) more)
