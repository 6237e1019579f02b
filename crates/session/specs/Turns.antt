-- Turns: what is done with the chunks that an input arrives in, a line at a time, and at the input's end.
use Rattle.std.specs.Prelude.{cond, List, [], ◌∷◌, ◌++◌, ◌≡◌, ℕ, zero, suc, ◌+◌, length, drop, ltb}
use Rattle.session.specs.declared.turn.Progress.{Progress}
use Rattle.session.specs.declared.turn.Taken.{Taken}
use Rattle.session.specs.Feeds.{before_feed, has_feed, kept_of}
use Rattle.session.specs.Replies.{reply_line}
use Rattle.session.specs.Steps.{State, After, after_line}
use Rattle.session.specs.Stores.{state_of, kept_in}

-- What is held between two turns: of a line that has begun its first characters, 195 at most, and the session. Nothing is
-- kept exactly where no line has begun.
pub record Reader : Type 0 where
  pub kept : List ℕ
  pub state : State
  pub left : List ℕ
  pub right : List ℕ
  pub out : List ℕ

abbrev pub reader : List ℕ → State → List ℕ → List ℕ → List ℕ → Reader
reader kept state left right out = record { kept = kept; state = state; left = left; right = right; out = out }

-- after a line, with so many characters of the next
abbrev pub reader_at : List ℕ → After → Reader
reader_at kept a = reader kept a.stepped.state a.left a.right a.out

-- a line, from what is held on
abbrev pub line_at : List ℕ → Reader → After
line_at line r = after_line line r.left r.right r.state r.out

-- what is printed, and what is held afterwards
pub record Outcome : Type 0 where
  pub printed : List ℕ
  pub reader : Reader

abbrev pub outcome : List ℕ → Reader → Outcome
outcome printed r = record { printed = printed; reader = r }

-- a line has been answered
abbrev pub answered : After → Outcome
answered a = outcome (reply_line a.stepped.reply a.out) (reader_at [] a)

-- how many characters of a chunk a turn consumes, what it keeps of the line, what it prints and what is held afterwards
pub record Turn : Type 0 where
  pub consumed : ℕ
  pub line : List ℕ
  pub outcome : Outcome

-- A turn with the characters of a chunk that are left: those up to a line feed are taken to what is kept, and the line is
-- answered; all of them are, where there is no line feed.
unfoldable pub turn_of : List ℕ → Reader → Turn
turn_of chunk r =
    let line = kept_of r.kept chunk in
    let ended = answered (line_at line r) in
    let begun = outcome [] (reader line r.state r.left r.right r.out) in
    record { consumed = length (before_feed chunk) + cond (has_feed chunk) 1 0; line = line; outcome = cond (has_feed chunk) ended begun }

-- the end of the input: a line that has begun is answered
unfoldable pub end_of : Reader → Outcome
end_of r =
    let ended = answered (line_at r.kept r) in
    cond (ltb 0 (length r.kept)) ended (outcome [] r)

-- what a progress holds: the characters that are kept stand at the front of its line
abbrev pub held_in : Progress → Reader
held_in p = reader (kept_in p.line) (state_of p.session.stores) p.session.stores.left.bytes p.session.stores.right.bytes p.session.out

-- What is held afterwards, and what is printed: so many characters, at the front of the text. The rest of the text is as it
-- was.
pub record Told (given : Outcome) (after : Reader) (count : ℕ) (text-before text-after : List ℕ) : Type 0 where
  pub held : after ≡ given.reader
  pub printed : count ≡ length given.printed
  pub text : text-after ≡ given.printed ++ drop (length given.printed) text-before

-- after a turn also how much of the chunk was taken, how much is kept, and every character of the line
pub record Turned (turn : Turn) (before : Progress) (text-before : List ℕ) (taken : Taken) (after : Progress) (text-after : List ℕ) : Type 0 where
  pub told : Told turn.outcome (held_in after) taken.printed text-before text-after
  pub consumed : taken.consumed ≡ turn.consumed
  pub kept : after.line.len ≡ length turn.outcome.reader.kept
  pub chars : after.line.chars ≡ turn.line ++ drop (length turn.line) before.line.chars

-- The turns over a chunk: each goes on where the one before it ended. A turn consumes a character at least, so that as many
-- turns as characters are enough.
unfoldable pub turns_of : ℕ → List ℕ → Reader → Outcome
turns_of zero chunk r = outcome [] r
turns_of (suc n) chunk r =
    let t = turn_of chunk r in
    let rest = turns_of n (drop t.consumed chunk) t.outcome.reader in
    cond (ltb 0 (length chunk)) (outcome (t.outcome.printed ++ rest.printed) rest.reader) (outcome [] r)

-- the turns over chunks, and then the end
unfoldable pub run_of : List (List ℕ) → Reader → Outcome
run_of [] r = end_of r
run_of (chunk ∷ chunks) r =
    let here = turns_of (length chunk) chunk r in
    let rest = run_of chunks here.reader in
    outcome (here.printed ++ rest.printed) rest.reader
