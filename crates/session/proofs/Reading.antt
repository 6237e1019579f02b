-- What a program that reads, takes turns and prints holds at every place: what its turns over the whole input so far lead to.
-- A chunk that was read is to come; a turn takes from it; in the end nothing of it is left.
use mathlib.Core.Path.{◌≡◌, sym}
use mathlib.Core.List.{List, [], ◌++◌, append_assoc, append-nil}
use Prim.Native.Nat.{ℕ}
use lib.ListN.{drop}
use Rattle.session.specs.declared.turn.Progress.{Progress}
use Rattle.session.specs.declared.turn.Taken.{Taken}
use Rattle.session.specs.Input.{fresh, printed_from, printed}
use Rattle.session.specs.Turns.{Reader, reader_at, turn_of, end_of, held_in, Turned}
use Rattle.session.proofs.Feeds.{empty_none}
use Rattle.session.proofs.Turns.{Led, led_none, led_then, led_turn, end_answers}

-- From the start, earlier chunks and this one lead to what is held, but for what is left of this one.
pub record Read (r : Reader) (chunk left : List ℕ) : Type 0 where
  pub earlier : List ℕ
  pub text : List ℕ
  pub led : Led [] (earlier ++ chunk) fresh text r left

pub read_start : (r : Reader) → r ≡ reader_at [] fresh → Read r [] []
read_start r e = rw e (record { earlier = []; text = []; led = led_none [] fresh empty_none })

-- a chunk is read
pub read_chunk : (r : Reader) (chunk : List ℕ) → Read r [] [] → Read r chunk chunk
read_chunk r chunk read =
    let l = read.led in
    let joined : (more : List ℕ) → (read.earlier ++ chunk) ++ more ≡ (read.earlier ++ []) ++ (chunk ++ more) = λ more. simp (append_assoc, append-nil) in
    record {
      earlier = read.earlier;
      text = read.text;
      led = record {
        line = l.line;
        session = l.session;
        none = l.none;
        held = l.held;
        prints = λ more. rw (joined more) (l.prints (chunk ++ more));
        ends = λ more. rw (joined more) (l.ends (chunk ++ more));
      };
    }

-- a turn is taken
pub read_turn : (p : Progress) (chunk left text₀ : List ℕ) (t : Taken) (after : Progress) (text₁ : List ℕ) → Read (held_in p) chunk left → Turned (turn_of left (held_in p)) p text₀ t after text₁ →
    Read (held_in after) chunk (drop t.consumed left)
read_turn p chunk left text₀ t after text₁ read turned =
    let turn = turn_of left (held_in p) in
    let l = read.led in
    let here : Led l.line left l.session turn.outcome.printed turn.outcome.reader (drop turn.consumed left) = rw l.held (led_turn left l.line l.session l.none) in
    rw (turned.told.held, turned.consumed)
    (record {
      earlier = read.earlier;
      text = read.text ++ turn.outcome.printed;
      led = led_then [] (read.earlier ++ chunk) fresh read.text (held_in p) left turn.outcome.printed turn.outcome.reader (drop turn.consumed left) l here;
    })

-- a chunk is used up
pub read_on : (r : Reader) (chunk left : List ℕ) → Read r chunk left → left ≡ [] → Read r [] []
read_on r chunk left read none =
    let l : Led [] (read.earlier ++ chunk) fresh read.text r [] = rw none at read.led in
    record { earlier = read.earlier ++ chunk; text = read.text; led = rw append-nil l }

-- at the end, all that was printed is what the whole input is answered with
pub read_end : (r : Reader) (read : Read r [] []) → read.text ++ (end_of r).printed ≡ printed read.earlier
read_end r read =
    let l = read.led in
    let last : (end_of r).printed ≡ printed_from l.line l.session = rw l.held (end_answers l.line l.session l.none).0 in
    let whole : printed_from read.earlier fresh ≡ read.text ++ printed_from l.line l.session = simp append-nil at (l.prints []) in
    rw last (sym whole)
