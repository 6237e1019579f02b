-- What a line does: the reply, the state after it, both stores and the output, for every line and every state.
use Rattle.std.specs.Prelude.{Bool, true, false, cond, ◌&&◌, List, ℕ, ◌+◌, length, take, ltb, Result, Ok, Err}
use Rattle.std.proofs.Math.Seq.{paste}
use Rattle.image.specs.declared.answer.Side.{Side}
use Rattle.image.specs.declared.answer.Side.TheVariants.{Left, Right}
use Rattle.image.specs.Faults.{Checked, check_image}
use Rattle.answers.specs.Answers.{compare_answer, compare_range_answer, write_answer, write_output}
use Rattle.session.specs.declared.reply.Reply.TheVariants.{Done}
use Rattle.session.specs.declared.reply.Refusal.{Refusal}
use Rattle.session.specs.declared.reply.Refusal.TheVariants.{NoFrame, Faulty, PastStore, Closed, Open}
use Rattle.session.specs.Lines.{bytes_of}
use Rattle.session.specs.Frames.{Asked, Piece, Close, Compare, CompareRange, Write, Empty, frame_of}
use Rattle.session.specs.Replies.{Replied, compared_reply, ranges_reply, written_reply}

-- one side: how much of its store is used, and whether it is closed
pub record SideState : Type 0 where
  pub used : ℕ
  pub closed : Bool

pub record State : Type 0 where
  pub left : SideState
  pub right : SideState

-- a reply, and the side or the state after it
pub record SideStepped : Type 0 where
  pub state : SideState
  pub reply : Replied

pub record Stepped : Type 0 where
  pub state : State
  pub reply : Replied

abbrev pub side_state : ℕ → Bool → SideState
side_state used closed = record { used = used; closed = closed }

abbrev pub side_stepped : SideState → Replied → SideStepped
side_stepped s reply = record { state = s; reply = reply }

-- a side that is empty and open
abbrev pub emptied : SideState
emptied = side_state 0 false

-- "Both start empty and open"
abbrev pub start_state : State
start_state = record { left = emptied; right = emptied }

-- a side's image: what was stored, and not the whole store
unfoldable pub image_of : SideState → List ℕ → List ℕ
image_of s store = take s.used store

-- the image of a side that is closed; 42 of a side that is open
abbrev pub accepted_of : SideState → List ℕ → Result (List ℕ) Refusal
accepted_of s store = cond s.closed (Ok (image_of s store)) (Err Open)

-- 40: "piece past its store"
unfoldable pub past_store : List ℕ → SideState → List ℕ → Bool
past_store store s bytes = ltb (length store) (s.used + length bytes)

-- a piece for a side: 41 where the side is closed, then 40
unfoldable pub piece_side : List ℕ → SideState → List ℕ → SideStepped
piece_side store s bytes =
    cond s.closed (side_stepped s (Err Closed)) (cond (past_store store s bytes) (side_stepped s (Err PastStore)) (side_stepped (side_state (s.used + length bytes) false) (Ok Done)))

-- the store after a piece: the piece stands after what was stored, or nothing is changed
unfoldable pub piece_store : List ℕ → SideState → List ℕ → List ℕ
piece_store store s bytes = cond s.closed store (cond (past_store store s bytes) store (paste store s.used bytes (length bytes)))

-- "a close whose image is refused leaves its side so": empty and open
abbrev pub closed_by : Checked → ℕ → SideStepped
closed_by (Ok _) used = side_stepped (side_state used true) (Ok Done)
closed_by (Err f) used = side_stepped emptied (Err (Faulty f))

-- a close: 41 where the side is closed, then what the check answers
unfoldable pub close_side : List ℕ → SideState → SideStepped
close_side store s = cond s.closed (side_stepped s (Err Closed)) (closed_by (check_image (image_of s store)) s.used)

abbrev pub closed_both : State → Bool
closed_both state = state.left.closed && state.right.closed

-- 42: "comparing or writing with a needed side open"
unfoldable pub both_closed : State → Replied → Replied
both_closed state reply = cond (closed_both state) reply (Err Open)

unfoldable pub compares_reply : List ℕ → List ℕ → State → Replied
compares_reply left right state =
    let reply = compared_reply (compare_answer (image_of state.left left) (image_of state.right right)) in
    both_closed state reply

unfoldable pub range_reply : List ℕ → List ℕ → State → ℕ → ℕ → ℕ → Replied
range_reply left right state i j n =
    let reply = ranges_reply (compare_range_answer (image_of state.left left) (image_of state.right right) i j n) in
    both_closed state reply

unfoldable pub write_reply : List ℕ → SideState → Side → ℕ → ℕ → List ℕ → Replied
write_reply store s side i n out =
    let reply = written_reply (write_answer (image_of s store) i n out) side in
    cond s.closed reply (Err Open)

-- the output after a write
unfoldable pub write_out : List ℕ → SideState → ℕ → ℕ → List ℕ → List ℕ
write_out store s i n out =
    let written = write_output (image_of s store) i n out in
    cond s.closed written out

-- one side of a state, and its store
abbrev pub side_of : Side → State → SideState
side_of Left state = state.left
side_of Right state = state.right

abbrev pub store_of : Side → List ℕ → List ℕ → List ℕ
store_of Left left right = left
store_of Right left right = right

-- a reply, and the state with that side changed
abbrev pub with_side : Side → SideStepped → State → Stepped
with_side Left changed state = record { state = record { left = changed.state; right = state.right }; reply = changed.reply }
with_side Right changed state = record { state = record { left = state.left; right = changed.state }; reply = changed.reply }

-- a reply, and the state as it was
abbrev pub replied : Replied → State → Stepped
replied reply state = record { state = state; reply = reply }

-- a piece for a side, and the two stores after it
unfoldable pub piece_stepped : Side → List ℕ → List ℕ → List ℕ → State → Stepped
piece_stepped side bytes left right state = with_side side (piece_side (store_of side left right) (side_of side state) bytes) state

abbrev pub piece_left : Side → List ℕ → List ℕ → State → List ℕ
piece_left Left bytes left state = piece_store left state.left bytes
piece_left Right bytes left state = left

abbrev pub piece_right : Side → List ℕ → List ℕ → State → List ℕ
piece_right Left bytes right state = right
piece_right Right bytes right state = piece_store right state.right bytes

unfoldable pub close_stepped : Side → List ℕ → List ℕ → State → Stepped
close_stepped side left right state = with_side side (close_side (store_of side left right) (side_of side state)) state

-- a write of rows of a side, and the output after it
unfoldable pub write_stepped : Side → List ℕ → List ℕ → State → ℕ → ℕ → List ℕ → Stepped
write_stepped side left right state i n out = replied (write_reply (store_of side left right) (side_of side state) side i n out) state

unfoldable pub written_out : Side → List ℕ → List ℕ → State → ℕ → ℕ → List ℕ → List ℕ
written_out side left right state i n out = write_out (store_of side left right) (side_of side state) i n out

-- "07 side, empty and open"
unfoldable pub empty_stepped : Side → State → Stepped
empty_stepped side state = with_side side (side_stepped emptied (Ok Done)) state

-- everything that a line may change
pub record After : Type 0 where
  pub stepped : Stepped
  pub left : List ℕ
  pub right : List ℕ
  pub out : List ℕ

abbrev pub after : Stepped → List ℕ → List ℕ → List ℕ → After
after stepped left right out = record { stepped = stepped; left = left; right = right; out = out }

-- what a line asks for, obeyed
abbrev pub obeyed : Asked → List ℕ → List ℕ → State → List ℕ → After
obeyed (Ok (Piece side bytes)) left right state out = after (piece_stepped side bytes left right state) (piece_left side bytes left state) (piece_right side bytes right state) out
obeyed (Ok (Close side)) left right state out = after (close_stepped side left right state) left right out
obeyed (Ok Compare) left right state out = after (replied (compares_reply left right state) state) left right out
obeyed (Ok (CompareRange i j n)) left right state out = after (replied (range_reply left right state i j n) state) left right out
obeyed (Ok (Write side i n)) left right state out = after (write_stepped side left right state i n out) left right (written_out side left right state i n out)
obeyed (Ok (Empty side)) left right state out = after (empty_stepped side state) left right out
obeyed (Err fault) left right state out = after (replied (Err (NoFrame fault)) state) left right out

unfoldable pub after_frame : List ℕ → List ℕ → List ℕ → State → List ℕ → After
after_frame b left right state out = obeyed (frame_of b) left right state out

-- a line
unfoldable pub after_line : List ℕ → List ℕ → List ℕ → State → List ℕ → After
after_line line left right state out = after_frame (bytes_of line) left right state out
