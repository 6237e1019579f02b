-- A refused line changes no store, no byte of the output and no state, but that a close whose image is refused empties its side.
-- By the frame's variants; what is done to a side is refused exactly where its reply is.
use mathlib.Core.Path.{◌≡◌, refl}
use mathlib.Core.Bool.{Bool, true, false, cond, false≢true}
use mathlib.Core.List.{List}
use Prim.Native.Nat.{ℕ, ◌+◌}
use lib.ListN.{length}
use lib.Seq.{paste}
use Rattle.image.specs.declared.answer.Side.{Side}
use Rattle.image.specs.declared.answer.Side.TheVariants.{Left, Right}
use Rattle.image.specs.Faults.{Checked, check_image}
use Rattle.std.proofs.Common.{Ok, Err}
use Rattle.answers.specs.Answers.{write_answer, write_output}
use Rattle.api.proofs.RefusedWrites.{refused_unwritten}
use Rattle.session.specs.Frames.{Asked, Piece, Close, Compare, CompareRange, Write, Empty}
use Rattle.session.specs.declared.reply.Reply.TheVariants.{Done}
use Rattle.session.specs.declared.reply.Refusal.TheVariants.{PastStore, Closed, Open}
use Rattle.session.specs.Frames.{frame_of}
use Rattle.session.specs.Lines.{bytes_of}
use Rattle.session.specs.Replies.{written_reply}
use Rattle.session.specs.Steps.{SideState, State, side_state, side_stepped, emptied, image_of, past_store, piece_side, piece_store, closed_by, close_side, store_of, side_of, write_reply, write_out, piece_stepped, close_stepped, write_stepped, written_out, empty_stepped, After, obeyed, after_frame, after_line}
use Rattle.session.specs.Sessions.{next, refusal, refused_state, Unchanged}

-- a piece
piece_refused : (store : List ℕ) (s : SideState) (bytes : List ℕ) → refusal (piece_side store s bytes).reply ≡ true → ((piece_side store s bytes).state ≡ s) × (piece_store store s bytes ≡ store)
unfolding piece_side piece_store
piece_refused store s bytes = by_closed s.closed
  where
    fits : SideState
    fits = side_state (s.used + length bytes) false

    by_past : (b : Bool) → refusal (cond b (side_stepped s (Err PastStore)) (side_stepped fits (Ok Done))).reply ≡ true →
        ((cond b (side_stepped s (Err PastStore)) (side_stepped fits (Ok Done))).state ≡ s) × (cond b store (paste store s.used bytes (length bytes)) ≡ store)
    by_past true e = (refl, refl)
    by_past false e = absurd (false≢true e)

    by_closed : (b : Bool) → refusal (cond b (side_stepped s (Err Closed)) (cond (past_store store s bytes) (side_stepped s (Err PastStore)) (side_stepped fits (Ok Done)))).reply ≡ true →
        ((cond b (side_stepped s (Err Closed)) (cond (past_store store s bytes) (side_stepped s (Err PastStore)) (side_stepped fits (Ok Done)))).state ≡ s)
        × (cond b store (cond (past_store store s bytes) store (paste store s.used bytes (length bytes))) ≡ store)
    by_closed true e = (refl, refl)
    by_closed false e = by_past (past_store store s bytes) e

-- a close: of a closed side nothing is changed, an open side is emptied
close_refused : (store : List ℕ) (s : SideState) → refusal (close_side store s).reply ≡ true → (close_side store s).state ≡ cond s.closed s emptied
unfolding close_side
close_refused store s = by_closed s.closed
  where
    by_check : (x : Checked) → refusal (closed_by x s.used).reply ≡ true → (closed_by x s.used).state ≡ emptied
    by_check (Ok _) e = absurd (false≢true e)
    by_check (Err f) e = refl

    by_closed : (b : Bool) → refusal (cond b (side_stepped s (Err Closed)) (closed_by (check_image (image_of s store)) s.used)).reply ≡ true →
        (cond b (side_stepped s (Err Closed)) (closed_by (check_image (image_of s store)) s.used)).state ≡ cond b s emptied
    by_closed true e = refl
    by_closed false e = by_check (check_image (image_of s store)) e

-- a write
write_refused : (store : List ℕ) (s : SideState) (side : Side) (i n : ℕ) (out : List ℕ) → refusal (write_reply store s side i n out) ≡ true → write_out store s i n out ≡ out
unfolding write_reply write_out
write_refused store s side i n out = by_closed s.closed
  where
    by_closed : (b : Bool) → refusal (cond b (written_reply (write_answer (image_of s store) i n out) side) (Err Open)) ≡ true → cond b (write_output (image_of s store) i n out) out ≡ out
    by_closed true e = refused_unwritten (image_of s store) i n out (λ k wrote. false≢true (rw wrote at e))
    by_closed false e = refl

frame_refused : (f : Asked) (left right : List ℕ) (state : State) (out : List ℕ) → refusal (obeyed f left right state out).stepped.reply ≡ true →
    ((obeyed f left right state out).left ≡ left) × ((obeyed f left right state out).right ≡ right) × ((obeyed f left right state out).out ≡ out)
    × ((obeyed f left right state out).stepped.state ≡ refused_state f state)
unfolding piece_stepped close_stepped write_stepped written_out empty_stepped
frame_refused (Ok (Piece Left bytes)) left right state out e =
    let side = piece_refused left state.left bytes e in
    (side.1, refl, refl, rw side.0 refl)
frame_refused (Ok (Piece Right bytes)) left right state out e =
    let side = piece_refused right state.right bytes e in
    (refl, side.1, refl, rw side.0 refl)
frame_refused (Ok (Close Left)) left right state out e = (refl, refl, refl, rw (close_refused left state.left e) (cases state.left.closed))
  where
    cases : (c : Bool) → ◌≡◌ {A = State} (record { left = cond c state.left emptied; right = state.right }) (cond c state (record { left = emptied; right = state.right }))
    cases true = refl
    cases false = refl
frame_refused (Ok (Close Right)) left right state out e = (refl, refl, refl, rw (close_refused right state.right e) (cases state.right.closed))
  where
    cases : (c : Bool) → ◌≡◌ {A = State} (record { left = state.left; right = cond c state.right emptied }) (cond c state (record { left = state.left; right = emptied }))
    cases true = refl
    cases false = refl
frame_refused (Ok Compare) left right state out e = (refl, refl, refl, refl)
frame_refused (Ok (CompareRange i j n)) left right state out e = (refl, refl, refl, refl)
frame_refused (Ok (Write side i n)) left right state out e = (refl, refl, write_refused (store_of side left right) (side_of side state) side i n out e, refl)
frame_refused (Ok (Empty Left)) left right state out e = absurd (false≢true e)
frame_refused (Ok (Empty Right)) left right state out e = absurd (false≢true e)
frame_refused (Err fault) left right state out e = (refl, refl, refl, refl)

pub refused_keeps : (line : List ℕ) (a : After) → refusal (next line a).stepped.reply ≡ true → Unchanged line a
unfolding after_line after_frame
refused_keeps line a e =
    let same = frame_refused (frame_of (bytes_of line)) a.left a.right a.stepped.state a.out e in
    record { left = same.0; right = same.1; out = same.2; state = same.3 }
