-- After any lines, from the start on, a side that is closed holds an accepted image.
-- Only a close that the check accepts closes a side, and what is for a closed side changes neither it nor its store.
use mathlib.Core.Path.{◌≡◌, refl, sym, ◌∙◌}
use mathlib.Core.Bool.{Bool, true, false, cond, false≢true}
use mathlib.Core.List.{List, [], ◌∷◌}
use Prim.Native.Nat.{ℕ, ◌+◌}
use lib.ListN.{length}
use lib.Seq.{paste}
use Rattle.image.specs.declared.answer.Side.TheVariants.{Left, Right}
use Rattle.image.specs.Faults.{Checked, check_image}
use Rattle.std.proofs.Common.{Ok, Err}
use Rattle.session.specs.Frames.{Asked, Piece, Close, Compare, CompareRange, Write, Empty}
use Rattle.session.specs.declared.reply.Reply.TheVariants.{Done}
use Rattle.session.specs.declared.reply.Refusal.TheVariants.{PastStore, Closed}
use Rattle.session.specs.Frames.{frame_of}
use Rattle.session.specs.Lines.{bytes_of}
use Rattle.session.specs.Steps.{SideState, State, side_state, side_stepped, emptied, image_of, past_store, piece_side, piece_store, closed_by, close_side, piece_stepped, close_stepped, write_stepped, empty_stepped, After, obeyed, after_frame, after_line}
use Rattle.session.specs.Sessions.{started, next, after_lines, Sound, BothSound}

-- an open side is sound whatever it holds
open_sound : (s : SideState) (store : List ℕ) → s.closed ≡ false → Sound s store
open_sound s store e closed = absurd (false≢true (sym e ∙ closed))

piece_sound : (store : List ℕ) (s : SideState) (bytes : List ℕ) → Sound s store → Sound (piece_side store s bytes).state (piece_store store s bytes)
unfolding piece_side piece_store
piece_sound store s bytes sound = by_closed s.closed refl
  where
    by_past : (b : Bool) → s.closed ≡ false → Sound (cond b (side_stepped s (Err PastStore)) (side_stepped (side_state (s.used + length bytes) false) (Ok Done))).state (cond b store (paste store s.used bytes (length bytes)))
    by_past true e = open_sound s store e
    by_past false e = open_sound (side_state (s.used + length bytes) false) _ refl

    by_closed : (b : Bool) → s.closed ≡ b →
        Sound
        (cond b (side_stepped s (Err Closed)) (cond (past_store store s bytes) (side_stepped s (Err PastStore)) (side_stepped (side_state (s.used + length bytes) false) (Ok Done)))).state
        (cond b store (cond (past_store store s bytes) store (paste store s.used bytes (length bytes))))
    by_closed true e = sound
    by_closed false e = by_past (past_store store s bytes) e

close_sound : (store : List ℕ) (s : SideState) → Sound s store → Sound (close_side store s).state store
unfolding close_side image_of
close_sound store s sound = by_closed s.closed
  where
    by_check : (x : Checked) → check_image (image_of s store) ≡ x → Sound (closed_by x s.used).state store
    by_check (Ok _) e = λ closed. e
    by_check (Err f) e = open_sound emptied store refl

    by_closed : (b : Bool) → Sound (cond b (side_stepped s (Err Closed)) (closed_by (check_image (image_of s store)) s.used)).state store
    by_closed true = sound
    by_closed false = by_check (check_image (image_of s store)) refl

frame_sound : (f : Asked) (left right : List ℕ) (state : State) (out : List ℕ) → Sound state.left left → Sound state.right right → BothSound (obeyed f left right state out)
unfolding piece_stepped close_stepped write_stepped empty_stepped
frame_sound (Ok (Piece Left bytes)) left right state out p q = record { left = piece_sound left state.left bytes p; right = q }
frame_sound (Ok (Piece Right bytes)) left right state out p q = record { left = p; right = piece_sound right state.right bytes q }
frame_sound (Ok (Close Left)) left right state out p q = record { left = close_sound left state.left p; right = q }
frame_sound (Ok (Close Right)) left right state out p q = record { left = p; right = close_sound right state.right q }
frame_sound (Ok Compare) left right state out p q = record { left = p; right = q }
frame_sound (Ok (CompareRange i j n)) left right state out p q = record { left = p; right = q }
frame_sound (Ok (Write side i n)) left right state out p q = record { left = p; right = q }
frame_sound (Ok (Empty Left)) left right state out p q = record { left = open_sound emptied left refl; right = q }
frame_sound (Ok (Empty Right)) left right state out p q = record { left = p; right = open_sound emptied right refl }
frame_sound (Err fault) left right state out p q = record { left = p; right = q }

line_sound : (line : List ℕ) (a : After) → BothSound a → BothSound (next line a)
unfolding after_line after_frame
line_sound line a sound = frame_sound (frame_of (bytes_of line)) a.left a.right a.stepped.state a.out sound.left sound.right

lines_sound : (lines : List (List ℕ)) (a : After) → BothSound a → BothSound (after_lines lines a)
unfolding after_lines
lines_sound [] a sound = sound
lines_sound (line ∷ lines) a sound = lines_sound lines (next line a) (line_sound line a sound)

pub closed_accepted : (lines : List (List ℕ)) (left right out : List ℕ) → BothSound (after_lines lines (started left right out))
closed_accepted lines left right out =
    lines_sound lines (started left right out) (record { left = open_sound emptied left refl; right = open_sound emptied right refl })
