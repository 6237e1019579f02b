-- What a session holds between two turns lies within what it has room for: the characters of a line that are kept, and the bytes
-- of each store that are used.
-- It does so at the start; each turn keeps it so, and so does the end of the input. Another progress may say more, and is answered
-- too.
use mathlib.Core.Path.{◌≡◌, refl, ap, ◌∙◌}
use mathlib.Core.Bool.{Bool, true, false, cond}
use mathlib.Core.List.{List, [], ◌++◌}
use Prim.Native.Nat.{ℕ, ◌+◌, ◌≤◌}
use native.Mathlib.Omega.{arith}
use lib.ListN.{length, drop, length-take, length-append, length-drop}
use lib.Seq.{paste}
use lib.Dec.{ltb}
use borrow.Author.Tests.{ltb-false}
use Rattle.std.proofs.Common.{Ok, Err}
use Rattle.std.proofs.lemmas.List.Edits.{length-paste}
use Rattle.image.specs.declared.answer.Side.TheVariants.{Left, Right}
use Rattle.image.specs.Faults.{Checked, check_image}
use Rattle.session.specs.declared.feed.Line.{Line}
use Rattle.session.specs.declared.store.Store.{Store}
use Rattle.session.specs.declared.turn.Progress.{Progress}
use Rattle.session.specs.declared.turn.Taken.{Taken}
use Rattle.session.specs.Frames.{Asked, Piece, Close, Compare, CompareRange, Write, Empty, frame_of}
use Rattle.session.specs.Lines.{bytes_of}
use Rattle.session.specs.Feeds.{before_feed, has_feed, kept_with, kept_of}
use Rattle.session.specs.declared.reply.Reply.TheVariants.{Done}
use Rattle.session.specs.declared.reply.Refusal.TheVariants.{PastStore, Closed}
use Rattle.session.specs.Steps.{SideState, side_state, side_stepped, State, After, image_of, past_store, piece_side, piece_store, close_side, closed_by, piece_stepped, close_stepped, write_stepped, empty_stepped, obeyed, after_frame, after_line}
use Rattle.session.specs.Input.{fresh}
use Rattle.session.specs.Turns.{Reader, reader, reader_at, line_at, outcome, answered, held_in, turn_of, end_of, Told, Turned}

-- a line and a store, whose arrays are as long as their types say, have no more in them than these
pub record LineWithin (line : Line) : Type 0 where
  pub sized : length line.chars ≡ 195
  pub few : line.len ≤ 195

pub record StoreWithin (store : Store) : Type 0 where
  pub sized : length store.bytes ≡ 24576
  pub few : store.used ≤ 24576

pub record Within (p : Progress) : Type 0 where
  pub line : LineWithin p.line
  pub left : StoreWithin p.session.stores.left
  pub right : StoreWithin p.session.stores.right

-- the same of a side and its store, and of both
record SideWithin (store : List ℕ) (s : SideState) : Type 0 where
  sized : length store ≡ 24576
  few : s.used ≤ 24576

record BothWithin (x y : List ℕ) (state : State) : Type 0 where
  left : SideWithin x state.left
  right : SideWithin y state.right

-- after a piece, and after a close
module _ {store : List ℕ} {s : SideState} (r : SideWithin store s) where
  piece_within : (b : List ℕ) → SideWithin (piece_store store s b) (piece_side store s b).state
  unfolding piece_side piece_store past_store
  piece_within b = cases s.closed (ltb (length store) (s.used + length b)) refl
    where
      cases : (closed past : Bool) → ltb (length store) (s.used + length b) ≡ past
          → SideWithin (cond closed store (cond past store (paste store s.used b (length b)))) (cond closed (side_stepped s (Err Closed)) (cond past (side_stepped s (Err PastStore)) (side_stepped (side_state (s.used + length b) false) (Ok Done)))).state
      cases true past e = r
      cases false true e = r
      cases false false e =
          let fits : s.used + length b ≤ length store = ltb-false _ _ e in
          record { sized = length-paste store s.used b (length b) fits (omega arith) ∙ r.sized; few = omega (arith, r.sized) }

  close_within : SideWithin store (close_side store s).state
  unfolding close_side
  close_within = cases s.closed (check_image (image_of s store))
    where
      cases : (closed : Bool) (c : Checked) → SideWithin store (cond closed (side_stepped s (Err Closed)) (closed_by c s.used)).state
      cases true c = r
      cases false (Ok _) = record { sized = r.sized; few = r.few }
      cases false (Err f) = record { sized = r.sized; few = omega arith }

  empty_within : SideWithin store (side_state 0 false)
  empty_within = record { sized = r.sized; few = omega arith }

-- after a line
abbrev AfterWithin : After → Type 0
AfterWithin a = BothWithin a.left a.right a.stepped.state

module _ {left right : List ℕ} {state : State} (r : BothWithin left right state) (out : List ℕ) where
  asked_within : (f : Asked) → AfterWithin (obeyed f left right state out)
  unfolding piece_stepped close_stepped write_stepped empty_stepped
  asked_within (Ok (Piece Left b)) = record { left = piece_within r.left b; right = r.right }
  asked_within (Ok (Piece Right b)) = record { left = r.left; right = piece_within r.right b }
  asked_within (Ok (Close Left)) = record { left = close_within r.left; right = r.right }
  asked_within (Ok (Close Right)) = record { left = r.left; right = close_within r.right }
  asked_within (Ok Compare) = r
  asked_within (Ok (CompareRange i j n)) = r
  asked_within (Ok (Write side i n)) = r
  asked_within (Ok (Empty Left)) = record { left = empty_within r.left; right = r.right }
  asked_within (Ok (Empty Right)) = record { left = r.left; right = empty_within r.right }
  asked_within (Err fault) = r

  line_within : (line : List ℕ) → AfterWithin (after_line line left right state out)
  unfolding after_line after_frame
  line_within line = asked_within (frame_of (bytes_of line))

-- after a turn, where a line is answered or nothing is done to the stores, and after the end
abbrev ReaderWithin : Reader → Type 0
ReaderWithin r = BothWithin r.left r.right r.state

module _ (r : Reader) (within : ReaderWithin r) where
  turn_within : (chunk : List ℕ) → ReaderWithin (turn_of chunk r).outcome.reader
  unfolding turn_of
  turn_within chunk = cases (has_feed chunk)
    where
      cases : (b : Bool) → ReaderWithin (cond b (answered (line_at (kept_of r.kept chunk) r)) (outcome [] (reader (kept_of r.kept chunk) r.state r.left r.right r.out))).reader
      cases true = line_within within r.out (kept_of r.kept chunk)
      cases false = within

  end_within : ReaderWithin (end_of r).reader
  unfolding end_of
  end_within = cases (ltb 0 (length r.kept))
    where
      cases : (b : Bool) → ReaderWithin (cond b (answered (line_at r.kept r)) (outcome [] r)).reader
      cases true = line_within within r.out r.kept
      cases false = within

-- of a line no more is kept than there is room for, and nothing at the end
module _ (chunk : List ℕ) (r : Reader) where
  turn_kept : length (turn_of chunk r).outcome.reader.kept ≤ 195
  unfolding turn_of kept_of
  turn_kept = cases (has_feed chunk)
    where
      cases : (b : Bool) → length (cond b (answered (line_at (kept_with r.kept (before_feed chunk)) r)) (outcome [] (reader (kept_with r.kept (before_feed chunk)) r.state r.left r.right r.out))).reader.kept ≤ 195
      cases true = omega arith
      cases false = omega (arith, length-take 195 (r.kept ++ before_feed chunk))

  turn_line : length (turn_of chunk r).line ≤ 195
  unfolding turn_of kept_of
  turn_line = omega (arith, length-take 195 (r.kept ++ before_feed chunk))

end_kept : (r : Reader) → length (end_of r).reader.kept ≡ 0
unfolding end_of
end_kept r = cases (ltb 0 (length r.kept)) refl
  where
    cases : (b : Bool) → ltb 0 (length r.kept) ≡ b → length (cond b (answered (line_at r.kept r)) (outcome [] r)).reader.kept ≡ 0
    cases true e = refl
    cases false e = omega (arith, ltb-false _ _ e)

-- the stores of a progress, as what is held of them
held_within : (p : Progress) → Within p → ReaderWithin (held_in p)
held_within p w = record {
  left = record { sized = w.left.sized; few = w.left.few };
  right = record { sized = w.right.sized; few = w.right.few };
}

progress_within : (p : Progress) (r : Reader) → LineWithin p.line → held_in p ≡ r → ReaderWithin r → Within p
progress_within p r line held w = record {
  line = line;
  left = record { sized = ap (λ (x : Reader). length x.left) held ∙ w.left.sized; few = omega (arith, ap (λ (x : Reader). x.state.left.used) held, w.left.few) };
  right = record { sized = ap (λ (x : Reader). length x.right) held ∙ w.right.sized; few = omega (arith, ap (λ (x : Reader). x.state.right.used) held, w.right.few) };
}

-- Before any input: what `start` gives.
pub within_start : (p : Progress) → length p.line.chars ≡ 195 → held_in p ≡ reader_at [] fresh → Within p
within_start p sized held =
    let line : LineWithin p.line = record { sized = sized; few = omega (arith, sized, length-take p.line.len p.line.chars, ap (λ (r : Reader). length r.kept) held) } in
    let store : SideWithin fresh.left fresh.stepped.state.left = record { sized = refl; few = omega arith } in
    progress_within p (reader_at [] fresh) line held (record { left = store; right = store })

-- A turn: what `turn` makes of it.
pub within_turn : (p q : Progress) (chunk text-before text-after : List ℕ) (taken : Taken) → Within p → Turned (turn_of chunk (held_in p)) p text-before taken q text-after → Within q
within_turn p q chunk text-before text-after taken w t =
    let line = (turn_of chunk (held_in p)).line in
    let kept : LineWithin q.line = record {
      sized = omega (arith, w.line.sized, turn_line chunk (held_in p), ap length t.chars, length-append line (drop (length line) p.line.chars), length-drop (length line) p.line.chars);
      few = omega (arith, t.kept, turn_kept chunk (held_in p));
    } in
    progress_within q (turn_of chunk (held_in p)).outcome.reader kept t.told.held (turn_within (held_in p) (held_within p w) chunk)

-- The end of the input: what `end` makes of it.
pub within_end : (p q : Progress) (count : ℕ) (text-before text-after : List ℕ) → Within p → Told (end_of (held_in p)) (held_in q) count text-before text-after → q.line.chars ≡ p.line.chars → Within q
within_end p q count text-before text-after w t chars =
    let sized : length q.line.chars ≡ 195 = ap length chars ∙ w.line.sized in
    let line : LineWithin q.line = record { sized = sized; few = omega (arith, sized, length-take q.line.len q.line.chars, ap (λ (r : Reader). length r.kept) t.held, end_kept (held_in p)) } in
    progress_within q (end_of (held_in p)).reader line t.held (end_within (held_in p) (held_within p w))
