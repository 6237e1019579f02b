-- A session: "Both start empty and open", "One output line each".
use Rattle.std.specs.Prelude.{◌≡◌, Bool, true, cond, List, [], ◌∷◌, ℕ, Ok, Err, is_err}
use Rattle.image.specs.Faults.{check_image}
use Rattle.session.specs.declared.reply.Reply.TheVariants.{Done}
use Rattle.session.specs.Frames.{Asked, Piece, Close, Compare, CompareRange, Write, Empty, frame_of}
use Rattle.session.specs.Lines.{bytes_of}
use Rattle.session.specs.Replies.{Replied, reply_line}
use Rattle.session.specs.Steps.{SideState, State, image_of, start_state, side_of, replied, empty_stepped, After, after, after_line}

-- before the first line, with stores and an output that hold anything; no reply is given yet
abbrev pub started : List ℕ → List ℕ → List ℕ → After
started left right out = after (replied (Ok Done) start_state) left right out

abbrev pub next : List ℕ → After → After
next line a = after_line line a.left a.right a.stepped.state a.out

-- lines one after the other
unfoldable pub after_lines : List (List ℕ) → After → After
after_lines [] a = a
after_lines (line ∷ lines) a = after_lines lines (next line a)

-- what is printed for each of them
unfoldable pub replies : List (List ℕ) → After → List (List ℕ)
replies [] a = []
replies (line ∷ lines) a = reply_line (next line a).stepped.reply (next line a).out ∷ replies lines (next line a)

-- a line is refused
abbrev pub refusal : Replied → Bool
refusal = is_err

-- The state after a refused frame: as it was, but that "a close whose image is refused leaves its side so", empty and open.
-- Only an open side's image is checked.
abbrev pub refused_state : Asked → State → State
refused_state (Ok (Piece side bytes)) state = state
refused_state (Ok (Close side)) state = cond (side_of side state).closed state (empty_stepped side state).state
refused_state (Ok Compare) state = state
refused_state (Ok (CompareRange i j n)) state = state
refused_state (Ok (Write side i n)) state = state
refused_state (Ok (Empty side)) state = state
refused_state (Err fault) state = state

-- a refused line changes no store, no byte of the output and, but for such a close, no state
pub record Unchanged (line : List ℕ) (a : After) : Type 0 where
  pub left : (next line a).left ≡ a.left
  pub right : (next line a).right ≡ a.right
  pub out : (next line a).out ≡ a.out
  pub state : (next line a).stepped.state ≡ refused_state (frame_of (bytes_of line)) a.stepped.state

-- a side that is closed holds an accepted image
abbrev pub Sound : SideState → List ℕ → Type 0
Sound s store = s.closed ≡ true → check_image (image_of s store) ≡ Ok tt

pub record BothSound (a : After) : Type 0 where
  pub left : Sound a.stepped.state.left a.left
  pub right : Sound a.stepped.state.right a.right
