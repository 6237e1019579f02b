-- Inputs at the edges of the rule for lines, and their outputs.
-- Both sides are computed.
use mathlib.Core.Path.{◌≡◌, refl}
use mathlib.Core.List
use mathlib.Core.List.{List, [], ◌∷◌, map}
use Prim.Native.Nat.{ℕ}
use Rattle.image.specs.Bytes
use Rattle.image.specs.Bytes.{ascii}
use Rattle.session.specs.Lines
use Rattle.session.specs.Frames
use Rattle.session.specs.Replies
use Rattle.session.specs.Steps
use Rattle.session.specs.Sessions
use Rattle.session.specs.Input
use Rattle.session.specs.Input.{lines_of, printed}

-- "nothing after the last line feed is no line"; the end of the input ends a line too; a line may be empty
pub lines_cut :
    map lines_of (map ascii ("" ∷ "\n" ∷ "04" ∷ "04\n" ∷ "04\n\n03 00" ∷ "\n\n04" ∷ []))
    ≡ [] ∷ ([] ∷ []) ∷ map ascii ("04" ∷ []) ∷ map ascii ("04" ∷ []) ∷ map ascii ("04" ∷ "" ∷ "03 00" ∷ []) ∷ map ascii ("" ∷ "" ∷ "04" ∷ []) ∷ []
unfolding Bytes.ascii Input.in_front Input.lines_of
lines_cut = refl

-- an empty line is refused as 1, and a comparison of sides that are open as 42
pub edges_printed :
    map (λ (s : List ℕ). printed s) (map ascii ("" ∷ "\n" ∷ "04" ∷ "04\n" ∷ "04\n\n04" ∷ []))
    ≡ map ascii ("" ∷ "01\n" ∷ "2a\n" ∷ "2a\n" ∷ "2a\n01\n2a\n" ∷ [])
unfolding Bytes.ascii Sessions.replies Input.in_front Input.lines_of Input.printed_from List.flatten
    Lines.digit_of Lines.preceded Lines.scan Lines.not_too_long Lines.bytes_of
    Frames.compare_frame Frames.of_length Frames.by_kind Frames.frame_of
    Replies.digit_text Replies.hex_text Replies.line_text Replies.reply_line
    Steps.both_closed Steps.compares_reply Steps.after_frame Steps.after_line
edges_printed = refl
