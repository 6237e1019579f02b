-- Frames ("Frames: 01 or 02 and 1 to 64 bytes, a piece left or right; 03 side, close; 04 compare all; 05 and three u32
-- (left start, right start, count); 06 side, u32 start, u32 count, write; 07 side, empty and open. Sides: 00 left, 01
-- right.").
use Rattle.std.specs.Prelude.{cond, List, [], ℕ, length, drop, eqb, ltb, Option, Some, None, Result, Ok, Err}
use Rattle.std.specs.Borrow.{Bor}
use Rattle.image.specs.declared.answer.Side.{Side}
use Rattle.image.specs.declared.answer.Side.TheVariants.{Left, Right}
use Rattle.image.specs.Bytes.{byte_at, number_at}
use Rattle.answers.specs.Answers.{◌>>=◌}
use Rattle.session.specs.declared.frame.Frame.{Frame}
use Rattle.session.specs.declared.frame.Frame.TheVariants.{Piece as FramePiece, Close as FrameClose, Compare as FrameCompare, CompareRange as FrameRange, Write as FrameWrite, Empty as FrameEmpty}
use Rattle.session.specs.declared.frame.FrameFault.{FrameFault}
use Rattle.session.specs.declared.frame.FrameFault.TheVariants.{NotHexadecimal, UnknownCommand, WrongForm}

-- what a line asks for; a piece is its bytes
pub data Command : Type 0 where
  Piece : Side → List ℕ → Command
  Close : Side → Command
  Compare : Command
  CompareRange : ℕ → ℕ → ℕ → Command
  Write : Side → ℕ → ℕ → Command
  Empty : Side → Command

-- "3 wrong length"
unfoldable pub of_length : ℕ → List ℕ → Result (Unit {0}) FrameFault
of_length n b = cond (eqb (length b) n) (Ok tt) (Err WrongForm)

-- "3 .. side byte not 00 or 01"
unfoldable pub side_in : List ℕ → Result Side FrameFault
side_in b = cond (eqb (byte_at b 1) 0) (Ok Left) (cond (eqb (byte_at b 1) 1) (Ok Right) (Err WrongForm))

-- the side of a frame of two bytes
abbrev pub only_side : List ℕ → Result Side FrameFault
only_side b = do
  _ ← of_length 2 b
  side_in b

-- what is asked, or why the bytes are no frame
abbrev pub Asked : Type 0
Asked = Result Command FrameFault

unfoldable pub piece_frame : List ℕ → Side → Asked
piece_frame b side = cond (ltb (length b) 2) (Err WrongForm) (Ok (Piece side (drop 1 b)))

unfoldable pub close_frame : List ℕ → Asked
close_frame b = do
  side ← only_side b
  Ok (Close side)

unfoldable pub compare_frame : List ℕ → Asked
compare_frame b = do
  _ ← of_length 1 b
  Ok Compare

unfoldable pub range_frame : List ℕ → Asked
range_frame b = do
  _ ← of_length 13 b
  Ok (CompareRange (number_at 4 b 1) (number_at 4 b 5) (number_at 4 b 9))

unfoldable pub write_frame : List ℕ → Asked
write_frame b = do
  _ ← of_length 10 b
  side ← side_in b
  Ok (Write side (number_at 4 b 2) (number_at 4 b 6))

unfoldable pub empty_frame : List ℕ → Asked
empty_frame b = do
  side ← only_side b
  Ok (Empty side)

-- "2 first byte not 01 to 07"
unfoldable pub by_kind : ℕ → List ℕ → Asked
by_kind kind b =
    cond (eqb kind 1) (piece_frame b Left)
    (cond (eqb kind 2) (piece_frame b Right)
    (cond (eqb kind 3) (close_frame b)
    (cond (eqb kind 4) (compare_frame b)
    (cond (eqb kind 5) (range_frame b)
    (cond (eqb kind 6) (write_frame b)
    (cond (eqb kind 7) (empty_frame b) (Err UnknownCommand)))))))

-- what the bytes of a line ask for; no bytes are a line that is refused by 1
unfoldable pub frame_of : List ℕ → Asked
frame_of b = cond (eqb (length b) 0) (Err NotHexadecimal) (by_kind (byte_at b 0) b)

-- what a frame asks for, which lends the bytes of a piece
abbrev pub command_of : Frame → Command
command_of (FramePiece side piece) = Piece side piece.now
command_of (FrameClose side) = Close side
command_of FrameCompare = Compare
command_of (FrameRange i j n) = CompareRange i j n
command_of (FrameWrite side i n) = Write side i n
command_of (FrameEmpty side) = Empty side

-- what a frame asks for, or why there is none
abbrev pub asked_by : Result Frame FrameFault → Asked
asked_by (Ok frame) = Ok (command_of frame)
asked_by (Err fault) = Err fault

-- bytes that are lent where there are any
abbrev pub lent_bytes : Option (Bor (List ℕ)) → List ℕ
lent_bytes None = []
lent_bytes (Some bytes) = bytes.now
