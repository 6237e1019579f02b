-- A frame obeyed: the reply, the state after it, both stores and the output.
-- By the frame's variants, from what the calls give; what a side's store is left at is in the session.
use Rattle.session.proofs.Sides.{piece_done, close_done, write_done, empty_done}
use mathlib.Core.Path.{refl}
use Rattle.session.proofs.step.Session.obey.Goals as goal

pub returns-in-Piece : goal.returns-in-Piece
returns-in-Piece c =
    rw c.in-Piece.is
    (piece_done c.args.self.now c.piece.new.self c.piece.result c.in-Piece.side c.in-Piece.piece.now
    (rw c.of.ensures.value at c.piece.ensures.side_after)
    (rw c.of.ensures.value at c.piece.ensures.bytes_after))

pub returns-in-Close : goal.returns-in-Close
returns-in-Close c =
    rw c.in-Close.is
    (close_done c.args.self.now c.close.new.self c.close.result c.in-Close.side
    (rw c.of-in-Close.ensures.value at c.close.ensures.side_after)
    (rw c.of-in-Close.ensures.value at c.close.ensures.bytes_after))

pub returns-in-Compare : goal.returns-in-Compare
returns-in-Compare c = rw (c.in-Compare.is, c.compare.ensures) refl

pub returns-in-CompareRange : goal.returns-in-CompareRange
returns-in-CompareRange c = rw (c.in-CompareRange.is, c.compare_range.ensures) refl

pub returns-in-Write : goal.returns-in-Write
returns-in-Write c =
    rw (c.in-Write.is, c.of-in-Write.ensures.value)
    (write_done c.args.self.now c.write.result c.write.new.out c.in-Write.i c.in-Write.n c.in-Write.side
    (rw c.of-in-Write.ensures.value at c.write.ensures.value)
    (rw c.of-in-Write.ensures.value at c.write.ensures.out_after))

pub returns-in-Empty : goal.returns-in-Empty
returns-in-Empty c =
    rw c.in-Empty.is
    (empty_done c.args.self.now c.empty.new.self _ c.in-Empty.side refl c.empty.ensures.side_after (rw c.of-in-Empty.ensures.value at c.empty.ensures.bytes_after))
