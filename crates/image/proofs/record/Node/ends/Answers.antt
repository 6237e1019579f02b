-- `Node::ends` finds where the run ends stand.
-- Each part of the place is what its reader says.
use native.Mathlib.Omega.{arith}
use native.Mathlib.Nat.{add-zero}
use Rattle.image.proofs.RunEnds.{ends_narrow, ends_of}
use Rattle.image.proofs.record.Node.ends.Goals as goal

pub row_numbers-requires : goal.row_numbers-requires
row_numbers-requires c = omega (arith, ends_narrow _ c.integer_width.ensures)

pub returns : goal.returns
returns c =
    let at = rw add-zero at c.child-ends.ensures.number in
    let code = rw c.child-ends.ensures.image at c.code.ensures.value in
    let place = rw c.child-ends.ensures.image at c.row_numbers.ensures.place in
    ends_of _ _ _ (rw (c.row_numbers.ensures.bytes, c.child-ends.ensures.image)) at code (rw c.row_numbers.ensures.width c.integer_width.ensures) (rw c.row_numbers.ensures.width place) (rw c.row_numbers.ensures.width c.row_numbers.ensures.near)
