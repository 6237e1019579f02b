-- `values::runs::ends_same` meets its contract.
-- Run ends are fixed-width elements of the first child, and the same bytes make the same numbers.
use Rattle.values.proofs.Fixed.{fixed_inside}
use Rattle.values.proofs.SameRuns.{ends_small, ends_read, ends_same}
use mathlib.Core.Path.{sym, ◌∙◌}
use native.Mathlib.Nat.{add-zero}
use native.Mathlib.Omega.{arith}
use Rattle.values.proofs.runs.ends_same.Goals as goal

pub elements-requires : goal.elements-requires
elements-requires c = (omega (arith, ends_small c.requires.left), omega (arith, ends_small c.requires.right))

pub elements_equal-requires : goal.elements_equal-requires
elements_equal-requires c =
    let width_left = rw c.child-ends.ensures.same at c.element_width.ensures in
    let width_right = rw c.child-ends.ensures.same at c.element_width-2.ensures in
    rw (c.elements.ensures, c.child-ends.ensures.same)
    (fixed_inside (record { left = ends_read c.requires.left (add-zero _); right = ends_read c.requires.right (add-zero _); width = sym width_left ∙ c.if-element_width.false ∙ width_right }))

pub returns : goal.returns
returns c = λ e.
    let width_left = rw c.child-ends.ensures.same at c.element_width.ensures in
    let width_right = rw c.child-ends.ensures.same at c.element_width-2.ensures in
    let same = rw (c.elements.ensures, c.child-ends.ensures.same) at c.elements_equal.ensures in
    ends_same c.requires.left c.requires.right (add-zero _) (add-zero _) width_left width_right c.if-element_width.false same e
