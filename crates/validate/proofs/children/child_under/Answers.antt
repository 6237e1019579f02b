-- `child_under` finds whether a child has too few rows.
-- The loop keeps that the test of all children is that of those from number k on.
use mathlib.Core.Path.{◌≡◌}
use mathlib.Core.Bool.{true, false}
use mathlib.Core.List.{List}
use Prim.Native.Nat.{ℕ, ◌<◌, ◌≤◌}
use borrow.Author.Tests.{lt-ltb, le-ltb}
use Rattle.image.specs.Record.{length_of}
use Rattle.image.specs.Faults.{rows_under, child_under}
use Rattle.image.proofs.Loops.{any_more, any_found, any_done}
use Rattle.validate.proofs.children.child_under.Goals as goal

module _ (s : List ℕ) (n k r : ℕ) (e : r ≡ length_of s k) where
  few : r < n → rows_under s n k ≡ true
  unfolding rows_under
  few lt = rw (← e, lt-ltb r n lt)

  enough : n ≤ r → rows_under s n k ≡ false
  unfolding rows_under
  enough le = rw (← e, le-ltb r n le)

pub returns-then-length-rows : goal.returns-then-length-rows
unfolding child_under
returns-then-length-rows c =
    let read = rw (c.child.ensures.image, c.child.ensures.number) at c.length.ensures.value in
    rw (← c.child_count-c-end.ensures.value) (any_found _ _ _ _ c.loop-c-test.true c.loop-c.invariant (few _ _ _ _ read c.if-length-rows.true))

pub loop-c-preserved : goal.loop-c-preserved
loop-c-preserved c =
    let read = rw (c.child.ensures.image, c.child.ensures.number) at c.length.ensures.value in
    any_more _ _ _ _ c.loop-c-test.true c.loop-c.invariant (enough _ _ _ _ read c.if-length-rows.false)

pub returns : goal.returns
unfolding child_under
returns c = rw (← c.child_count-c-end.ensures.value) (any_done _ _ _ _ c.loop-c-test.false c.loop-c.invariant)
