-- `dense_fault` tells whether a row of a dense union has a type id without a child, or an offset outside the child.
-- A row's child is asked for its rows in the table of these by the children's ids.
use mathlib.Core.Path.{◌∙◌}
use native.Mathlib.Omega.{arith}
use borrow.Author.Tests.{le-leb, lt-leb}
use Rattle.image.specs.Record.{elements_of}
use Rattle.image.proofs.Loops.{any_more, any_found, any_done}
use Rattle.validate.proofs.Elements.{number_inside}
use Rattle.validate.proofs.Unions.{outside_is}
use Rattle.validate.proofs.rows.dense_fault.Goals as goal

pub inside-id-requires : goal.inside-id-requires
unfolding elements_of
inside-id-requires c = number_inside c.args.node c.numbers-ids.result 0 _ c.requires.0 c.numbers-ids.ensures.width c.numbers-ids.ensures.bytes c.numbers-ids.ensures.place.value (omega (arith, c.offset-from.ensures.value, c.length-i-end.ensures.value))

pub inside-requires : goal.inside-requires
unfolding elements_of
inside-requires c = number_inside c.args.node c.numbers-offsets.result 1 _ c.requires.1 c.numbers-offsets.ensures.width c.numbers-offsets.ensures.bytes c.numbers-offsets.ensures.place.value (omega (arith, c.offset-from.ensures.value, c.length-i-end.ensures.value))

pub returns-then-rows-id : goal.returns-then-rows-id
returns-then-rows-id c = rw (← c.length-i-end.ensures.value) (any_found _ _ _ _ c.loop-i-test.true c.loop-i.invariant (outside_is _ _ c.numbers-ids.ensures.place.value c.offset-from.ensures.value _ (rw (c.numbers-ids.ensures.bytes, c.numbers-ids.ensures.width) at c.inside-id.ensures) c.rows_by_id-rows.ensures c.numbers-offsets.ensures.place.value (rw (c.numbers-offsets.ensures.bytes, c.numbers-offsets.ensures.width) at c.inside.ensures.value) ∙ le-leb _ _ c.if-rows-id.true))

pub loop-i-preserved : goal.loop-i-preserved
loop-i-preserved c = any_more _ _ _ _ c.loop-i-test.true c.loop-i.invariant (outside_is _ _ c.numbers-ids.ensures.place.value c.offset-from.ensures.value _ (rw (c.numbers-ids.ensures.bytes, c.numbers-ids.ensures.width) at c.inside-id.ensures) c.rows_by_id-rows.ensures c.numbers-offsets.ensures.place.value (rw (c.numbers-offsets.ensures.bytes, c.numbers-offsets.ensures.width) at c.inside.ensures.value) ∙ lt-leb _ _ c.if-rows-id.false)

pub returns : goal.returns
returns c = rw (← c.length-i-end.ensures.value) (any_done _ _ _ _ c.loop-i-test.false c.loop-i.invariant)
