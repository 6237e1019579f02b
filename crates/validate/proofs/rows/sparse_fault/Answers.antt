-- `sparse_fault` tells whether a row of a sparse union has a type id without a child.
-- A row's child is looked up in the table of the children by their ids.
use mathlib.Core.Path.{◌≡◌, refl, ◌∙◌}
use mathlib.Core.Bool.{Bool, not, not-not}
use mathlib.Core.List.{List}
use Prim.Native.Nat.{ℕ, ◌+◌, ◌*◌}
use lib.ListN.{get_or}
use Rattle.std.specs.Prelude.{Option, None}
use Rattle.std.specs.Option.{is_some}
use Rattle.image.specs.Bytes.{number_at}
use Rattle.image.specs.Reads.{Read}
use native.Mathlib.Omega.{arith}
use Rattle.image.specs.Record.{elements_of}
use Rattle.image.specs.Faults.{sparse_row_fault}
use Rattle.image.proofs.Loops.{any_more, any_found, any_done}
use Rattle.validate.proofs.Elements.{number_inside}
use Rattle.validate.proofs.Unions.{Union, unknown_is}
use Rattle.validate.proofs.rows.sparse_fault.Goals as goal

module _ {s : List ℕ} {k : ℕ} {table : List (Option ℕ)} {ids from : ℕ} (u : Union s k table ids from) (i : ℕ) {id : ℕ} (read : Read (number_at 1 s (ids + (from + i) * 1)) (8 * 1) id) where
  sparse-row : {none : Bool} → is_some (get_or table id None) ≡ not none → sparse_row_fault s k (0 + i) ≡ none
  unfolding sparse_row_fault
  sparse-row e = unknown_is u i read _ refl ∙ rw e (not-not _)

pub inside-id-requires : goal.inside-id-requires
unfolding elements_of
inside-id-requires c = number_inside c.args.node c.numbers-ids.result 0 _ c.requires c.numbers-ids.ensures.width c.numbers-ids.ensures.bytes c.numbers-ids.ensures.place.value (omega (arith, c.offset-from.ensures.value, c.length-i-end.ensures.value))

pub returns-then-is_none : goal.returns-then-is_none
returns-then-is_none c = rw (← c.length-i-end.ensures.value) (any_found _ _ _ _ c.loop-i-test.true c.loop-i.invariant (sparse-row (record { by_id = c.children_by_id-children.ensures; place = c.numbers-ids.ensures.place.value; start = c.offset-from.ensures.value }) _ (rw (c.numbers-ids.ensures.bytes, c.numbers-ids.ensures.width) at c.inside-id.ensures) c.is_none.ensures ∙ c.if-is_none.true))

pub loop-i-preserved : goal.loop-i-preserved
loop-i-preserved c = any_more _ _ _ _ c.loop-i-test.true c.loop-i.invariant (sparse-row (record { by_id = c.children_by_id-children.ensures; place = c.numbers-ids.ensures.place.value; start = c.offset-from.ensures.value }) _ (rw (c.numbers-ids.ensures.bytes, c.numbers-ids.ensures.width) at c.inside-id.ensures) c.is_none.ensures ∙ c.if-is_none.false)

pub returns : goal.returns
returns c = rw (← c.length-i-end.ensures.value) (any_done _ _ _ _ c.loop-i-test.false c.loop-i.invariant)
