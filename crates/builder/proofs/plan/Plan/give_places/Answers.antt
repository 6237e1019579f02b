-- `Plan::give_places` gives the places of the parts and answers the size of the image.
-- The loop keeps the places up to part q; a refusal needs no table.
use mathlib.Core.Path.{sym, ◌∙◌}
use lib.ListN.{replicate, length-replicate}
use Rattle.builder.proofs.Planning.{many_refused, few_rows, planning_start, planning_more, planning_long, planning_room, planning_done, planning_rise}
use Prim.Native.Nat.{ℕ}
use native.Mathlib.Omega.{arith}
use Rattle.builder.proofs.plan.Plan.give_places.Goals as goal

pub returns-then-too_many-clause-places : goal.returns-then-too_many-clause-places
returns-then-too_many-clause-places c = many_refused _ _ _ (sym c.too_many.ensures ∙ c.if-too_many.true)

pub loop-q-init : goal.loop-q-init
loop-q-init c = planning_start _ _ _ (replicate {A = ℕ} 769 0) _ (length-replicate {A = ℕ} 769 0) c.names_end-place.ensures

pub part_size-size-requires : goal.part_size-size-requires
part_size-size-requires c = record { part = omega (arith, c.loop-q-test.true, c.node_count.ensures.value); few = few_rows _ _ (sym c.too_many.ensures ∙ c.if-too_many.false) _ (omega (arith, c.loop-q-test.true, c.node_count.ensures.value)) }

pub returns-then-size-place-clause-places : goal.returns-then-size-place-clause-places
returns-then-size-place-clause-places c = planning_long c.loop-q.invariant (omega (arith, c.loop-q-test.true, c.node_count.ensures.value)) c.part_size-size.ensures c.if-size-place.true

pub loop-q-preserved : goal.loop-q-preserved
loop-q-preserved c = planning_more c.loop-q.invariant (omega (arith, c.loop-q-test.true, c.node_count.ensures.value)) c.part_size-size.ensures c.args.self.now.few (omega (arith, c.if-size-place.false))

pub returns-then-room-place-clause-places : goal.returns-then-room-place-clause-places
returns-then-room-place-clause-places c = planning_room c.loop-q.invariant (omega (arith, c.loop-q-test.false, c.node_count.ensures.value)) c.if-room-place.true

pub invariant_of-self-clause-risen : goal.invariant_of-self-clause-risen
invariant_of-self-clause-risen c = planning_rise c.loop-q.invariant (omega (arith, c.loop-q-test.false, c.node_count.ensures.value))

pub returns-clause-places : goal.returns-clause-places
returns-clause-places c = planning_done c.loop-q.invariant (omega (arith, c.loop-q-test.false, c.node_count.ensures.value)) (sym c.too_many.ensures ∙ c.if-too_many.false) (omega (arith, c.if-room-place.false))
