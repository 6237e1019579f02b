-- `utf8::parts::all_end` meets its contract: the answer stays what it was at the start.
-- The loop keeps that each walk is 64 bytes further for each turn.
use mathlib.Core.Path.{◌≡◌, sym, ◌∙◌}
use Prim.Native.Nat.{◌+◌, ◌*◌}
use native.Mathlib.Omega.{arith}
use Rattle.utf8.proofs.Walks.{each_none, each_then, each_after, each_same, ill_ends}
use Rattle.utf8.proofs.parts.all_end.Goals as goal

pub loop-init : goal.loop-init
loop-init c = each_none _

pub walk_blocks-moved-requires : goal.walk_blocks-moved-requires
walk_blocks-moved-requires c = each_after (c.loop.counter * 64) _ _ (omega arith) c.requires c.loop.invariant

pub returns-then-is_ill : goal.returns-then-is_ill
returns-then-is_ill c =
    sym (ill_ends _ (sym c.is_ill.ensures ∙ c.if-is_ill.true)) ∙ each_same _ _ _ (each_then _ _ _ _ _ c.loop.invariant c.walk_blocks-moved.ensures)

pub loop-preserved : goal.loop-preserved
loop-preserved c =
    let e : (c.loop.counter + 1) * 64 ≡ c.loop.counter * 64 + 64 = omega arith in
    rw e (each_then _ _ _ _ _ c.loop.invariant c.walk_blocks-moved.ensures)

pub walk_each-requires : goal.walk_each-requires
walk_each-requires c = each_after (c.loop.counter * 64) _ _ (omega arith) c.requires c.loop.invariant

pub returns : goal.returns
returns c = c.each_ends.ensures ∙ each_same _ _ _ (each_then _ _ _ _ _ c.loop.invariant c.walk_each.ensures)
