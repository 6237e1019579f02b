-- `utf8::parts::walk_blocks` meets its contract: plain blocks leave state 0 as it is, any others are walked 16 bytes at a time.
-- The loop keeps that each walk is 16 bytes further for each turn.
use mathlib.Core.Path.{◌≡◌, sym, ◌∙◌}
use Prim.Native.Nat.{◌+◌, ◌*◌}
use native.Mathlib.Omega.{arith}
use Rattle.utf8.proofs.Walks.{each_plain, each_none, each_then, each_after}
use Rattle.utf8.proofs.parts.walk_blocks.Goals as goal

pub returns-then-are_plain : goal.returns-then-are_plain
returns-then-are_plain c = each_plain _ _ _ (sym c.are_plain.ensures ∙ c.if-are_plain.true) c.pass_each.ensures

pub loop-init : goal.loop-init
loop-init c = each_none _

pub walk_small_blocks-moved-requires : goal.walk_small_blocks-moved-requires
walk_small_blocks-moved-requires c = each_after (c.loop.counter * 16) _ _ (omega arith) c.requires c.loop.invariant

pub loop-preserved : goal.loop-preserved
loop-preserved c =
    let e : (c.loop.counter + 1) * 16 ≡ c.loop.counter * 16 + 16 = omega arith in
    rw e (each_then _ _ _ _ _ c.loop.invariant c.walk_small_blocks-moved.ensures)
