-- `utf8::parts::walk_blocks` meets its contract: plain blocks leave state 0 as it is, any others are walked 16 bytes at a time.
-- The loop keeps that each walk is 16 bytes further for each turn.
use Prim.Native.Nat.{◌*◌}
use Rattle.std.specs.List.{AllZip}
use Rattle.utf8.specs.Walks.{Further}
use Rattle.utf8.proofs.parts.walk_blocks.Given as goal

abbrev pub invariant-loop : goal.invariant-loop
invariant-loop l = AllZip (Further (l.counter * 16)) l.walks l.moved
