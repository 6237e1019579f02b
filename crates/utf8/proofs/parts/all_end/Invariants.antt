-- `utf8::parts::all_end` meets its contract: the answer stays what it was at the start.
-- The loop keeps that each walk is 64 bytes further for each turn.
use Prim.Native.Nat.{◌*◌}
use Rattle.std.specs.List.{AllZip}
use Rattle.utf8.specs.Walks.{Further}
use Rattle.utf8.proofs.parts.all_end.Given as goal

abbrev pub invariant-loop : goal.invariant-loop
invariant-loop l = AllZip (Further (l.counter * 64)) l.walks l.moved
