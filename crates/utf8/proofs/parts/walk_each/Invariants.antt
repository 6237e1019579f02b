-- `utf8::parts::walk_each` meets its contract.
-- The loop keeps that each walk is as many bytes further as it has turned.
use Rattle.std.specs.List.{AllZip}
use Rattle.utf8.specs.Walks.{Further}
use Rattle.utf8.proofs.parts.walk_each.Given as goal

abbrev pub invariant-loop : goal.invariant-loop
invariant-loop l = AllZip (Further l.counter) l.walks l.moved
