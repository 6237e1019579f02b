-- `utf8::parts::are_plain` meets its contract.
-- Each loop keeps its test of the walks that were passed.
use mathlib.Core.Path.{◌≡◌}
use lib.ListN.{take}
use Rattle.std.specs.List.{list_all, list_any}
use Rattle.utf8.specs.Walks.{between, high_ahead}
use Rattle.utf8.proofs.parts.are_plain.Given as goal

abbrev pub invariant-loop-walk : goal.invariant-loop-walk
invariant-loop-walk l = l.all_between ≡ list_all between (take l.walk-index l.walks)

abbrev pub invariant-loop-walk-2 : goal.invariant-loop-walk-2
invariant-loop-walk-2 l = l.found ≡ list_any (high_ahead l.n) (take l.walk-index l.walks)
