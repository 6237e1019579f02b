-- `put_all_entries` puts the entries of all nodes.
-- The loop keeps the entries that are still to be put.
use mathlib.Core.Path.{◌≡◌}
use Rattle.image.specs.Record.{node_count}
use Rattle.rows.proofs.Over.{PiecesToPut}
use Rattle.builder.specs.Front.{entries_from}
use Rattle.builder.proofs.plan.Plan.put_all_entries.Given as goal

abbrev pub invariant-loop-k : goal.invariant-loop-k
invariant-loop-k l = (l.out.bytes.ghost_name ≡ l.fn.out.bytes.ghost_name) × PiecesToPut (entries_from l.self.image.now l.self.places) 0 (node_count l.self.image.now) l.fn.out.bytes.now l.fn.out.at l.out.bytes.now l.out.at l.k
