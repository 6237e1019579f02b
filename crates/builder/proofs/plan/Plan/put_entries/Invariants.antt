-- `put_entries` puts the entries of a node.
-- The loop keeps the entries that are still to be put.
use mathlib.Core.Path.{◌≡◌}
use Rattle.image.specs.Record.{buffer_count}
use Rattle.rows.proofs.Over.{PiecesToPut}
use Rattle.builder.specs.Front.{entry_from}
use Rattle.builder.proofs.plan.Plan.put_entries.Given as goal

abbrev pub invariant-loop-j : goal.invariant-loop-j
invariant-loop-j l = (l.out.bytes.ghost_name ≡ l.fn.out.bytes.ghost_name) × PiecesToPut (entry_from l.self.places) l.first (buffer_count l.self.image.now l.k) l.fn.out.bytes.now l.fn.out.at l.out.bytes.now l.out.at l.j
