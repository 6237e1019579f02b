-- `put_records` puts the records of all nodes.
-- The loop keeps the records that are still to be put, and where the next name would stand.
use mathlib.Core.Path.{◌≡◌}
use Rattle.image.specs.Record.{node_count}
use Rattle.rows.proofs.Over.{PiecesToPut}
use Rattle.builder.specs.Front.{record_from}
use Rattle.builder.proofs.Planning.{Names}
use Rattle.builder.proofs.plan.Plan.put_records.Given as goal

abbrev pub invariant-loop-k : goal.invariant-loop-k
invariant-loop-k l = (l.out.bytes.ghost_name ≡ l.fn.out.bytes.ghost_name) × (PiecesToPut (record_from l.self.image.now l.self.lengths l.self.places) 0 (node_count l.self.image.now) l.fn.out.bytes.now l.fn.out.at l.out.bytes.now l.out.at l.k × Names l.self.image.now l.name l.k)
