-- `put_names` puts the names of all nodes.
-- The loop keeps the names that are still to be put.
use mathlib.Core.Path.{◌≡◌}
use Rattle.image.specs.Record.{node_count}
use Rattle.image.specs.Types.{name_of}
use Rattle.rows.proofs.Over.{PiecesToPut}
use Rattle.builder.proofs.plan.Plan.put_names.Given as goal

abbrev pub invariant-loop-k : goal.invariant-loop-k
invariant-loop-k l = (l.out.bytes.ghost_name ≡ l.fn.out.bytes.ghost_name) × PiecesToPut (name_of l.self.image.now) 0 (node_count l.self.image.now) l.fn.out.bytes.now l.fn.out.at l.out.bytes.now l.out.at l.k
