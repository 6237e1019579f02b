-- The measures and the invariants of the cycle.
use mathlib.Core.Path.{◌≡◌}
use Prim.Native.Nat.{◌*◌, ◌+◌}
use Rattle.image.specs.Parse.{rows_of, row_in}
use Rattle.image.specs.Record.{first_child, child_count}
use Rattle.parse.specs.Scan.{struct_of, rows_add, joined_adds}
use Rattle.parse.proofs.Loops.{Left, row_turns, child_turns}
use Rattle.parse.proofs.leaf.Scan.+rows.Given as goal

abbrev pub decreases-row : goal.decreases-row
decreases-row l = 5 * l.depth

abbrev pub decreases-rows : goal.decreases-rows
decreases-rows l = 5 * l.depth + 1

abbrev pub decreases-fields : goal.decreases-fields
decreases-fields l = 5 * l.depth + 1

abbrev pub decreases-list : goal.decreases-list
decreases-list l = 5 * l.depth + 2

abbrev pub decreases-value : goal.decreases-value
decreases-value l = 5 * l.depth + 4

abbrev pub decreases-by_layout : goal.decreases-by_layout
decreases-by_layout l = 5 * l.depth + 3

abbrev pub invariant-rows-loop : goal.invariant-rows-loop
invariant-rows-loop l =
    (l.self.spans.ghost_name ≡ l.fn.self.spans.ghost_name) × Left (row_turns l.depth l.node.image.now l.node.number l.count) l.fn.self.text.now l.count (rows_of (row_in l.depth l.node.image.now l.node.number) l.count l.fn.self.text.now) (rows_add l.depth l.node.image.now l.node.number) l.fn.self.spans.now l.counter l.self.text.now l.self.spans.now

abbrev pub invariant-fields-loop-c : goal.invariant-fields-loop-c
invariant-fields-loop-c l =
    (l.self.spans.ghost_name ≡ l.fn.self.spans.ghost_name) × Left (child_turns l.depth l.node.image.now (first_child l.node.image.now l.node.number) (child_count l.node.image.now l.node.number)) l.fn.self.text.now 0 (struct_of l.depth l.node.image.now l.node.number l.fn.self.text.now) (joined_adds l.depth l.node.image.now l.node.number) l.fn.self.spans.now l.c l.self.text.now l.self.spans.now
