-- The measures and the invariants of the cycle.
use mathlib.Core.Path.{◌≡◌}
use Prim.Native.Nat.{◌-◌, suc}
use Rattle.image.specs.Row.{dictionary_row, row_at, list_view_row, run_row, sparse_row, dense_row}
use Rattle.image.specs.Record.{first_child, child_count}
use Rattle.equal.proofs.Rows.{RowsLeft}
use Rattle.equal.proofs.Dictionaries.{KeptPairs}
use mathlib.Core.Bool.{true}
use Rattle.equal.proofs.Runs.{Stepping}
use Rattle.equal.proofs.Structs.{ColumnsLeft}
use Prim.Native.Nat.{◌*◌, ◌+◌}
use Rattle.equal.proofs.+rows.Given as goal

abbrev pub decreases-dictionary::equal : goal.decreases-dictionary::equal
decreases-dictionary::equal l = 7 * l.depth + 3

abbrev pub decreases-dictionary::long_equal : goal.decreases-dictionary::long_equal
decreases-dictionary::long_equal l = 7 * l.depth + 2

abbrev pub decreases-equal_range : goal.decreases-equal_range
decreases-equal_range l = 7 * l.depth

abbrev pub decreases-equal_row : goal.decreases-equal_row
decreases-equal_row l = 7 * l.depth + 1

abbrev pub decreases-equal_valid : goal.decreases-equal_valid
decreases-equal_valid l = 7 * l.depth + 6

abbrev pub decreases-equal_values : goal.decreases-equal_values
decreases-equal_values l = 7 * l.depth + 5

abbrev pub decreases-fixed_list::equal : goal.decreases-fixed_list::equal
decreases-fixed_list::equal l = 7 * l.depth + 2

abbrev pub decreases-list::equal : goal.decreases-list::equal
decreases-list::equal l = 7 * l.depth + 2

abbrev pub decreases-list_view::equal : goal.decreases-list_view::equal
decreases-list_view::equal l = 7 * l.depth + 2

abbrev pub decreases-run::equal : goal.decreases-run::equal
decreases-run::equal l = 7 * l.depth + 2

abbrev pub decreases-structure::equal : goal.decreases-structure::equal
decreases-structure::equal l = 7 * l.depth + 2

abbrev pub decreases-union::block : goal.decreases-union::block
decreases-union::block l = 7 * l.depth + 3

abbrev pub decreases-union::dense : goal.decreases-union::dense
decreases-union::dense l = 7 * l.depth + 2

abbrev pub decreases-union::sparse : goal.decreases-union::sparse
decreases-union::sparse l = 7 * l.depth + 4

abbrev pub invariant-dictionary::equal-loop-k : goal.invariant-dictionary::equal-loop-k
invariant-dictionary::equal-loop-k l = RowsLeft (dictionary_row (row_at l.depth l.pair.left.image.now) l.pair.left.image.now l.pair.left.number) (dictionary_row (row_at l.depth l.pair.right.image.now) l.pair.right.image.now l.pair.right.number) l.rows.left l.rows.right l.rows.count l.k

abbrev pub invariant-dictionary::long_equal-loop-row : goal.invariant-dictionary::long_equal-loop-row
invariant-dictionary::long_equal-loop-row l = KeptPairs (row_at l.depth l.pair.left.image.now (first_child l.pair.left.image.now l.pair.left.number + 0)) (row_at l.depth l.pair.right.image.now (first_child l.pair.right.image.now l.pair.right.number + 0)) l.kept × RowsLeft (dictionary_row (row_at l.depth l.pair.left.image.now) l.pair.left.image.now l.pair.left.number) (dictionary_row (row_at l.depth l.pair.right.image.now) l.pair.right.image.now l.pair.right.number) l.rows.left l.rows.right l.rows.count l.row

abbrev pub invariant-equal_valid-loop-k : goal.invariant-equal_valid-loop-k
invariant-equal_valid-loop-k l = RowsLeft (row_at (suc l.depth) l.pair.left.image.now l.pair.left.number) (row_at (suc l.depth) l.pair.right.image.now l.pair.right.number) l.rows.left l.rows.right l.rows.count l.k

abbrev pub decreases-equal_valid-loop-k : goal.decreases-equal_valid-loop-k
decreases-equal_valid-loop-k l = l.n - l.k

abbrev pub invariant-list_view::equal-loop-k : goal.invariant-list_view::equal-loop-k
invariant-list_view::equal-loop-k l = RowsLeft (list_view_row (row_at l.depth l.pair.left.image.now) l.pair.left.image.now l.pair.left.number) (list_view_row (row_at l.depth l.pair.right.image.now) l.pair.right.image.now l.pair.right.number) l.rows.left l.rows.right l.rows.count l.k

abbrev pub invariant-run::equal-runs : goal.invariant-run::equal-runs
invariant-run::equal-runs l = (l.equal ≡ true) × (Stepping l.pair.left.image.now l.pair.right.image.now l.pair.left.number l.pair.right.number l.s l.t l.n l.k l.i l.j × RowsLeft (run_row (row_at l.depth l.pair.left.image.now) l.pair.left.image.now l.pair.left.number) (run_row (row_at l.depth l.pair.right.image.now) l.pair.right.image.now l.pair.right.number) l.s l.t l.n l.k)

abbrev pub decreases-run::equal-runs : goal.decreases-run::equal-runs
decreases-run::equal-runs l = l.n - l.k

abbrev pub invariant-structure::equal-loop-c : goal.invariant-structure::equal-loop-c
invariant-structure::equal-loop-c l = ColumnsLeft (row_at l.depth l.pair.left.image.now) (row_at l.depth l.pair.right.image.now) l.rows.left l.rows.right l.rows.count (first_child l.pair.left.image.now l.pair.left.number) (first_child l.pair.right.image.now l.pair.right.number) (child_count l.pair.left.image.now l.pair.left.number) l.c

abbrev pub invariant-union::block-loop-k : goal.invariant-union::block-loop-k
invariant-union::block-loop-k l = ((l.child.left.image ≡ l.pair.left.image) × (l.child.right.image ≡ l.pair.right.image)) × RowsLeft (sparse_row (row_at l.depth l.pair.left.image.now) l.pair.left.image.now l.pair.left.number) (sparse_row (row_at l.depth l.pair.right.image.now) l.pair.right.image.now l.pair.right.number) l.rows.left l.rows.right l.rows.count l.k

abbrev pub invariant-union::dense-loop-k : goal.invariant-union::dense-loop-k
invariant-union::dense-loop-k l = ((l.child.left.image ≡ l.pair.left.image) × (l.child.right.image ≡ l.pair.right.image)) × RowsLeft (dense_row (row_at l.depth l.pair.left.image.now) l.pair.left.image.now l.pair.left.number) (dense_row (row_at l.depth l.pair.right.image.now) l.pair.right.image.now l.pair.right.number) l.rows.left l.rows.right l.rows.count l.k

abbrev pub invariant-union::sparse-loop-h : goal.invariant-union::sparse-loop-h
invariant-union::sparse-loop-h l = RowsLeft (sparse_row (row_at l.depth l.pair.left.image.now) l.pair.left.image.now l.pair.left.number) (sparse_row (row_at l.depth l.pair.right.image.now) l.pair.right.image.now l.pair.right.number) l.rows.left l.rows.right l.rows.count (4096 * l.h)
