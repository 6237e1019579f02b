-- `Column::new` reads a node's fields once.
-- Its rows are in runs exactly where its code says so.
use borrow.Author.Tests.{eq-eqb, ne_eqb}
use native.Mathlib.Omega.{arith}
use Rattle.accepted.specs.Columns.{in_runs}
use Rattle.accepted.proofs.Columns.{ends_alone, ends_there}
use Rattle.accepted.proofs.column.Column.new.Goals as goal
use Rattle.accepted.proofs.column.Column.new.Goals.{then-in_runs, else-in_runs}

pub invariant_of-result : goal.invariant_of-result
unfolding in_runs
invariant_of-result c = record { read = record { offset = c.offset.ensures; ends = elim c.if-in_runs.branch [ then-in_runs w ↦ rw w.result-is (ends_there (eq-eqb _ _ (omega (arith, c.code-in_runs.ensures.value, w.if-in_runs.true))) w.ends.ensures) | else-in_runs w ↦ rw w.result-is (ends_alone (ne_eqb _ _ (λ e. omega (arith, e, c.code-in_runs.ensures.value, w.if-in_runs.false)))) ] } }
