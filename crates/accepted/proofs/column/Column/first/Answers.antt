-- `Column::first` gives the first row with the run that is kept there.
use Rattle.accepted.proofs.Columns.{kept_behind}
use Rattle.accepted.proofs.column.Column.first.Goals as goal

pub invariant_of-result : goal.invariant_of-result
invariant_of-result c = record { behind = kept_behind c.first_run.ensures }
