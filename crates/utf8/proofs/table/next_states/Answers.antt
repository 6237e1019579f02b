-- The table that is given is the one that the ranges give.
use Rattle.utf8.proofs.TableRule.{table_held}
use Rattle.utf8.proofs.table.next_states.Goals as goal

pub returns : goal.returns
returns c = table_held
