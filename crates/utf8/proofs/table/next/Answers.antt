-- `utf8::table::next` meets its contract: the table's rule.
-- Assumes nothing.
use native.Mathlib.Omega.{arith}
use Rattle.utf8.proofs.TableRule.{table_rule}
use Rattle.utf8.proofs.table.next.Goals as goal

pub returns : goal.returns
returns c = table_rule _ _ c.requires (omega arith)
