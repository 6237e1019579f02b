-- `Cursor::stay` tells how long the run is kept, and the row behind with its run.
-- Where there are runs, the end of the run that is kept decides; where there are none, each row is one.
use mathlib.Core.Path.{refl}
use native.Mathlib.Omega.{arith}
use Rattle.accepted.proofs.Columns.{stay_small, stay_few, stay_nth, stay_above, stay_some, stay_same, stay_next, alone_same}
use Rattle.accepted.proofs.column.Cursor.stay.Goals as goal

pub overflow_add-j : goal.overflow_add-j
overflow_add-j c = omega (arith, stay_small c.args.self.column.now.read c.requires c.args.self.behind)

pub overflow_add-result : goal.overflow_add-result
overflow_add-result c = omega (arith, stay_small c.args.self.column.now.read c.requires c.args.self.behind)

pub overflow_add-result-in-None : goal.overflow_add-result-in-None
overflow_add-result-in-None c = omega (arith, stay_small c.args.self.column.now.read c.requires c.args.self.behind)

pub returns-in-None : goal.returns-in-None
returns-in-None c = record { some = omega arith; within = omega (arith, c.requires.1); same = alone_same c.args.self.column.now.read c.requires c.args.self.behind c.in-None.is; column = refl; row = refl }

pub at-end-requires : goal.at-end-requires
at-end-requires c = stay_nth c.args.self.column.now.read c.requires c.args.self.behind c.in-Some.is

pub overflow_sub-end : goal.overflow_sub-end
overflow_sub-end c = omega (arith, stay_above c.args.self.column.now.read c.requires c.args.self.behind c.in-Some.is c.at-end.ensures)

pub overflow_sub-rows : goal.overflow_sub-rows
overflow_sub-rows c = stay_some c.args.self.column.now.read c.requires c.args.self.behind c.in-Some.is c.at-end.ensures c.min-rows.ensures

pub overflow_add-j-in-Some : goal.overflow_add-j-in-Some
overflow_add-j-in-Some c = omega (arith, c.min-rows.ensures, stay_small c.args.self.column.now.read c.requires c.args.self.behind)

pub next_run-requires : goal.next_run-requires
next_run-requires c = (omega (arith, c.min-rows.ensures, stay_small c.args.self.column.now.read c.requires c.args.self.behind), omega (arith, stay_few c.args.self.column.now.read c.requires c.args.self.behind c.in-Some.is))

pub invariant_of-result-in-Some : goal.invariant_of-result-in-Some
invariant_of-result-in-Some c = record { behind = stay_next c.args.self.column.now.read c.requires c.args.self.behind c.in-Some.is c.at-end.ensures c.min-rows.ensures c.next_run.ensures }

pub returns-in-Some : goal.returns-in-Some
returns-in-Some c = record { some = stay_some c.args.self.column.now.read c.requires c.args.self.behind c.in-Some.is c.at-end.ensures c.min-rows.ensures; within = omega (arith, c.min-rows.ensures); same = stay_same c.args.self.column.now.read c.requires c.args.self.behind c.in-Some.is c.at-end.ensures c.min-rows.ensures; column = refl; row = refl }
