-- `Column::first_run` gives the run that is kept at the first row.
-- Where there are no runs it is the element itself; where one is remembered there, it is that one.
use Rattle.accepted.proofs.Columns.{read_told, first_small, first_alone, first_part, first_kept, first_remembered}
use native.Mathlib.Omega.{arith}
use Rattle.accepted.proofs.column.Column.first_run.Goals as goal

pub overflow_add-j : goal.overflow_add-j
overflow_add-j c = omega (arith, first_small c.args.self.read c.requires.side)

pub returns-then-is_none : goal.returns-then-is_none
returns-then-is_none c = first_alone c.args.self.read c.requires.side (read_told c.args.self.read (c.if-is_none.ensures))

pub returns-then-kept-j : goal.returns-then-kept-j
returns-then-kept-j c = first_remembered c.args.self.read c.requires.side c.requires.remembered (read_told c.args.self.read (c.if-is_none.ensures)) c.in-Some.is c.if-kept-j.true

pub run_of-requires : goal.run_of-requires
run_of-requires c = first_part c.args.self.read c.requires.side (read_told c.args.self.read (c.if-is_none.ensures))

pub returns : goal.returns
returns c = first_kept c.args.self.read c.requires.side (read_told c.args.self.read (c.if-is_none.ensures)) c.run_of.ensures
