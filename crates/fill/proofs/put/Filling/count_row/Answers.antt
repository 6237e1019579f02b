-- `count_row` says anew what a node has got.
-- Rows and spans of a table with one entry anew are those of the table, with one of each anew.
use borrow.Author.Rules.{rules}
use Rattle.std.proofs.lemmas.List.{map-set}
use Rattle.fill.proofs.put.Filling.count_row.Goals as goal

pub returns : goal.returns
returns c = record {
  same = search rules;
  out = search rules;
  rows = map-set (λ t. t.rows) c.args.self.now.tallies c.args.node.number _;
  spans = map-set (λ t. t.span) c.args.self.now.tallies c.args.node.number _;
}
