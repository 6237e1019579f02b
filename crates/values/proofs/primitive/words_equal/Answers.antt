-- `words_equal` compares 64 rows at a time.
-- A part of rows whose null masks agree is such rows.
use mathlib.Core.Path.{sym, ◌∙◌}
use borrow.Author.Rules.{rules}
use native.Mathlib.Omega.{arith}
use Rattle.image.specs.Row.{fixed_row}
use Rattle.values.specs.Pairs.{same_row, masked_row}
use Rattle.accepted.proofs.Nodes.{side_small}
use Rattle.values.proofs.Steps.{by_rows}
use Rattle.values.proofs.MaskedRows.{masked_part}
use Rattle.values.proofs.ValidElements.{one_width}
use Rattle.values.proofs.primitive.words_equal.Goals as goal

pub columns_of-columns-requires : goal.columns_of-columns-requires
columns_of-columns-requires c = one_width c.requires.masked

pub each_block-requires-clause-near : goal.each_block-requires-clause-near
each_block-requires-clause-near c = omega (arith, side_small _ _ _ _ c.requires.masked.left, side_small _ _ _ _ c.requires.masked.right)

pub each_block-requires-clause-tested : goal.each_block-requires-clause-tested
each_block-requires-clause-tested c = λ k n le small _ _ _ _ _ _. ((small, masked_part c.requires.masked _ _ le), (c.columns_of-columns.ensures, c.requires.mask))

pub returns : goal.returns
returns c =
    c.each_block.ensures (same_row (masked_row fixed_row c.args.pair.now.left.image.now c.args.pair.now.left.number) (masked_row fixed_row c.args.pair.now.right.image.now c.args.pair.now.right.number))
    (λ k n b le small told. search rules ∙ sym (by_rows _ _ _ _ _))
    ∙ by_rows _ _ _ _ _
