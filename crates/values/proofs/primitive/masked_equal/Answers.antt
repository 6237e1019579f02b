-- `masked_equal` compares 1,024 rows at a time.
-- A part of rows whose null masks agree is such rows.
use mathlib.Core.Path.{sym, ◌∙◌}
use borrow.Author.Rules.{rules}
use native.Mathlib.Omega.{arith}
use Rattle.image.specs.Row.{fixed_row}
use Rattle.values.specs.Pairs.{same_row, masked_row}
use Rattle.accepted.proofs.Nodes.{side_small}
use Rattle.values.proofs.Steps.{by_rows}
use Rattle.values.proofs.MaskedRows.{masked_part}
use Rattle.values.proofs.primitive.masked_equal.Goals as goal

pub each_block-requires-clause-near : goal.each_block-requires-clause-near
each_block-requires-clause-near c = omega (arith, side_small _ _ _ _ c.requires.left, side_small _ _ _ _ c.requires.right)

pub each_block-requires-clause-tested : goal.each_block-requires-clause-tested
each_block-requires-clause-tested c = λ k n le small _ _ _ _. masked_part c.requires _ _ le

pub returns : goal.returns
returns c =
    c.each_block.ensures (same_row (masked_row fixed_row c.args.pair.now.left.image.now c.args.pair.now.left.number) (masked_row fixed_row c.args.pair.now.right.image.now c.args.pair.now.right.number))
    (λ k n b le small told. search rules ∙ sym (by_rows _ _ _ _ _))
    ∙ by_rows _ _ _ _ _
