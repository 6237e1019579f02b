-- `kept_key_outside` tells whether a row that is not null has a key that is not below the limit.
-- Row by row, where the bitmap has it.
use mathlib.Core.Path.{ap}
use borrow.Author.Rules.{rules}
use Rattle.image.specs.Faults.{key_row_fault}
use Rattle.image.proofs.Numbers.{width_most}
use Rattle.validate.specs.Numbers.{number_in, reaches}
use Rattle.validate.proofs.Elements.{row_inside}
use Rattle.validate.proofs.KeyRows.{Keys, null_row, key_row}
use native.Mathlib.Omega.{arith}
use Rattle.validate.proofs.rows.kept_key_outside.Goals as goal

pub row_numbers-keys-requires : goal.row_numbers-keys-requires
row_numbers-keys-requires c = omega (arith, c.requires.width, width_most _ c.requires.held.width)

pub any_kept-requires : goal.any_kept-requires
any_kept-requires c = λ i lt full _ _ _ _ _ _ _. row_inside _ _ i c.requires.held c.requires.width c.row_numbers-keys.ensures.bytes c.row_numbers-keys.ensures.place c.row_numbers-keys.ensures.width lt

pub returns : goal.returns
unfolding reaches number_in
returns c =
    let keys : Keys c.args.node.image.now c.args.node.number c.args.limit c.row_numbers-keys.result = record { bytes = ap (λ b. b.now) c.row_numbers-keys.ensures.bytes; width = rw c.row_numbers-keys.ensures.width c.requires.width; place = rw c.row_numbers-keys.ensures.width c.row_numbers-keys.ensures.place; limits = c.requires.limit } in
    c.any_kept.ensures (key_row_fault c.args.node.image.now c.args.node.number) (record { null = λ i e. null_row _ _ i e; kept = λ i b lt full told. key_row keys i full (search rules) })
