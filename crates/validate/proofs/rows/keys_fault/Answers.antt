-- `keys_fault` tells whether a row that is not null has a key outside the values.
-- Without a bitmap it is the keys alone that decide.
use mathlib.Core.Path.{ap, sym, ◌∙◌}
use borrow.Author.Rules.{rules}
use Rattle.image.proofs.Numbers.{width_most}
use Rattle.validate.specs.Numbers.{number_in, reaches}
use Rattle.validate.proofs.Elements.{row_inside}
use Rattle.validate.proofs.KeyRows.{Keys, by_keys}
use native.Mathlib.Omega.{arith}
use Rattle.validate.proofs.rows.keys_fault.Goals as goal

pub key_limit-limit-requires : goal.key_limit-limit-requires
key_limit-limit-requires c = (c.element_width-width.ensures, rw c.element_width-width.ensures (width_most _ c.requires.width))

pub row_numbers-keys-requires : goal.row_numbers-keys-requires
row_numbers-keys-requires c = omega (arith, c.element_width-width.ensures, width_most _ c.requires.width)

pub any_in_blocks-requires : goal.any_in_blocks-requires
any_in_blocks-requires c = λ k lt _ _ _ _ _ _ _. row_inside _ _ k c.requires c.element_width-width.ensures c.row_numbers-keys.ensures.bytes c.row_numbers-keys.ensures.place c.row_numbers-keys.ensures.width (rw c.length.ensures.value at lt)

pub returns-then-not-has_bitmap : goal.returns-then-not-has_bitmap
unfolding reaches number_in
returns-then-not-has_bitmap c =
    let keys : Keys c.args.node.image.now c.args.node.number c.key_limit-limit.result c.row_numbers-keys.result = record { bytes = ap (λ b. b.now) c.row_numbers-keys.ensures.bytes; width = rw c.row_numbers-keys.ensures.width c.element_width-width.ensures; place = rw c.row_numbers-keys.ensures.width c.row_numbers-keys.ensures.place; limits = c.key_limit-limit.ensures } in
    by_keys keys (sym c.has_bitmap.ensures ∙ c.if-not-has_bitmap.true) c.length.ensures.value (c.any_in_blocks.ensures (reaches c.key_limit-limit.result (number_in c.row_numbers-keys.result.bytes.now c.row_numbers-keys.result.place c.row_numbers-keys.result.width)) (λ k b lt p. search rules))
