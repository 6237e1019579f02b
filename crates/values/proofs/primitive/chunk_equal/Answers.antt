-- A chunk of rows is equal where all its bytes are the same, or else by its mask.
-- Without a bitmap only where the bytes are.
use Rattle.values.proofs.MaskedRows.{whole_block}
use Rattle.values.proofs.ValidElements.{whole_rows}
use Rattle.image.specs.Row.{fixed_row}
use mathlib.Core.Path.{sym, ◌∙◌}
use Rattle.values.proofs.primitive.chunk_equal.Goals as goal

pub returns-then-block_equal : goal.returns-then-block_equal
returns-then-block_equal c = whole_block fixed_row c.requires (sym c.block_equal.ensures ∙ c.if-block_equal.true)

pub returns-in-None : goal.returns-in-None
returns-in-None c = sym (sym (whole_rows c.requires c.in-None.ensures) ∙ sym c.block_equal.ensures ∙ c.if-block_equal.false)
