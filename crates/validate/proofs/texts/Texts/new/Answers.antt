-- What is read once of a node of text.
-- By the lower numbers the offsets have four or eight bytes.
use Rattle.validate.proofs.TextRows.{narrow}
use native.Mathlib.Omega.{arith}
use Rattle.validate.proofs.texts.Texts.new.Goals as goal

pub row_numbers-requires : goal.row_numbers-requires
row_numbers-requires c = omega (arith, c.element_width.ensures, narrow c.requires)
