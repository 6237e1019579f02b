-- `chunk_agrees` compares a chunk of rows.
-- Rows that are equal agree; others are compared one by one, as numbers of 4 bytes or of 8.
use mathlib.Core.Path.{sym, ◌∙◌}
use Rattle.values.proofs.ValidElements.{one_width}
use Rattle.digits.proofs.Agreeing.{equal_agree}
use Rattle.digits.proofs.chunk_agrees.Goals as goal

pub returns-then-chunk_equal : goal.returns-then-chunk_equal
returns-then-chunk_equal c =
    let same = rw (c.requires.left_root, c.requires.right_root) at c.chunk_equal.ensures in
    equal_agree c.requires.numbers _ (sym same ∙ c.if-chunk_equal.true)

pub columns_of-requires : goal.columns_of-requires
columns_of-requires c = one_width {p = c.args.pair.now} {r = c.args.rows} (rw (c.requires.left_root, c.requires.right_root) c.requires.numbers.rows)
