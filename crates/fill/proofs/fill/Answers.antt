-- `fill` fills the parts with the rows of the whole string.
-- The walk over the rows of the root, from zeros to what each node's rows make. The buffer that the filling holds is the one that is lent.
use native.Mathlib.Omega.{arith}
use mathlib.Core.Path.{sym, ◌∙◌}
use Rattle.fill.proofs.Whole.{whole_walk, parts_filled}
use Rattle.fill.proofs.fill.Goals as goal

pub fill_rows-requires : goal.fill_rows-requires
fill_rows-requires c = rw (c.root-root.ensures.image, c.root-root.ensures.number) (whole_walk (rw (c.new-filling.ensures.lent.0, c.new-filling.ensures.lent.2) c.requires) (λ k. omega (arith, c.type_inv.b k)) c.new-filling.ensures.none_yet.0 c.new-filling.ensures.none_yet.1)

pub returns : goal.returns
returns c = c.out-1.given.1.1 (sym (c.fill_rows.ensures.same.out ∙ c.new-filling.ensures.lent.1)) ∙ (rw c.new-filling.ensures.lent.2 at (parts_filled (rw (c.new-filling.ensures.lent.0, c.new-filling.ensures.lent.2) c.requires) (λ k. omega (arith, c.type_inv.b k)) c.new-filling.ensures.none_yet.0 c.new-filling.ensures.none_yet.1 (rw (c.root-root.ensures.image, c.root-root.ensures.number) at c.fill_rows.ensures.walked)))
