-- `utf8::ascii::high_among` meets its contract.
-- The loop keeps that what was found is what stands in the bytes passed.
use mathlib.Core.Path.{refl}
use lib.Dec.{leb}
use Rattle.std.proofs.lemmas.List.Folds.{list_any_more}
use Rattle.utf8.specs.Ascii.{any_high}
use Rattle.utf8.proofs.ascii.high_among.Goals as goal

pub loop-b-init : goal.loop-b-init
unfolding any_high
loop-b-init c = refl

pub loop-b-preserved : goal.loop-b-preserved
unfolding any_high
loop-b-preserved c = rw (list_any_more (leb 128) c.args.text.now c.loop-b.b-index 0 c.loop-b-test.true, ← c.loop-b.invariant)
