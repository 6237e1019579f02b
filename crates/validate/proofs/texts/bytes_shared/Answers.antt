-- The lengths of the views are added up, and the sum fits.
-- The loop keeps that the sum is below 2 ^ 32 for each view.
use Rattle.validate.proofs.TextRows.{small_image, first_fits}
use native.Mathlib.Omega.{arith}
use Rattle.validate.proofs.texts.bytes_shared.Goals as goal

pub overflow_add-views : goal.overflow_add-views
overflow_add-views c = omega (arith, first_fits c.requires c.args.views.read.start c.loop-i.i (omega (arith, c.length-i-end.ensures.value)), small_image c.requires.text)

pub load-sum-requires : goal.load-sum-requires
load-sum-requires c = (omega arith, omega (arith, first_fits c.requires c.args.views.read.start c.loop-i.i (omega (arith, c.length-i-end.ensures.value))))
