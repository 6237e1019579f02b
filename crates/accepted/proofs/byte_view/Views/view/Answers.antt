-- The view of a row stands so many views behind that of row 0.
use Rattle.accepted.proofs.Views.{place_read, row_small, row_viewed}
use native.Mathlib.Omega.{arith}
use Rattle.accepted.proofs.byte_view.Views.view.Goals as goal

pub overflow_mul-result : goal.overflow_mul-result
overflow_mul-result c = omega (arith, row_small c.args.self.read c.requires)

pub overflow_add-result : goal.overflow_add-result
overflow_add-result c = omega (arith, row_small c.args.self.read c.requires)

pub invariant_of-result : goal.invariant_of-result
invariant_of-result c = record { viewed = row_viewed c.args.self.read c.requires }

pub returns-clause-place : goal.returns-clause-place
returns-clause-place c = place_read c.args.self.read c.requires
