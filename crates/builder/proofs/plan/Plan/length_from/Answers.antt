-- `length_from` answers how many bytes a part has.
-- The places rise.
use native.Mathlib.Numerals.{add-one}
use Rattle.builder.specs.Front.{length_from}
use Rattle.builder.proofs.plan.Plan.length_from.Goals as goal

pub returns : goal.returns
unfolding length_from
returns c = rw (add-one c.args.q)
