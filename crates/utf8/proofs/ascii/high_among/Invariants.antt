-- `utf8::ascii::high_among` meets its contract.
-- The loop keeps that what was found is what stands in the bytes passed.
use mathlib.Core.Path.{◌≡◌}
use lib.ListN.{take}
use Rattle.utf8.specs.Ascii.{any_high}
use Rattle.utf8.proofs.ascii.high_among.Given as goal

abbrev pub invariant-loop-b : goal.invariant-loop-b
invariant-loop-b l = l.found ≡ any_high (take l.b-index l.text)
