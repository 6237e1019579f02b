-- The number is that of the write's answer, and the part that is not lent stays as it was.
-- By the contracts of the write and of the number, over the part of the buffer that is lent.
use native.Mathlib.Omega.{arith}
use lib.ListN.{length-take}
use Rattle.editions_c.proofs.Outputs.{lent_used, lent_small, lent_output}
use Rattle.editions_c.proofs.editions_write.Goals as goal

pub slice_bounds-write-end-2 : goal.slice_bounds-write-end-2
slice_bounds-write-end-2 c = simp length-take (omega (arith, c.used_length-end.ensures))

pub pack-requires : goal.pack-requires
pack-requires c = lent_small _ _ _ _ c.used_length-end.ensures c.write.ensures.value

pub returns : goal.returns
returns c = record { value = rw (← lent_used _ c.used_length-end.ensures, ← c.write.ensures.value) c.pack.ensures; out_after = lent_output _ _ _ _ c.used_length-end.ensures c.write.ensures.out_after }
