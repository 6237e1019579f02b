-- The number is that of the answer of the call that builds a table, and the buffer is what the call leaves.
-- By the contracts of the call and of the number; an image that is built is no longer than images are.
use Rattle.answers.proofs.Values.{built_small}
use Rattle.calls_c.proofs.editions_build.Goals as goal

pub pack-requires : goal.pack-requires
pack-requires c = built_small _ _ _ _ c.build.ensures.value

pub returns : goal.returns
returns c = record { value = rw (← c.build.ensures.value) c.pack.ensures; out_after = c.build.ensures.out_after }
