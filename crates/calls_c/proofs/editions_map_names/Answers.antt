-- The number is that of the answer of the query of Map names.
-- By the contracts of the query and of the number.
use Rattle.answers.proofs.Values.{map_names_small}
use Rattle.calls_c.proofs.editions_map_names.Goals as goal

pub pack-requires : goal.pack-requires
pack-requires c = map_names_small c.map_names.result

pub returns : goal.returns
returns c = rw (← c.map_names.ensures) c.pack.ensures
