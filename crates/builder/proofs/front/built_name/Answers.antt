-- `built_name` answers where the name of a node stands.
-- A name without bytes has no place.
use mathlib.Core.Path.{refl}
use Rattle.image.proofs.Compare.{is_eq, is_ne}
use Rattle.builder.specs.Front.{built_name}
use Rattle.builder.proofs.front.built_name.Goals as goal

pub returns-then-name_length-eq0 : goal.returns-then-name_length-eq0
unfolding built_name
returns-then-name_length-eq0 c = rw (is_eq c.name_length.ensures.value refl c.if-name_length-eq0.true)

pub returns : goal.returns
unfolding built_name
returns c = rw (is_ne c.name_length.ensures.value refl c.if-name_length-eq0.false) c.requires
