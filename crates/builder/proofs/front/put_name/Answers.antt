-- `put_name` puts the name of a node.
-- A name without bytes is not read.
use mathlib.Core.Path.{refl}
use Rattle.laws.proofs.Lengths.{bytes_length}
use Rattle.image.proofs.Slices.{sliced}
use Rattle.builder.proofs.Fronts.{name_none, name_fits, name_put}
use native.Mathlib.Omega.{arith}
use Rattle.builder.proofs.front.put_name.Goals as goal

pub returns-then-n-eq0 : goal.returns-then-n-eq0
returns-then-n-eq0 c = let both = name_none _ _ c.requires.fits c.name_length-n.ensures.value c.if-n-eq0.true in record { lent = refl; long = refl; at = both.0; bytes = both.1 }

pub put_bytes-requires : goal.put_bytes-requires
put_bytes-requires c = rw (sliced c.args.node.image.now c.name_place-place.result c.name_length-n.result (omega (arith, c.requires.named.inside (omega (arith, c.if-n-eq0.false, c.name_length-n.ensures.value)), c.name_length-n.ensures.value, c.name_place-place.ensures.value)), bytes_length) (name_fits _ _ c.requires.fits c.name_length-n.ensures.value)

pub returns : goal.returns
returns c =
    let p = rw (sliced c.args.node.image.now c.name_place-place.result c.name_length-n.result (omega (arith, c.requires.named.inside (omega (arith, c.if-n-eq0.false, c.name_length-n.ensures.value)), c.name_length-n.ensures.value, c.name_place-place.ensures.value))) at c.put_bytes.ensures in
    let both = name_put _ _ c.requires.fits c.name_length-n.ensures.value c.name_place-place.ensures.value (p.at, p.bytes) in
    record { lent = p.lent; long = p.long; at = both.0; bytes = both.1 }
