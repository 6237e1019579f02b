-- The answer is whether name, flag and id agree, each where it counts.
-- Each by its test, and by what the readers give.
use mathlib.Core.Path.{◌≡◌, refl}
use mathlib.Core.Bool.{not, beq, ◌||◌}
use lib.Dec.{eqb}
use Rattle.image.specs.Record.{nullable, id_of}
use Rattle.image.specs.Types.{labels_agree, name_of, same_bytes}
use Rattle.values.proofs.types.labels_equal.Goals as goal
use Rattle.values.proofs.types.labels_equal.Goals.{then-not-counted, else-not-counted, then-not-counted-2, else-not-counted-2, then-not-counted-3, else-not-counted-3}

pub returns : goal.returns
unfolding labels_agree name_of
returns c =
    let name : c.if-not-counted.name ≡ (not c.args.counted.name || same_bytes (name_of c.args.pair.left.image.now c.args.pair.left.number) (name_of c.args.pair.right.image.now c.args.pair.right.number)) =
    elim c.if-not-counted.branch [
      | then-not-counted w ↦ rw (w.name-is, w.if-not-counted.true) refl
      | else-not-counted w ↦ rw (w.name-is, w.if-not-counted.false, ← w.name_place.ensures.value, ← w.name_length.ensures.value) w.name_is-name.ensures
    ] in
    let flag : c.if-not-counted-2.flag ≡ (not c.args.counted.flag || beq (nullable c.args.pair.left.image.now c.args.pair.left.number) (nullable c.args.pair.right.image.now c.args.pair.right.number)) =
    elim c.if-not-counted-2.branch [
      | then-not-counted-2 w ↦ rw (w.flag-is, w.if-not-counted-2.true) refl
      | else-not-counted-2 w ↦ rw (w.flag-is, w.if-not-counted-2.false, ← w.is_nullable.ensures, ← w.is_nullable-else-not-counted-2.ensures) refl
    ] in
    let id : c.if-not-counted-3.id ≡ (not c.args.counted.id || eqb (id_of c.args.pair.left.image.now c.args.pair.left.number) (id_of c.args.pair.right.image.now c.args.pair.right.number)) =
    elim c.if-not-counted-3.branch [
      | then-not-counted-3 w ↦ rw (w.id-is, w.if-not-counted-3.true) refl
      | else-not-counted-3 w ↦ rw (w.id-is, w.if-not-counted-3.false, ← w.type_id.ensures.value, ← w.type_id-else-not-counted-3.ensures.value) refl
    ] in
    rw (name, flag, id) refl
