-- `union_value` gives the id and the row of the child that it names.
-- The id that is read is the row's.
use Rattle.accepted.proofs.Nodes.{id_read}
use Rattle.rows.proofs.ValuePlaces.{union_known, union_unknown}
use Rattle.rows.proofs.value.Element.union_value.Goals as goal

pub returns-in-Some : goal.returns-in-Some
returns-in-Some c =
    let id = id_read _ _ _ c.buffer_place.ensures c.byte-id.ensures in
    let found = rw id at c.in-Some.ensures in
    rw (c.nested.ensures, c.rows_from.ensures, c.from.ensures, id) (union_known _ _ _ _ found.found.value found.within)

pub returns-in-None : goal.returns-in-None
returns-in-None c =
    let id = id_read _ _ _ c.buffer_place.ensures c.byte-id.ensures in
    rw (c.leaf.ensures, c.from-in-None.ensures, id) (union_unknown _ _ _ _ (rw id at c.in-None.ensures))
