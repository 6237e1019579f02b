-- `dense_value` gives the id and the row of the child that it names, at the stored offset.
use Rattle.accepted.proofs.Nodes.{dense_offset_read}
use Rattle.rows.proofs.value.Element.dense_value.Goals as goal

pub returns : goal.returns
returns c =
    let offset = rw (c.numbers.ensures.bytes, c.numbers.ensures.width) at c.at.ensures in
    rw (← dense_offset_read _ _ _ c.numbers.ensures.place offset) c.union_value.ensures
