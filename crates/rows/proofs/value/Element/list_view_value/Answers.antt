-- `list_view_value` gives the size and the child rows.
-- An offset and its size stay within the child.
use Rattle.accepted.proofs.Nodes.{size_read}
use Rattle.rows.proofs.value.Element.list_view_value.Goals as goal

pub returns : goal.returns
returns c =
    let count = rw (c.numbers.ensures.bytes, c.numbers.ensures.width) at c.at-count.ensures in
    rw (c.list.ensures, c.rows_from.ensures, c.offset_at-from.ensures, size_read _ _ _ c.element_width.ensures c.numbers.ensures.place count, c.first_child.ensures.value)
