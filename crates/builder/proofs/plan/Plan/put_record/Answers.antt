-- `put_record` puts a record.
-- Its three parts, one after the other.
use mathlib.Core.Path.{◌∙◌}
use Rattle.builder.proofs.Fronts.{type_fits, rows_fit, tables_fit, record_put}
use Rattle.builder.proofs.plan.Plan.put_record.Goals as goal

pub put_type-requires : goal.put_type-requires
put_type-requires c = rw (c.node-node.ensures.image, c.node-node.ensures.number) (type_fits _ _ _ _ c.requires.fits)

pub put_rows-requires : goal.put_rows-requires
put_rows-requires c =
    let type = rw (c.node-node.ensures.image, c.node-node.ensures.number) at c.put_type.ensures in
    record { node = c.requires.node; name = c.requires.name; fits = rows_fit _ _ _ _ c.requires.fits (type.at, type.bytes) }

pub put_tables-requires : goal.put_tables-requires
put_tables-requires c =
    let type = rw (c.node-node.ensures.image, c.node-node.ensures.number) at c.put_type.ensures in
    rw (c.node-node.ensures.image, c.node-node.ensures.number) (tables_fit _ _ _ _ c.requires.fits (type.at, type.bytes) (c.put_rows.ensures.at, c.put_rows.ensures.bytes))

pub returns : goal.returns
returns c =
    let type = rw (c.node-node.ensures.image, c.node-node.ensures.number) at c.put_type.ensures in
    let tables = rw (c.node-node.ensures.image, c.node-node.ensures.number) at c.put_tables.ensures in
    let both = record_put _ _ _ _ c.requires.fits (type.at, type.bytes) (c.put_rows.ensures.at, c.put_rows.ensures.bytes) (tables.at, tables.bytes) in record { lent = c.put_tables.ensures.lent ∙ c.put_rows.ensures.lent ∙ c.put_type.ensures.lent; long = c.put_tables.ensures.long ∙ c.put_rows.ensures.long ∙ c.put_type.ensures.long; at = both.0; bytes = both.1 }
