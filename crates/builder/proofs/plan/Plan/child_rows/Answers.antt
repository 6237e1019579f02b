-- `child_rows` answers how many rows each child of a node has.
-- A Struct is told by its code.
use Rattle.image.proofs.Compare.{is_eq, is_ne}
use mathlib.Core.Path.{refl}
use Rattle.builder.specs.Plan.{child_rows}
use Rattle.builder.proofs.plan.Plan.child_rows.Goals as goal

pub returns-then-code-eq-STRUCT : goal.returns-then-code-eq-STRUCT
unfolding child_rows
returns-then-code-eq-STRUCT c = rw (is_eq c.code.ensures.value refl c.if-code-eq-STRUCT.true)

pub returns : goal.returns
unfolding child_rows
returns c = rw (is_ne c.code.ensures.value refl c.if-code-eq-STRUCT.false)
