-- `value_at` gives the value of the node's layout.
-- Each arm is at one layout, whose function gives its value. In runs it is the run that is kept beside the element.
use mathlib.Core.Path.{◌≡◌, sym}
use Rattle.image.specs.declared.type_code.Layout.TheVariants.{Runs}
use Rattle.image.specs.Record.{code_of}
use Rattle.image.specs.TypeCode.{layout_of}
use Rattle.accepted.proofs.Columns.{kept_run_lem, layout_runs}
use Rattle.accepted.proofs.Nodes.{layout_is}
use Rattle.rows.proofs.value.value_at.Goals as goal

pub returns-in-Runs : goal.returns-in-Runs
returns-in-Runs c =
    let runs : layout_of (code_of c.args.node.image.now c.args.node.number) ≡ Runs = layout_is c.layout-layout.ensures (sym c.in-Runs.is) in
    rw (runs, ← kept_run_lem _ _ _ (layout_runs _ _ runs), ← c.requires.run) c.run_value.ensures
