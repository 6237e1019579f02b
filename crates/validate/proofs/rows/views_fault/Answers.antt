-- `views_fault` tells whether a row that is not null has a view that breaks a rule.
-- A row's view stands 16 bytes after the one before it.
use borrow.Author.Rules.{rules}
use native.Mathlib.Omega.{arith}
use Prim.Native.Nat.{ℕ, ◌<◌}
use Rattle.image.specs.Record.{length_of}
use Rattle.image.specs.Faults.{view_row_fault}
use Rattle.validate.proofs.ViewRows.{entries_read, null_row, view_row_lem, view_at}
use Rattle.validate.proofs.rows.views_fault.Goals as goal

pub any_kept-requires : goal.any_kept-requires
any_kept-requires c =
    let at = λ (i : ℕ) (lt : i < length_of c.args.node.image.now c.args.node.number). view_at (entries_read c.requires c.node_entry-entries.ensures c.buffer_count.ensures) c.first_place-place.ensures.value i lt in
    λ i lt full. (λ _ _ _ _ _ _. omega (arith, (at i lt).fits, c.well_formed), λ _ _ _ _ _ _. omega (arith, (at i lt).fits, c.well_formed), λ _ _ _ _ _ _ _ _ _. at i lt)

pub returns : goal.returns
returns c =
    let read = entries_read c.requires c.node_entry-entries.ensures c.buffer_count.ensures in
    c.any_kept.ensures (view_row_fault c.args.node.image.now c.args.node.number) (record { null = λ i e. null_row _ _ i e; kept = λ i b lt full told. view_row_lem read c.first_place-place.ensures.value i full (search rules) })
