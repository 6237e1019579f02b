-- `fault_18` tells whether the node has fault 18.
-- Each arm of the `match` answers for its layout, whose rows lie inside by the lower numbers.
use borrow.Enum.Refused.{opened}
use mathlib.Core.Path.{refl, sym}
use mathlib.Core.Bool.{false}
use mathlib.Core.List.{[], ◌∷◌}
use Rattle.image.specs.declared.type_code.Layout.TheVariants.{View, DenseUnion, SparseUnion, Dictionary, Runs}
use Rattle.image.specs.Faults.{row_fault, fault18}
use Rattle.validate.proofs.Layouts.{at_code, at_place}
use Rattle.validate.proofs.Lower.{views, dense_rows, sparse_rows, keys, run_ends_lem}
use native.Mathlib.Omega.{arith}
use Rattle.validate.proofs.rows.fault_18.Goals as goal

pub views_fault-requires : goal.views_fault-requires
views_fault-requires c = views c.requires.0 (omega arith) _ c.requires.1 (sym (at_place 4 View (λ l. l) refl c.layout.result c.in-View.in-View-own.keys1 _ _ c.layout.ensures refl))

pub dense_fault-requires : goal.dense_fault-requires
dense_fault-requires c = dense_rows c.requires.0 (omega arith) _ c.requires.1 (sym (at_place 9 DenseUnion (λ l. l) refl c.layout.result c.in-DenseUnion.in-DenseUnion-own.keys2 _ _ c.layout.ensures refl))

pub sparse_fault-requires : goal.sparse_fault-requires
sparse_fault-requires c = sparse_rows c.requires.0 (omega arith) _ c.requires.1 (sym (at_place 10 SparseUnion (λ l. l) refl c.layout.result c.in-SparseUnion.in-SparseUnion-own.keys3 _ _ c.layout.ensures refl))

pub keys_fault-requires : goal.keys_fault-requires
keys_fault-requires c = keys c.requires.0 (omega arith) _ c.requires.1 (sym (at_place 11 Dictionary (λ l. l) refl c.layout.result c.in-Dictionary.in-Dictionary-own.keys4 _ _ c.layout.ensures refl))

pub runs_fault-requires : goal.runs_fault-requires
runs_fault-requires c = run_ends_lem c.requires.0 (omega arith) _ c.requires.1 (sym (at_place 12 Runs (λ l. l) refl c.layout.result c.in-Runs.in-Runs-own.keys5 _ _ c.layout.ensures refl))

pub returns-in-View : goal.returns-in-View
unfolding fault18
returns-in-View c = at_place 4 _ (λ l. row_fault l c.args.node.image.now c.args.node.number) c.views_fault.ensures c.layout.result c.in-View.in-View-own.keys1 _ _ c.layout.ensures refl

pub returns-in-DenseUnion : goal.returns-in-DenseUnion
unfolding fault18
returns-in-DenseUnion c = at_place 9 _ (λ l. row_fault l c.args.node.image.now c.args.node.number) c.dense_fault.ensures c.layout.result c.in-DenseUnion.in-DenseUnion-own.keys2 _ _ c.layout.ensures refl

pub returns-in-SparseUnion : goal.returns-in-SparseUnion
unfolding fault18
returns-in-SparseUnion c = at_place 10 _ (λ l. row_fault l c.args.node.image.now c.args.node.number) c.sparse_fault.ensures c.layout.result c.in-SparseUnion.in-SparseUnion-own.keys3 _ _ c.layout.ensures refl

pub returns-in-Dictionary : goal.returns-in-Dictionary
unfolding fault18
returns-in-Dictionary c = at_place 11 _ (λ l. row_fault l c.args.node.image.now c.args.node.number) c.keys_fault.ensures c.layout.result c.in-Dictionary.in-Dictionary-own.keys4 _ _ c.layout.ensures refl

pub returns-in-Runs : goal.returns-in-Runs
unfolding fault18
returns-in-Runs c = at_place 12 _ (λ l. row_fault l c.args.node.image.now c.args.node.number) c.runs_fault.ensures c.layout.result c.in-Runs.in-Runs-own.keys5 _ _ c.layout.ensures refl

pub returns-in_default : goal.returns-in_default
unfolding fault18
returns-in_default c = at_code (0 ∷ 1 ∷ 2 ∷ 3 ∷ 5 ∷ 6 ∷ 7 ∷ 8 ∷ []) false (λ l. row_fault l c.args.node.image.now c.args.node.number) refl c.layout.result (opened c.in_default.in_default-own.keys6) _ _ c.layout.ensures refl
