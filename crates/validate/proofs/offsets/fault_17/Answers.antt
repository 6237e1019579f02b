-- `fault_17` tells whether the node has fault 17.
-- Each arm of the `match` answers for its layout, whose offsets and sizes lie inside by the lower numbers.
use native.Mathlib.Nat.{add-zero}
use borrow.Enum.Refused.{opened}
use mathlib.Core.Path.{refl, sym, ◌∙◌}
use mathlib.Core.Bool.{false}
use mathlib.Core.List.{[], ◌∷◌}
use Rattle.image.specs.declared.type_code.Layout.TheVariants.{VariableSize, List as Lists, ListView}
use Rattle.image.specs.Faults.{offset_fault, fault17}
use Rattle.validate.proofs.Layouts.{at_code, at_place}
use Rattle.validate.proofs.Lower.{text_offsets, list_offsets, list_views}
use native.Mathlib.Omega.{arith}
use Rattle.validate.proofs.offsets.fault_17.Goals as goal

pub offsets_fall-requires : goal.offsets_fall-requires
offsets_fall-requires c = text_offsets c.requires.0 (omega arith) _ c.requires.1 (sym (at_place 3 VariableSize (λ l. l) refl c.layout.result c.in-VariableSize.in-VariableSize-own.keys1 _ _ c.layout.ensures refl))

pub offsets_fall-requires-in-List : goal.offsets_fall-requires-in-List
offsets_fall-requires-in-List c = list_offsets c.requires.0 (omega arith) _ c.requires.1 (sym (at_place 5 Lists (λ l. l) refl c.layout.result c.in-List.in-List-own.keys2 _ _ c.layout.ensures refl))

pub lists_outside-requires : goal.lists_outside-requires
lists_outside-requires c =
    let both = list_views c.requires.0 (omega arith) _ c.requires.1 (sym (at_place 6 ListView (λ l. l) refl c.layout.result c.in-ListView.in-ListView-own.keys3 _ _ c.layout.ensures refl)) in
    record { offsets = both.0; sizes = both.1 }

pub returns-in-VariableSize : goal.returns-in-VariableSize
unfolding fault17
returns-in-VariableSize c = at_place 3 _ (λ l. offset_fault l c.args.node.image.now c.args.node.number) (c.offsets_fall.ensures ∙ rw c.buffer_length.ensures.value) c.layout.result c.in-VariableSize.in-VariableSize-own.keys1 _ _ c.layout.ensures refl

pub returns-in-List : goal.returns-in-List
unfolding fault17
returns-in-List c =
    let rows = rw (c.child.ensures.image, c.child.ensures.number, add-zero) at c.length.ensures.value in
    at_place 5 _ (λ l. offset_fault l c.args.node.image.now c.args.node.number) (c.offsets_fall-in-List.ensures ∙ rw rows) c.layout.result c.in-List.in-List-own.keys2 _ _ c.layout.ensures refl

pub returns-in-ListView : goal.returns-in-ListView
unfolding fault17
returns-in-ListView c = at_place 6 _ (λ l. offset_fault l c.args.node.image.now c.args.node.number) c.lists_outside.ensures c.layout.result c.in-ListView.in-ListView-own.keys3 _ _ c.layout.ensures refl

pub returns-in_default : goal.returns-in_default
unfolding fault17
returns-in_default c = at_code (0 ∷ 1 ∷ 2 ∷ 4 ∷ 7 ∷ 8 ∷ 9 ∷ 10 ∷ 11 ∷ 12 ∷ []) false (λ l. offset_fault l c.args.node.image.now c.args.node.number) refl c.layout.result (opened c.in_default.in_default-own.keys4) _ _ c.layout.ensures refl
