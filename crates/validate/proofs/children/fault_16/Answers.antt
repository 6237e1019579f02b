-- `fault_16` tests the children that its layout has.
-- Each arm is one test over its layouts, numbered by their places in the declaration.
use native.Mathlib.Nat.{add-zero}
use borrow.Enum.Refused.{opened}
use mathlib.Core.Path.{◌≡◌, refl, ◌∙◌}
use mathlib.Core.Bool.{false, not}
use mathlib.Core.List.{List, [], ◌∷◌}
use Prim.Native.Nat.{ℕ, ◌+◌, ◌*◌}
use lib.Dec.{eqb, ltb}
use types.Run.{OneOf}
use denote.Enum.Declared.{tag_of}
use Rattle.image.specs.declared.type_code.Layout.{Layout}
use Rattle.image.specs.Record.{p1_of, length_of, elements_of, first_child}
use Rattle.image.specs.Faults.{child_under, too_few_child_rows, fault16}
use Rattle.image.specs.contracts.type_code.Layout.{the_type}
use Rattle.image.proofs.CodeTable.{at_layouts}
use Rattle.validate.proofs.children.fault_16.Goals as goal

module _ (s : List ℕ) (k : ℕ) (l : Layout) where
  fixed : OneOf (7 ∷ []) (tag_of the_type l) → ltb (length_of s (first_child s k)) (elements_of s k * p1_of s k) ≡ too_few_child_rows l s k
  fixed = at_layouts (7 ∷ []) _ (λ l. too_few_child_rows l s k) refl l

  parts : OneOf (8 ∷ 10 ∷ []) (tag_of the_type l) → child_under s k (elements_of s k) ≡ too_few_child_rows l s k
  parts = at_layouts (8 ∷ 10 ∷ []) _ (λ l. too_few_child_rows l s k) refl l

  runs : OneOf (12 ∷ []) (tag_of the_type l) → not (eqb (length_of s (first_child s k)) (length_of s (first_child s k + 1))) ≡ too_few_child_rows l s k
  runs = at_layouts (12 ∷ []) _ (λ l. too_few_child_rows l s k) refl l

  none : OneOf (0 ∷ 1 ∷ 2 ∷ 3 ∷ 4 ∷ 5 ∷ 6 ∷ 9 ∷ 11 ∷ []) (tag_of the_type l) → false ≡ too_few_child_rows l s k
  none = at_layouts (0 ∷ 1 ∷ 2 ∷ 3 ∷ 4 ∷ 5 ∷ 6 ∷ 9 ∷ 11 ∷ []) _ (λ l. too_few_child_rows l s k) refl l

pub returns-in-FixedList : goal.returns-in-FixedList
unfolding fault16
returns-in-FixedList c =
    let rows = rw (c.child.ensures.image, c.child.ensures.number, add-zero) at c.length.ensures.value in
    rw (← c.layout.ensures) (c.is_under.ensures ∙ rw (rows, c.elements.ensures.value, c.p1.ensures.value) (fixed _ _ c.layout.result c.in-FixedList.in-FixedList-own.keys1))

pub returns-in-Struct : goal.returns-in-Struct
unfolding fault16
returns-in-Struct c = rw (← c.layout.ensures) (c.child_under.ensures ∙ rw c.elements-in-Struct.ensures.value (parts _ _ c.layout.result c.in-Struct.in-Struct-own.keys2))

pub returns-in-Runs : goal.returns-in-Runs
unfolding fault16
returns-in-Runs c =
    let ends = rw (c.child-in-Runs.ensures.image, c.child-in-Runs.ensures.number, add-zero) at c.length-in-Runs.ensures.value in
    let values = rw (c.child-in-Runs-2.ensures.image, c.child-in-Runs-2.ensures.number) at c.length-in-Runs-2.ensures.value in
    rw (← c.layout.ensures, ends, values) (runs _ _ c.layout.result c.in-Runs.in-Runs-own.keys3)

pub returns-in_default : goal.returns-in_default
unfolding fault16
returns-in_default c = rw (← c.layout.ensures) (none _ _ c.layout.result (opened c.in_default.in_default-own.keys4))
