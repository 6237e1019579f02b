-- `TypeCode::layout` gives each code the layout of its entry.
-- An arm of one code computes; an arm of a range of codes is one test over the entries of that range.
use borrow.Author.Rules.{rules}
use native.Mathlib.Omega.{arith}
use mathlib.Core.Path.{refl}
use mathlib.Core.List.{List, [], ◌∷◌}
use Prim.Native.Nat.{ℕ}
use Rattle.image.proofs.CodeTable.{constant}
use Rattle.image.specs.TypeCode.{entries, entry_of, layout_of}
use Rattle.image.specs.declared.type_code.Layout.TheVariants.{Null, FixedWidth, VariableSize, View, List as Lists, ListView}
use Rattle.image.proofs.type_code.TypeCode.layout.Goals as goal

-- the codes that have an arm of their own, the last arm first
abbrev single : List ℕ
single = 43 ∷ 41 ∷ 40 ∷ 39 ∷ 38 ∷ 37 ∷ 42 ∷ 30 ∷ 1 ∷ []

pub returns-in-1 : goal.returns-in-1
unfolding layout_of entry_of entries
returns-in-1 c = search rules

pub returns-in-37 : goal.returns-in-37
unfolding layout_of entry_of entries
returns-in-37 c = search rules

pub returns-in-38 : goal.returns-in-38
unfolding layout_of entry_of entries
returns-in-38 c = search rules

pub returns-in-39 : goal.returns-in-39
unfolding layout_of entry_of entries
returns-in-39 c = search rules

pub returns-in-40 : goal.returns-in-40
unfolding layout_of entry_of entries
returns-in-40 c = search rules

pub returns-in-41 : goal.returns-in-41
unfolding layout_of entry_of entries
returns-in-41 c = search rules

pub returns-in-43 : goal.returns-in-43
unfolding layout_of entry_of entries
returns-in-43 c = search rules

pub returns-in-26-to-29 : goal.returns-in-26-to-29
unfolding layout_of entry_of entries
returns-in-26-to-29 c = constant single VariableSize layout_of 26 4 refl c.args.code (omega arith) (omega arith) c.in-26-to-29.in_default-own.rest

pub returns-in-31 : goal.returns-in-31
unfolding layout_of entry_of entries
returns-in-31 c = constant single View layout_of 30 3 refl c.args.code (omega arith) (omega arith) c.in-31.in_default-own.rest

pub returns-in-35 : goal.returns-in-35
unfolding layout_of entry_of entries
returns-in-35 c = constant single ListView layout_of 35 2 refl c.args.code (omega arith) (omega arith) c.in-35.in_default-own.rest

pub returns-in_default : goal.returns-in_default
unfolding layout_of entry_of entries
returns-in_default c = constant single Null layout_of 0 1 refl c.args.code (omega arith) (omega arith) c.in_default.in_default-own.rest

pub returns-in_default-2 : goal.returns-in_default-2
unfolding layout_of entry_of entries
returns-in_default-2 c = constant single Null layout_of 37 219 refl c.args.code (omega arith) (omega arith) c.in_default.in_default-own.rest

pub returns-in-33 : goal.returns-in-33
unfolding layout_of entry_of entries
returns-in-33 c = search rules

pub returns-in-33-2 : goal.returns-in-33-2
unfolding layout_of entry_of entries
returns-in-33-2 c = constant single Lists layout_of 33 2 refl c.args.code (omega arith) (omega arith) c.in-33.in_default-own.rest

pub returns-in-2-to-25 : goal.returns-in-2-to-25
unfolding layout_of entry_of entries
returns-in-2-to-25 c = search rules

pub returns-in-2-to-25-2 : goal.returns-in-2-to-25-2
unfolding layout_of entry_of entries
returns-in-2-to-25-2 c = constant single FixedWidth layout_of 1 25 refl c.args.code (omega arith) (omega arith) c.in-2-to-25.in_default-own.rest
