-- `TypeCode::p1_range` gives each code the lowest and the highest p1 of its entry.
-- An arm of one code computes; an arm of a range of codes is two tests over the entries of that range.
use borrow.Author.Rules.{rules}
use native.Mathlib.Omega.{arith}
use mathlib.Core.Path.{refl}
use mathlib.Core.List.{List, [], ◌∷◌}
use Prim.Native.Nat.{ℕ}
use Rattle.image.proofs.CodeTable.{constant}
use Rattle.image.specs.TypeCode.{entries, entry_of}
use Rattle.image.proofs.type_code.TypeCode.p1_range.Goals as goal

-- the codes that have an arm of their own, the last arm first
abbrev single : List ℕ
single = 42 ∷ 41 ∷ 37 ∷ 30 ∷ 20 ∷ 19 ∷ 18 ∷ 17 ∷ 16 ∷ 15 ∷ []

pub returns-in-15 : goal.returns-in-15
unfolding entry_of entries
returns-in-15 c = search rules

pub returns-in-16 : goal.returns-in-16
unfolding entry_of entries
returns-in-16 c = search rules

pub returns-in-17 : goal.returns-in-17
unfolding entry_of entries
returns-in-17 c = search rules

pub returns-in-18 : goal.returns-in-18
unfolding entry_of entries
returns-in-18 c = search rules

pub returns-in-19 : goal.returns-in-19
unfolding entry_of entries
returns-in-19 c = search rules

pub returns-in-20 : goal.returns-in-20
unfolding entry_of entries
returns-in-20 c = search rules

pub returns-in-30 : goal.returns-in-30
unfolding entry_of entries
returns-in-30 c = search rules

pub returns-in-37 : goal.returns-in-37
unfolding entry_of entries
returns-in-37 c = search rules

pub returns-in-41 : goal.returns-in-41
unfolding entry_of entries
returns-in-41 c = search rules

pub returns-in-42 : goal.returns-in-42
unfolding entry_of entries
returns-in-42 c = search rules

pub returns-in-21-to-22 : goal.returns-in-21-to-22
unfolding entry_of entries
returns-in-21-to-22 c =
    record {
      low = constant single 0 (λ (k : ℕ). (entry_of k).low) 21 2 refl c.args.code (omega arith) (omega arith) c.in-21-to-22.in_default-own.rest;
      high = constant single 3 (λ (k : ℕ). (entry_of k).high) 21 2 refl c.args.code (omega arith) (omega arith) c.in-21-to-22.in_default-own.rest;
    }

pub returns-in_default : goal.returns-in_default
unfolding entry_of entries
returns-in_default c =
    record {
      low = constant single 0 (λ (k : ℕ). (entry_of k).low) 0 15 refl c.args.code (omega arith) (omega arith) c.in_default.in_default-own.rest;
      high = constant single 0 (λ (k : ℕ). (entry_of k).high) 0 15 refl c.args.code (omega arith) (omega arith) c.in_default.in_default-own.rest;
    }

pub returns-in_default-2 : goal.returns-in_default-2
unfolding entry_of entries
returns-in_default-2 c =
    record {
      low = constant single 0 (λ (k : ℕ). (entry_of k).low) 23 233 refl c.args.code (omega arith) (omega arith) c.in_default.in_default-own.rest;
      high = constant single 0 (λ (k : ℕ). (entry_of k).high) 23 233 refl c.args.code (omega arith) (omega arith) c.in_default.in_default-own.rest;
    }
