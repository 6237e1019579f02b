-- Two functions of a number agree at each number of a range if the tables of their values over it are the same.
-- The tables are lists that antt computes, so `refl` is the test of a whole table; the law reads one entry off it.
use mathlib.Core.Path.{◌≡◌, refl, ap, sym, ◌∙◌}
use mathlib.Core.Logic.{⊎_elim}
use mathlib.Core.Bool.{cond}
use mathlib.Core.List.{List, [], ◌∷◌, map}
use Prim.Native.Nat.{ℕ, zero, suc, ◌+◌, ◌≤◌, ◌<◌}
use native.Mathlib.Nat.{eq-or-lt_of_le}
use native.Mathlib.Omega.{arith}
use lib.Dec.{eqb}
use lib.ListN.{get_or}
use borrow.Author.Tests.{ne_eqb}
use types.Run.{OneOf}
use denote.Enum.Declared.{tag_of}
use Rattle.image.specs.declared.type_code.Layout.{Layout}
use Rattle.image.specs.declared.type_code.Layout.TheVariants.{Null, Boolean, FixedWidth, VariableSize, View, List as Lists, ListView, FixedList, Struct, DenseUnion, SparseUnion, Dictionary, Runs}
use Rattle.image.specs.contracts.type_code.Layout.{the_type}

-- k is none of the numbers js: what a `match` says of k past its arms js, the last arm first
abbrev pub NoneOf : List ℕ → ℕ → Type 0
NoneOf [] k = Unit {0}
NoneOf (j ∷ js) k = NoneOf js k × (k ≡ j → ⊥)

module _ {A : Type 0} where
  -- the values of f at the n numbers from i on
  abbrev pub table : (ℕ → A) → ℕ → ℕ → List A
  table f i zero = []
  table f i (suc n) = f i ∷ table f (suc i) n

  pub agree : (f g : ℕ → A) (i n : ℕ) → table f i n ≡ table g i n → (k : ℕ) → i ≤ k → k < i + n → f k ≡ g k
  agree f g i zero e k low high = absurd (omega arith)
  agree f g i (suc n) e k low high =
      ⊎_elim (λ (h : i ≡ k). rw (← h) (cc)) (λ (h : i < k). agree f g (suc i) n (cc) k h (omega arith)) (eq-or-lt_of_le low)

  -- x at the numbers js, and f at the others
  abbrev pub but : List ℕ → A → (ℕ → A) → ℕ → A
  but [] x f k = f k
  but (j ∷ js) x f k = cond (eqb k j) x (but js x f k)

  but_none : (js : List ℕ) (x : A) (f : ℕ → A) (k : ℕ) → NoneOf js k → but js x f k ≡ f k
  but_none [] x f k none = refl
  but_none (j ∷ js) x f k none = rw (ne_eqb k j none.1) (but_none js x f k none.0)

  -- f is x at each number of a range, those of js left out
  pub constant : (js : List ℕ) (x : A) (f : ℕ → A) (i n : ℕ) → table (but js x f) i n ≡ table (λ (k : ℕ). x) i n →
      (k : ℕ) → i ≤ k → k < i + n → NoneOf js k → x ≡ f k
  constant js x f i n e k low high none =
      sym (agree (but js x f) (λ (k : ℕ). x) i n e k low high) ∙ but_none js x f k none

  -- where the arm of the keys ks is taken: x is the value of f at each of them
  pub at_keys : (ks : List ℕ) (x : A) (f : ℕ → A) → map (λ (k : ℕ). x) ks ≡ map f ks → (k : ℕ) → OneOf ks k → x ≡ f k
  at_keys [] x f e k one = absurd one
  at_keys (j ∷ []) x f e k one = rw one (cc)
  at_keys (j ∷ j' ∷ js) x f e k one =
      ⊎_elim (λ (h : k ≡ j). rw h (cc)) (λ (h : OneOf (j' ∷ js) k). at_keys (j' ∷ js) x f (cc) k h) one

-- the layout at a place of their declaration
abbrev pub layout_at : ℕ → Layout
layout_at k =
    get_or (Null ∷ Boolean ∷ FixedWidth ∷ VariableSize ∷ View ∷ Lists ∷ ListView ∷ FixedList ∷ Struct ∷ DenseUnion ∷ SparseUnion ∷ Dictionary ∷ Runs ∷ []) k Null

place : (l : Layout) → layout_at (tag_of the_type l) ≡ l
place Null = refl
place Boolean = refl
place FixedWidth = refl
place VariableSize = refl
place View = refl
place Lists = refl
place ListView = refl
place FixedList = refl
place Struct = refl
place DenseUnion = refl
place SparseUnion = refl
place Dictionary = refl
place Runs = refl

-- where the arm of the layouts at the places ks is taken: x is the value of f at each of them
pub at_layouts : {A : Type 0} (ks : List ℕ) (x : A) (f : Layout → A) → map (λ (k : ℕ). x) ks ≡ map (λ (k : ℕ). f (layout_at k)) ks → (l : Layout) → OneOf ks (tag_of the_type l) → x ≡ f l
at_layouts ks x f e l one = at_keys ks x (λ (k : ℕ). f (layout_at k)) e (tag_of the_type l) one ∙ ap f (place l)
