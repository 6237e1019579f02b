-- What the arm of a `match` says of the layout of the code that was read.
-- The layout is that of the code's reading, so a law of layouts speaks of the code itself.
use mathlib.Core.Path.{◌≡◌, ap, ◌∙◌}
use mathlib.Core.List.{List, [], ◌∷◌, map}
use Prim.Native.Nat.{ℕ}
use types.Run.{OneOf}
use denote.Enum.Declared.{tag_of}
use Rattle.image.specs.declared.type_code.Layout.{Layout}
use Rattle.image.specs.TypeCode.{layout_of}
use Rattle.image.specs.contracts.type_code.Layout.{the_type}
use Rattle.image.proofs.CodeTable.{layout_at, at_layouts}

-- where the arm of the layouts at the places ks is taken: x is the value of f at the code's layout
pub at_code : {A : Type 0} (ks : List ℕ) (x : A) (f : Layout → A) → map (λ (k : ℕ). x) ks ≡ map (λ (k : ℕ). f (layout_at k)) ks
    → (l : Layout) → OneOf ks (tag_of the_type l) → (r code : ℕ) → l ≡ layout_of r → r ≡ code → x ≡ f (layout_of code)
at_code ks x f e l one r code p q = at_layouts ks x f e l one ∙ ap f (p ∙ ap layout_of q)

-- the arm of one layout
pub at_place : {A : Type 0} (j : ℕ) (x : A) (f : Layout → A) → x ≡ f (layout_at j)
    → (l : Layout) → OneOf (j ∷ []) (tag_of the_type l) → (r code : ℕ) → l ≡ layout_of r → r ≡ code → x ≡ f (layout_of code)
at_place {A} j x f e = at_code (j ∷ []) x f (ap (λ (y : A). y ∷ []) e)
