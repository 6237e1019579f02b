-- The rule of a layout compares the values of nodes of that layout.
-- The layout is read from the code; both nodes have the same code.
use mathlib.Core.Path.{◌≡◌, refl, sym, ap₂, ◌∙◌}
use mathlib.Core.Bool.{true}
use mathlib.Core.List.{List}
use Prim.Native.Nat.{ℕ, zero, suc}
use Rattle.image.specs.declared.type_code.Layout.{Layout}
use Rattle.image.specs.declared.type_code.Layout.TheVariants.{Null}
use Rattle.image.specs.Record.{code_of}
use Rattle.image.specs.TypeCode.{layout_of}
use Rattle.image.specs.Row.{Row, range, value_at, row_at}
use Rattle.image.specs.Types.{same_bytes}
use Rattle.image.specs.Equality.{row_equal}
use Rattle.values.specs.Pairs.{range_equal}
use Rattle.values.specs.Parts.{Parts}
use Rattle.equal.proofs.Child.{layout_right}

-- values of Null nodes are all equal
nothing : (a b : List ℕ) (k l i j n : ℕ) (A B : ℕ → ℕ → Row) → true ≡ range_equal (value_at Null A a k) (value_at Null B b l) i j n
unfolding range row_equal same_bytes
nothing a b k l i j zero A B = refl
nothing a b k l i j (suc n) A B = nothing a b k l (suc i) (suc j) n A B

module _ {a b : List ℕ} {k l i j n d : ℕ} (r : Parts a b k l i j n d) where
  -- a rule for nodes without children looks at no deeper level
  pub parts_shallow : Parts a b k l i j n 0
  parts_shallow = record { left = r.left; right = r.right; alike = (r.alike.0, λ c lt. tt) }

  -- the values of a layout
  pub by_layout : (x : Layout) → layout_of (code_of a k) ≡ x
      → range_equal (value_at x (row_at d a) a k) (value_at x (row_at d b) b l) i j n ≡ range_equal (value_at (layout_of (code_of a k)) (row_at d a) a k) (value_at (layout_of (code_of b l)) (row_at d b) b l) i j n
  by_layout x e = ap₂ (λ (u v : Layout). range_equal (value_at u (row_at d a) a k) (value_at v (row_at d b) b l) i j n) (sym e) (sym (layout_right r e))

  pub null_values : layout_of (code_of a k) ≡ Null → true ≡ range_equal (value_at (layout_of (code_of a k)) (row_at d a) a k) (value_at (layout_of (code_of b l)) (row_at d b) b l) i j n
  null_values e = nothing a b k l i j n (row_at d a) (row_at d b) ∙ by_layout Null e
