-- List views: views of unequal sizes differ, and views of the same size are equal exactly where their child rows are.
-- Each view names a range of child rows, which an accepted image keeps within the child.
use mathlib.Core.Path.{◌≡◌, sym, ◌∙◌}
use mathlib.Core.Bool.{false}
use mathlib.Core.List.{List}
use Prim.Native.Nat.{ℕ, ◌+◌, ◌<◌, ◌≤◌}
use native.Mathlib.Omega.{arith}
use Rattle.image.specs.declared.type_code.Layout.TheVariants.{ListView}
use Rattle.image.specs.Record.{code_of, length_of, first_child, child_count}
use Rattle.image.specs.TypeCode.{layout_of}
use Rattle.image.specs.Element.{element_width, element_at, size_at}
use Rattle.image.specs.Row.{Row, list_view_row, row_at}
use Rattle.image.specs.Equality.{row_equal}
use Rattle.values.specs.Pairs.{same_row, range_equal}
use Rattle.values.specs.Parts.{Sides, Parts}
use Rattle.accepted.proofs.Nodes.{part_node}
use Rattle.equal.proofs.Rows.{lengths_differ}
use Rattle.equal.proofs.Child.{layout_right, count_left, first_sides}

-- views of unequal sizes
pub sizes_differ : (A B : ℕ → ℕ → Row) (a b : List ℕ) (k l x y : ℕ) → (size_at a k x ≡ size_at b l y → ⊥) → same_row (list_view_row A a k) (list_view_row B b l) x y ≡ false
unfolding same_row list_view_row row_equal
sizes_differ A B a b k l x y ne = lengths_differ (A (first_child a k)) (B (first_child b l)) _ _ _ _ ne

-- views of one size
pub view_row_lem : (A B : ℕ → ℕ → Row) (a b : List ℕ) (k l x y : ℕ) → size_at a k x ≡ size_at b l y
    → range_equal (A (first_child a k)) (B (first_child b l)) (element_at a k x) (element_at b l y) (size_at a k x) ≡ same_row (list_view_row A a k) (list_view_row B b l) x y
unfolding same_row list_view_row row_equal
view_row_lem A B a b k l x y e = rw (← e)

module _ {a b : List ℕ} {k l i j n d : ℕ} (r : Parts a b k l i j n d) (views : layout_of (code_of a k) ≡ ListView) where
  pub view_narrow : element_width a k ≤ 8
  view_narrow = (part_node r.left).widths.list_view views

  -- view h of the range, as it is read
  module _ (h : ℕ) (lt : h < n) where
    view_sides : size_at a k (i + h) ≡ size_at b l (j + h) → Sides a b (first_child a k) (first_child b l) (element_at a k (i + h)) (element_at b l (j + h)) (size_at a k (i + h)) d
    view_sides e =
        let one : child_count a k ≡ 1 = count_left r 1 (rw views) in
        let left : element_at a k (i + h) + size_at a k (i + h) ≤ length_of a (first_child a k) = (part_node r.left).places.list_view views (i + h) (omega (arith, r.left.high)) in
        let right : element_at b l (j + h) + size_at b l (j + h) ≤ length_of b (first_child b l) = (part_node r.right).places.list_view (layout_right r views) (j + h) (omega (arith, r.right.high)) in
        first_sides r _ _ _ (omega arith) left (rw e right)

    pub view_differs : {z u : ℕ} → z ≡ size_at a k (i + h) → u ≡ size_at b l (j + h) → (z ≡ u → ⊥) → same_row (list_view_row (row_at d a) a k) (list_view_row (row_at d b) b l) (i + h) (j + h) ≡ false
    view_differs ez eu ne = sizes_differ (row_at d a) (row_at d b) a b k l (i + h) (j + h) (λ e. ne (ez ∙ e ∙ sym eu))

    module _ {ca cb x y z u : ℕ} (fa : ca ≡ first_child a k) (fb : cb ≡ first_child b l) (ez : z ≡ size_at a k (i + h)) (eu : u ≡ size_at b l (j + h)) (same : z ≡ u) (ex : x ≡ element_at a k (i + h)) (ey : y ≡ element_at b l (j + h)) where
      pub view_requires : Sides a b ca cb x y z d
      view_requires = rw (fa, fb, ex, ey, ez) (view_sides (sym ez ∙ same ∙ eu))

      pub view_answer : range_equal (row_at d a ca) (row_at d b cb) x y z ≡ same_row (list_view_row (row_at d a) a k) (list_view_row (row_at d b) b l) (i + h) (j + h)
      view_answer = rw (fa, fb, ex, ey, ez) (view_row_lem (row_at d a) (row_at d b) a b k l (i + h) (j + h) (sym ez ∙ same ∙ eu))
