-- The children of two nodes that are alike: their layouts and counts, and what a comparison of their rows asks for.
-- A child of an accepted image's node is a node; children in turn are alike one level less deep.
use mathlib.Core.Path.{◌≡◌, sym, ap, ◌∙◌}
use mathlib.Core.List.{List}
use Prim.Native.Nat.{ℕ, ◌+◌, ◌<◌, ◌≤◌}
use native.Mathlib.Omega.{arith}
use Rattle.image.specs.declared.type_code.Layout.{Layout}
use Rattle.image.specs.declared.type_code.Count.TheVariants.{Exactly}
use Rattle.image.specs.Record.{code_of, length_of, first_child, child_count}
use Rattle.image.specs.TypeCode.{layout_of, child_rule}
use Rattle.image.specs.Element.{element_width}
use Rattle.laws.proofs.Alike.{same_width}
use Rattle.values.specs.Parts.{Sides, Parts}
use Rattle.accepted.proofs.Nodes.{child_node, part_node, part_inside}

module _ {a b : List ℕ} {k l i j n d : ℕ} (r : Parts a b k l i j n d) where
  pub layout_right : {x : Layout} → layout_of (code_of a k) ≡ x → layout_of (code_of b l) ≡ x
  layout_right e = sym (ap layout_of r.alike.0.code) ∙ e

  -- m elements of each from element h on
  pub parts_inside : (h m : ℕ) → h + m ≤ n → Parts a b k l (i + h) (j + h) m d
  parts_inside h m le = record { left = part_inside r.left h m le; right = part_inside r.right h m le; alike = r.alike }

  pub widths_same : element_width a k ≡ element_width b l
  widths_same = same_width a b k l r.alike.0.code r.alike.0.p1

  pub count_left : (m : ℕ) → child_rule (layout_of (code_of a k)) ≡ Exactly m → child_count a k ≡ m
  count_left m e = (part_node r.left).tree.exactly m e

  -- rows of two children in turn
  pub child_sides : (c x y m : ℕ) → c < child_count a k → x + m ≤ length_of a (first_child a k + c) → y + m ≤ length_of b (first_child b l + c)
      → Sides a b (first_child a k + c) (first_child b l + c) x y m d
  child_sides c x y m lt left right = record {
    left = record { image = r.left.image; node = child_node a k c r.left.image r.left.node lt; rows = left };
    right = record { image = r.right.image; node = child_node b l c r.right.image r.right.node (omega (arith, r.alike.0.count)); rows = right };
    alike = r.alike.1 c lt;
  }

  -- rows of the first children
  pub first_sides : (x y m : ℕ) → 0 < child_count a k → x + m ≤ length_of a (first_child a k) → y + m ≤ length_of b (first_child b l)
      → Sides a b (first_child a k) (first_child b l) x y m d
  first_sides x y m some left right =
      let u : first_child a k + 0 ≡ first_child a k = omega arith in
      let v : first_child b l + 0 ≡ first_child b l = omega arith in
      rw (u, v) at (child_sides 0 x y m some (rw u left) (rw v right))
