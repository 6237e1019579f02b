-- The rows of two nodes that are alike have one shape.
-- By induction over the depth and by the layouts: a shape is read off codes, parameters, ids and the children's shapes.
use mathlib.Core.Path.{◌≡◌, refl, ap}
use mathlib.Core.Bool.{true}
use mathlib.Core.List.{List}
use Prim.Native.Nat.{ℕ, zero, suc, ◌+◌, ◌<◌}
use native.Mathlib.Nat.{add-zero, suc-add, add-suc}
use native.Mathlib.Omega.{arith}
use Rattle.image.specs.declared.type_code.Layout.{Layout}
use Rattle.image.specs.declared.type_code.Layout.TheVariants.{Null, Boolean, FixedWidth, VariableSize, View, List as Lists, ListView, FixedList, Struct, DenseUnion, SparseUnion, Dictionary, Runs}
use Rattle.image.specs.declared.type_code.Count.TheVariants.{Exactly}
use Rattle.image.specs.Record.{node_count, code_of, id_of, p1_of, first_child, child_count}
use Rattle.image.specs.TypeCode.{layout_of, is_union, child_rule}
use Rattle.image.specs.Element.{child_end}
use Rattle.laws.specs.Accepted.{AcceptedImage}
use Rattle.laws.specs.Alike.{Heads, Alike}
use Rattle.laws.specs.Shape.{Shape, bytes, many, in_turn, one_of, shapes, no_id, only, value_shape, shape_of}
use Rattle.laws.proofs.Codes.{dense_code, sparse_code}
use Rattle.laws.proofs.Alike.{same_width}

-- shapes that agree in turn, with their ids
shapes_same : (i j : ℕ → ℕ) (g h : ℕ → Shape) (c d n : ℕ) → ((m : ℕ) → m < n → i (c + m) ≡ j (d + m)) → ((m : ℕ) → m < n → g (c + m) ≡ h (d + m)) → shapes i g c n ≡ shapes j h d n
unfolding shapes
shapes_same i j g h c d zero ids same = refl
shapes_same i j g h c d (suc n) ids same =
    cc (
      rw (add-zero c, add-zero d) at (ids 0 (omega arith)),
      rw (add-zero c, add-zero d) at (same 0 (omega arith)),
      shapes_same i j g h (suc c) (suc d) n
          (λ m lt. rw (suc-add c m, suc-add d m, ← add-suc c m, ← add-suc d m) (ids (suc m) (omega arith)))
          (λ m lt. rw (suc-add c m, suc-add d m, ← add-suc c m, ← add-suc d m) (same (suc m) (omega arith))),
    )

module _ (a b : List ℕ) (k l : ℕ) (heads : Heads a b k l) (g h : ℕ → Shape) (same : (c : ℕ) → c < child_count a k → g (first_child a k + c) ≡ h (first_child b l + c)) where
  -- the first child's rows
  first_shape : 0 < child_count a k → g (first_child a k) ≡ h (first_child b l)
  first_shape some = rw (add-zero (first_child a k), add-zero (first_child b l)) at (same 0 some)

  -- a union's children
  union_shape : is_union (code_of a k) ≡ true → shapes (id_of a) g (first_child a k) (child_count a k) ≡ shapes (id_of b) h (first_child b l) (child_count b l)
  union_shape union = rw (← heads.count) (shapes_same (id_of a) (id_of b) g h (first_child a k) (first_child b l) (child_count a k) (heads.ids union) same)

  value_shape_lem : (x : Layout) → layout_of (code_of a k) ≡ x → ((n : ℕ) → child_rule x ≡ Exactly n → child_count a k ≡ n) → value_shape x g a k ≡ value_shape x h b l
  value_shape_lem Null is exactly = refl
  value_shape_lem Boolean is exactly = refl
  value_shape_lem FixedWidth is exactly = ap bytes (same_width a b k l heads.code heads.p1)
  value_shape_lem VariableSize is exactly = refl
  value_shape_lem View is exactly = refl
  value_shape_lem Lists is exactly = ap many (first_shape (omega (arith, exactly 1 refl)))
  value_shape_lem ListView is exactly = ap many (first_shape (omega (arith, exactly 1 refl)))
  value_shape_lem FixedList is exactly =
      rw (← heads.p1) (ap in_turn (shapes_same no_id no_id (λ c. g (first_child a k)) (λ c. h (first_child b l)) 0 0 (p1_of a k) (λ m lt. refl) (λ m lt. first_shape (omega (arith, exactly 1 refl)))))
  value_shape_lem Struct is exactly =
      rw (← heads.count) (ap in_turn (shapes_same no_id no_id g h (first_child a k) (first_child b l) (child_count a k) (λ m lt. refl) same))
  value_shape_lem DenseUnion is exactly = ap one_of (union_shape (dense_code _ is))
  value_shape_lem SparseUnion is exactly = ap one_of (union_shape (sparse_code _ is))
  value_shape_lem Dictionary is exactly = ap only (first_shape (omega (arith, exactly 1 refl)))
  value_shape_lem Runs is exactly = ap only (same 1 (omega (arith, exactly 2 refl)))

pub one_shape : (d : ℕ) (a b : List ℕ) (k l : ℕ) → AcceptedImage a → k < node_count a → Alike d a b k l → shape_of d a k ≡ shape_of d b l
unfolding shape_of child_end
one_shape zero a b k l image node alike = refl
one_shape (suc d) a b k l image node alike =
    let tree = (image.node k node).tree in
    let children : (c : ℕ) → c < child_count a k → shape_of d a (first_child a k + c) ≡ shape_of d b (first_child b l + c) =
    λ c lt. one_shape d a b (first_child a k + c) (first_child b l + c) image (omega (arith, tree.ends)) (alike.1 c lt) in
    rw (← alike.0.code) (value_shape_lem a b k l alike.0 (shape_of d a) (shape_of d b) children (layout_of (code_of a k)) refl tree.exactly)
