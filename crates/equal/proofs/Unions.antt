-- Unions: elements with unequal type ids differ, and elements with one type id are equal exactly where the rows of the
-- child that it names are; that child has the same number among the children on both sides.
-- The ids of the children are the same in turn, so that the search for an id stops at the same child.
use mathlib.Core.Path.{◌≡◌, sym, ap, ◌∙◌, refl}
use mathlib.Core.Bool.{Bool, true, false, cond}
use mathlib.Core.List.{List}
use Prim.Native.Nat.{ℕ, zero, suc, ◌+◌, ◌-◌, ◌<◌, ◌≤◌}
use native.Mathlib.Omega.{arith}
use lib.Dec.{eqb}
use lib.ListN.{length}
use native.Mathlib.Decide.{ℕ_discrete}
use Rattle.image.specs.Bytes.{byte_at, bytes_at}
use Rattle.image.specs.Reads.{Read}
use Rattle.image.specs.Types.{same_bytes}
use borrow.Author.Tests.{eqb-true, eq-eqb, ne_eqb, lt-ltb}
use Rattle.image.specs.declared.type_code.Layout.TheVariants.{DenseUnion, SparseUnion}
use Rattle.image.specs.Ranges.{first}
use Rattle.image.specs.Record.{code_of, id_of, length_of, elements_of, buffer_place, buffer_length, buffer_count, first_child, child_count}
use Rattle.image.specs.TypeCode.{layout_of, is_union}
use Rattle.image.specs.Element.{type_id_at, dense_offset_at, child_end, has_id, child_with_id}
use Rattle.image.specs.Row.{Row, union_row, dense_row, sparse_row, struct_row, row_at}
use Rattle.image.specs.Equality.{row_equal}
use Rattle.image.proofs.Ranges.{first_from}
use Rattle.laws.specs.Accepted.{IdKnown}
use Rattle.laws.proofs.Codes.{dense_code, sparse_code}
use Rattle.values.specs.Pairs.{same_row, range_equal, same_byte}
use Rattle.values.specs.Parts.{Sides, Parts}
use Rattle.values.specs.declared.pair.Pair.{Pair}
use Rattle.values.specs.Pair.{children}
use Rattle.accepted.specs.Parts.{Part}
use Rattle.values.proofs.Steps.{by_rows, by_bytes, all_by}
use Rattle.values.proofs.Blocks.{all_at}
use Rattle.accepted.proofs.Nodes.{part_at_lem, part_node}
use Rattle.accepted.proofs.ChildRows.{dense_known, dense_within, sparse_known, sparse_within}
use Rattle.equal.proofs.Rows.{one_row}
use Rattle.equal.proofs.Child.{layout_right, child_sides}
use Rattle.equal.proofs.Structs.{same_column, by_columns}

-- searches of tests that agree in turn stop at the same number
pub first_moved : (p q : ℕ → Bool) (i j n : ℕ) → ((h : ℕ) → h < n → p (i + h) ≡ q (j + h)) → first q j n ≡ j + (first p i n - i)
unfolding first
first_moved p q i j zero e = omega arith
first_moved p q i j (suc n) e =
    let zi : i + 0 ≡ i = omega arith in
    let zj : j + 0 ≡ j = omega arith in
    let here : p i ≡ q j = rw (zi, zj) at (e 0 (omega arith)) in
    let later : first q (suc j) n ≡ suc j + (first p (suc i) n - suc i) = first_moved p q (suc i) (suc j) n (λ h lt.
    let ui : suc i + h ≡ i + suc h = omega arith in
    let uj : suc j + h ≡ j + suc h = omega arith in
    rw (ui, uj) (e (suc h) (omega arith))) in
    rw (← here) (cases (p i) later (first_from p (suc i) n))
  where
    cases : (b : Bool) → first q (suc j) n ≡ suc j + (first p (suc i) n - suc i) → suc i ≤ first p (suc i) n → cond b j (first q (suc j) n) ≡ j + (cond b i (first p (suc i) n) - i)
    cases true later from = omega arith
    cases false later from = omega arith

-- the rows of children with the ids x and y
module _ (A B : ℕ → ℕ → Row) (a b : List ℕ) (k l x y u v : ℕ) (left : child_with_id a k x < child_end a k) (right : child_with_id b l y < child_end b l) where
  ids_differ : (x ≡ y → ⊥) → row_equal (union_row A a k x u) (union_row B b l y v) ≡ false
  unfolding row_equal
  ids_differ ne = rw (lt-ltb _ _ left, lt-ltb _ _ right, ne_eqb x y ne)

  ids_same : x ≡ y → row_equal (union_row A a k x u) (union_row B b l y v) ≡ range_equal (A (child_with_id a k x)) (B (child_with_id b l y)) u v 1
  unfolding row_equal same_row
  ids_same e = rw (lt-ltb _ _ left, lt-ltb _ _ right, eq-eqb x y e) (sym (one_row (A (child_with_id a k x)) (B (child_with_id b l y)) u v))

-- the child with an id stands at the same number among the children on both sides
pub same_child : (a b : List ℕ) (k l id : ℕ) → child_count a k ≡ child_count b l → ((c : ℕ) → c < child_count a k → id_of a (first_child a k + c) ≡ id_of b (first_child b l + c))
    → child_with_id b l id ≡ first_child b l + (child_with_id a k id - first_child a k)
unfolding child_with_id has_id
same_child a b k l id count ids =
    rw (← count) (first_moved (has_id a id) (has_id b id) (first_child a k) (first_child b l) (child_count a k) (λ c lt. ap (λ (x : ℕ). eqb x id) (ids c lt)))

pub named_above : (s : List ℕ) (k id : ℕ) → first_child s k ≤ child_with_id s k id
unfolding child_with_id
named_above s k id = first_from (has_id s id) (first_child s k) (child_count s k)

-- two unions whose ids at elements x and y name children
record Named (a b : List ℕ) (k l x y : ℕ) : Type 0 where
  union : is_union (code_of a k) ≡ true
  left : IdKnown a k x
  right : IdKnown b l y

-- elements x and y of two unions, as their ids are read
module _ {a b : List ℕ} {k l i j n d x y : ℕ} (r : Parts a b k l i j n d) (m : Named a b k l x y) {id ie : ℕ} (ei : id ≡ type_id_at a k x) (ee : ie ≡ type_id_at b l y) where
  named_differs : (u v : ℕ) → (id ≡ ie → ⊥) → row_equal (union_row (row_at d a) a k (type_id_at a k x) u) (union_row (row_at d b) b l (type_id_at b l y) v) ≡ false
  named_differs u v ne = ids_differ (row_at d a) (row_at d b) a b k l (type_id_at a k x) (type_id_at b l y) u v m.left.high m.right.high (λ e. ne (ei ∙ e ∙ sym ee))

  -- the children that one id names
  module _ {child ca cb : ℕ} (same : id ≡ ie) (fa : ca ≡ first_child a k) (fb : cb ≡ first_child b l) (fc : child ≡ child_with_id a k id) where
    named_left : child ≡ child_with_id a k (type_id_at a k x)
    named_left = fc ∙ ap (child_with_id a k) ei

    named_right : cb + (child - ca) ≡ child_with_id b l (type_id_at b l y)
    named_right =
        rw (fa, fb, fc)
        (sym (same_child a b k l id r.alike.0.count (r.alike.0.ids m.union)) ∙ ap (child_with_id b l) (same ∙ ee))

    named_low : ca ≤ child
    named_low = rw (fa, named_left) m.left.low

    named_sides : (u v : ℕ) → u < length_of a (child_with_id a k (type_id_at a k x)) → v < length_of b (child_with_id b l (type_id_at b l y)) → Sides a b child (cb + (child - ca)) u v 1 d
    unfolding child_end
    named_sides u v lu lv =
        let low : first_child a k ≤ child_with_id a k (type_id_at a k x) = m.left.low in
        let high : child_with_id a k (type_id_at a k x) < first_child a k + child_count a k = m.left.high in
        let nl : first_child a k + (child - ca) ≡ child_with_id a k (type_id_at a k x) = omega (arith, fa, named_left) in
        let nr : first_child b l + (child - ca) ≡ child_with_id b l (type_id_at b l y) = rw (← fb) named_right in
        let ul : u + 1 ≤ length_of a (first_child a k + (child - ca)) = rw nl (omega arith) in
        let vl : v + 1 ≤ length_of b (first_child b l + (child - ca)) = rw nr (omega arith) in
        let sides : Sides a b (first_child a k + (child - ca)) (first_child b l + (child - ca)) u v 1 d = child_sides r (child - ca) u v 1 (omega (arith, fa, named_left)) ul vl in
        let el : first_child a k + (child - ca) ≡ child = nl ∙ sym named_left in
        rw (el, ← fb) at sides

    named_answer : (u v : ℕ) → range_equal (row_at d a child) (row_at d b (cb + (child - ca))) u v 1 ≡ row_equal (union_row (row_at d a) a k (type_id_at a k x) u) (union_row (row_at d b) b l (type_id_at b l y) v)
    named_answer u v =
        rw (named_right, named_left)
        (sym (ids_same (row_at d a) (row_at d b) a b k l (type_id_at a k x) (type_id_at b l y) u v m.left.high m.right.high (sym ei ∙ same ∙ ee)))

-- numbers that are counted from the first children
pub counted : (p : Pair) (c : ℕ) {first named : Pair} → first ≡ children p 0 → children p c ≡ named → (first.left.number + c ≡ named.left.number) × (first.right.number + c ≡ named.right.number)
counted p c e f = (rw e (omega (arith, ap (λ (x : Pair). x.left.number) f)), rw e (omega (arith, ap (λ (x : Pair). x.right.number) f)))

-- the id of element j, as it is read
pub id_at : (s : List ℕ) (k j : ℕ) {p : ℕ} → Read (buffer_place s k 0) 32 p → byte_at s (p + j) ≡ type_id_at s k j
unfolding type_id_at
id_at s k j ep = rw (← ep.value)

-- element h of a range of dense unions, as its ids and offsets are read
module _ {a b : List ℕ} {k l i j n d : ℕ} (r : Parts a b k l i j n d) (dense : layout_of (code_of a k) ≡ DenseUnion) (h : ℕ) (lt : h < n) where
  dense_named : Named a b k l (i + h) (j + h)
  dense_named = record {
    union = dense_code _ dense;
    left = dense_known (part_at_lem r.left h lt) dense;
    right = dense_known (part_at_lem r.right h lt) (layout_right r dense);
  }

  module _ {id ie : ℕ} (ei : id ≡ type_id_at a k (i + h)) (ee : ie ≡ type_id_at b l (j + h)) where
    dense_differs : (id ≡ ie → ⊥) → same_row (dense_row (row_at d a) a k) (dense_row (row_at d b) b l) (i + h) (j + h) ≡ false
    unfolding same_row dense_row
    dense_differs ne = named_differs r dense_named ei ee _ _ ne

    module _ {child ca cb : ℕ} (same : id ≡ ie) (fa : ca ≡ first_child a k) (fb : cb ≡ first_child b l) (fc : child ≡ child_with_id a k id) where
      pub dense_low : ca ≤ child
      dense_low = named_low r dense_named ei ee same fa fb fc

      pub dense_requires : {u v : ℕ} → u ≡ dense_offset_at a k (i + h) → v ≡ dense_offset_at b l (j + h) → Sides a b child (cb + (child - ca)) u v 1 d
      dense_requires eu ev = rw (eu, ev) (named_sides r dense_named ei ee same fa fb fc _ _ (dense_within (part_at_lem r.left h lt) dense) (dense_within (part_at_lem r.right h lt) (layout_right r dense)))

      pub dense_answer : {u v : ℕ} → u ≡ dense_offset_at a k (i + h) → v ≡ dense_offset_at b l (j + h)
          → range_equal (row_at d a child) (row_at d b (cb + (child - ca))) u v 1 ≡ same_row (dense_row (row_at d a) a k) (dense_row (row_at d b) b l) (i + h) (j + h)
      unfolding same_row dense_row
      dense_answer eu ev = rw (eu, ev) (named_answer r dense_named ei ee same fa fb fc _ _)

-- element h of a range of sparse unions, as its ids are read
module _ {a b : List ℕ} {k l i j n d : ℕ} (r : Parts a b k l i j n d) (sparse : layout_of (code_of a k) ≡ SparseUnion) (h : ℕ) (lt : h < n) where
  sparse_named : Named a b k l (i + h) (j + h)
  sparse_named = record {
    union = sparse_code _ sparse;
    left = sparse_known (part_at_lem r.left h lt) sparse;
    right = sparse_known (part_at_lem r.right h lt) (layout_right r sparse);
  }

  module _ {id ie : ℕ} (ei : id ≡ type_id_at a k (i + h)) (ee : ie ≡ type_id_at b l (j + h)) where
    sparse_differs : (id ≡ ie → ⊥) → same_row (sparse_row (row_at d a) a k) (sparse_row (row_at d b) b l) (i + h) (j + h) ≡ false
    unfolding same_row sparse_row
    sparse_differs ne = named_differs r sparse_named ei ee _ _ ne

    module _ {child ca cb : ℕ} (same : id ≡ ie) (fa : ca ≡ first_child a k) (fb : cb ≡ first_child b l) (fc : child ≡ child_with_id a k id) where
      pub sparse_low : ca ≤ child
      sparse_low = named_low r sparse_named ei ee same fa fb fc

      pub sparse_requires : Sides a b child (cb + (child - ca)) (i + h) (j + h) 1 d
      sparse_requires = named_sides r sparse_named ei ee same fa fb fc _ _ (sparse_within (part_at_lem r.left h lt) sparse) (sparse_within (part_at_lem r.right h lt) (layout_right r sparse))

      pub sparse_answer : range_equal (row_at d a child) (row_at d b (cb + (child - ca))) (i + h) (j + h) 1 ≡ same_row (sparse_row (row_at d a) a k) (sparse_row (row_at d b) b l) (i + h) (j + h)
      unfolding same_row sparse_row
      sparse_answer = named_answer r sparse_named ei ee same fa fb fc _ _

-- the ids of a range of sparse unions lie inside
pub sparse_inside : {s : List ℕ} {k j n p : ℕ} → Part s k j n → layout_of (code_of s k) ≡ SparseUnion → p ≡ buffer_place s k 0 → p + j + n ≤ length s
sparse_inside {s} {k} {j} {n} {p} r sparse e =
    let node = part_node r in
    let one : buffer_count s k ≡ 1 = node.buffers.exactly 1 (rw sparse) in
    let inside : buffer_place s k 0 + buffer_length s k 0 ≤ length s = node.buffers.inside 0 (omega arith) in
    let enough : elements_of s k ≤ buffer_length s k 0 = node.enough.sparse_ids sparse in
    omega (arith, r.high)

-- ids that are the same as one block are the same in turn
ids_at : (a b : List ℕ) (k l i j n : ℕ) {p q : ℕ} → p ≡ buffer_place a k 0 → q ≡ buffer_place b l 0 → same_bytes (bytes_at a (p + i) n) (bytes_at b (q + j) n) ≡ true → (h : ℕ) → h < n → type_id_at a k (i + h) ≡ type_id_at b l (j + h)
unfolding type_id_at same_byte
ids_at a b k l i j n {p} {q} ep eq e h lt =
    let x : buffer_place a k 0 + (i + h) ≡ p + i + h = omega arith in
    let y : buffer_place b l 0 + (j + h) ≡ q + j + h = omega arith in
    rw (x, y) (eqb-true _ _ (all_at (same_byte a b) (p + i) (q + j) n (by_bytes a b (p + i) (q + j) n ∙ e) h lt))

-- where the ids are the same and all rows of all children are equal, the rows are
module _ {a b : List ℕ} {k l i j n d : ℕ} (r : Parts a b k l i j n d) (sparse : layout_of (code_of a k) ≡ SparseUnion) (columns : range_equal (struct_row (row_at d a) a k) (struct_row (row_at d b) b l) i j n ≡ true) where
  column_row : (c h : ℕ) → c < child_count a k → h < n → row_equal (row_at d a (first_child a k + c) (i + h)) (row_at d b (first_child b l + c) (j + h)) ≡ true
  unfolding same_column same_row
  column_row c h lc lt =
      let column : range_equal (row_at d a (first_child a k + c)) (row_at d b (first_child b l + c)) i j n ≡ true =
      all_at (same_column (row_at d a) (row_at d b) i j n) (first_child a k) (first_child b l) (child_count a k)
      (by_columns (row_at d a) (row_at d b) a b k l i j n r.alike.0.count ∙ columns) c lc in
      all_at (same_row (row_at d a (first_child a k + c)) (row_at d b (first_child b l + c))) i j n (by_rows _ _ i j n ∙ column) h lt

  whole_row : (h : ℕ) → h < n → type_id_at a k (i + h) ≡ type_id_at b l (j + h) → same_row (sparse_row (row_at d a) a k) (sparse_row (row_at d b) b l) (i + h) (j + h) ≡ true
  unfolding same_row sparse_row child_end
  whole_row h lt e =
      let m = sparse_named r sparse h lt in
      let low : first_child a k ≤ child_with_id a k (type_id_at a k (i + h)) = m.left.low in
      let high : child_with_id a k (type_id_at a k (i + h)) < first_child a k + child_count a k = m.left.high in
      let c : ℕ = child_with_id a k (type_id_at a k (i + h)) - first_child a k in
      let x : first_child a k + c ≡ child_with_id a k (type_id_at a k (i + h)) = omega arith in
      let y : first_child b l + c ≡ child_with_id b l (type_id_at b l (j + h)) =
      sym (same_child a b k l (type_id_at a k (i + h)) r.alike.0.count (r.alike.0.ids m.union)) ∙ ap (child_with_id b l) e in
      ids_same (row_at d a) (row_at d b) a b k l (type_id_at a k (i + h)) (type_id_at b l (j + h)) (i + h) (j + h) m.left.high m.right.high e
      ∙ one_row _ _ _ _ ∙ rw (x, y) at (column_row c h (omega arith) lt)

  pub whole_children : {p q : ℕ} → p ≡ buffer_place a k 0 → q ≡ buffer_place b l 0 → same_bytes (bytes_at a (p + i) n) (bytes_at b (q + j) n) ≡ true → true ≡ range_equal (sparse_row (row_at d a) a k) (sparse_row (row_at d b) b l) i j n
  whole_children ep eq e = sym (all_by (same_row (sparse_row (row_at d a) a k) (sparse_row (row_at d b) b l)) i j n (λ h lt. whole_row h lt (ids_at a b k l i j n ep eq e h lt))) ∙ by_rows _ _ i j n

-- the same, with the children as they are found
module _ {a b : List ℕ} {k l i j n d : ℕ} (r : Parts a b k l i j n d) (dense : layout_of (code_of a k) ≡ DenseUnion) (h : ℕ) (lt : h < n) {id ie : ℕ} (ei : id ≡ type_id_at a k (i + h)) (ee : ie ≡ type_id_at b l (j + h)) where
  dense_never : child_with_id a k id ≡ child_end a k → ⊥
  dense_never e = omega (arith, e, ap (child_with_id a k) ei, (dense_named r dense h lt).left.high)

  -- where the ids differ, or name no child
  pub dense_fails : (id ≡ ie → child_with_id a k id ≡ child_end a k) → same_row (dense_row (row_at d a) a k) (dense_row (row_at d b) b l) (i + h) (j + h) ≡ false
  dense_fails none = cases (ℕ_discrete id ie)
    where
      cases : Dec (id ≡ ie) → same_row (dense_row (row_at d a) a k) (dense_row (row_at d b) b l) (i + h) (j + h) ≡ false
      cases (yes e) = absurd (dense_never (none e))
      cases (no ne) = dense_differs r dense h lt ei ee ne

  module _ (same : id ≡ ie) where
    dense_place : first_child a k + (child_with_id a k id - first_child a k) ≡ child_with_id a k id
    dense_place = omega (arith, dense_low r dense h lt ei ee same refl refl refl)

    pub dense_child : {u v : ℕ} → u ≡ dense_offset_at a k (i + h) → v ≡ dense_offset_at b l (j + h) → Sides a b (first_child a k + (child_with_id a k id - first_child a k)) (first_child b l + (child_with_id a k id - first_child a k)) u v 1 d
    dense_child eu ev = rw dense_place (dense_requires r dense h lt ei ee same refl refl refl eu ev)

    pub dense_row_lem : {u v : ℕ} → u ≡ dense_offset_at a k (i + h) → v ≡ dense_offset_at b l (j + h) → range_equal (row_at d a (first_child a k + (child_with_id a k id - first_child a k))) (row_at d b (first_child b l + (child_with_id a k id - first_child a k))) u v 1
        ≡ same_row (dense_row (row_at d a) a k) (dense_row (row_at d b) b l) (i + h) (j + h)
    dense_row_lem eu ev = rw dense_place (dense_answer r dense h lt ei ee same refl refl refl eu ev)

-- the same, with the children as they are found
module _ {a b : List ℕ} {k l i j n d : ℕ} (r : Parts a b k l i j n d) (sparse : layout_of (code_of a k) ≡ SparseUnion) (h : ℕ) (lt : h < n) {id ie : ℕ} (ei : id ≡ type_id_at a k (i + h)) (ee : ie ≡ type_id_at b l (j + h)) where
  sparse_never : child_with_id a k id ≡ child_end a k → ⊥
  sparse_never e = omega (arith, e, ap (child_with_id a k) ei, (sparse_named r sparse h lt).left.high)

  -- where the ids differ, or name no child
  pub sparse_fails : (id ≡ ie → child_with_id a k id ≡ child_end a k) → same_row (sparse_row (row_at d a) a k) (sparse_row (row_at d b) b l) (i + h) (j + h) ≡ false
  sparse_fails none = cases (ℕ_discrete id ie)
    where
      cases : Dec (id ≡ ie) → same_row (sparse_row (row_at d a) a k) (sparse_row (row_at d b) b l) (i + h) (j + h) ≡ false
      cases (yes e) = absurd (sparse_never (none e))
      cases (no ne) = sparse_differs r sparse h lt ei ee ne

  module _ (same : id ≡ ie) where
    sparse_place : first_child a k + (child_with_id a k id - first_child a k) ≡ child_with_id a k id
    sparse_place = omega (arith, sparse_low r sparse h lt ei ee same refl refl refl)

    pub sparse_child : Sides a b (first_child a k + (child_with_id a k id - first_child a k)) (first_child b l + (child_with_id a k id - first_child a k)) (i + h) (j + h) 1 d
    sparse_child = rw sparse_place (sparse_requires r sparse h lt ei ee same refl refl refl)

    pub sparse_row_lem : range_equal (row_at d a (first_child a k + (child_with_id a k id - first_child a k))) (row_at d b (first_child b l + (child_with_id a k id - first_child a k))) (i + h) (j + h) 1
        ≡ same_row (sparse_row (row_at d a) a k) (sparse_row (row_at d b) b l) (i + h) (j + h)
    sparse_row_lem = rw sparse_place (sparse_answer r sparse h lt ei ee same refl refl refl)
