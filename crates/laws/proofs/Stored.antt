-- Every row of an accepted image has the shape of its node.
-- By induction over the depth and by the layouts: the child rows that a row names lie within the children, and acceptance
-- bounds texts and lists far below 2 ^ 32.
use mathlib.Core.Path.{◌≡◌, refl, sym, subst}
use mathlib.Core.Bool.{Bool, true, false, cond}
use mathlib.Core.List.{List}
use Prim.Native.Nat.{ℕ, zero, suc, ◌+◌, ◌*◌, ◌-◌, ◌≤◌, ◌<◌}
use native.Mathlib.Nat.{add-zero, add-suc, suc-add, mul-le-mul_right, suc-mul}
use native.Mathlib.Omega.{arith}
use lib.Dec.{eqb, ltb}
use borrow.Author.Tests.{eq-eqb, lt-ltb, ltb-true, ltb-false}
use Rattle.image.specs.declared.type_code.Layout.{Layout}
use Rattle.image.specs.declared.type_code.Layout.TheVariants.{Null, Boolean, FixedWidth, VariableSize, View, List as Lists, ListView, FixedList, Struct, DenseUnion, SparseUnion, Dictionary, Runs}
use Rattle.image.specs.Ranges.{first}
use Rattle.image.specs.Bytes.{bytes_at}
use Rattle.image.specs.Record.{node_count, code_of, id_of, p1_of, length_of, offset_of, first_child, child_count, buffer_count, elements_of}
use Rattle.image.specs.TypeCode.{layout_of}
use Rattle.image.specs.Element.{valid, element_width, element_place, element_at, type_id_at, dense_offset_at, child_end, child_with_id, has_id, inline_length, view_length, view_buffer, run_at}
use Rattle.image.specs.Row.{Row, range, boolean_row, fixed_row, variable_row, view_row, list_row, list_view_row, fixed_list_row, struct_row, union_row, dense_row, sparse_row, dictionary_row, run_row, value_at, masked, row_at, null, sized, counted, tagged}
use Rattle.image.specs.RowBytes.{count}
use Rattle.image.proofs.Bools.{and_true}
use Rattle.image.proofs.Ranges.{first_from}
use Rattle.laws.specs.Accepted.{AcceptedImage, Node, ViewInside}
use Rattle.laws.specs.Shape.{Shape, Shapes, text, many, one_of, shape_with, fits, fit_each, fit_all, shapes, no_id, value_shape, shape_of}
use Rattle.laws.proofs.Lengths.{bytes_length, range_count}

-- each row of a range has the shape: all have
pub range_fits : (g : ℕ → Row) (h : Shape) (i n : ℕ) → ((c : ℕ) → i ≤ c → c < i + n → fits (g c) h ≡ true) → fit_all (range g i n) h ≡ true
unfolding range fits
range_fits g h i zero each = refl
range_fits g h i (suc n) each = and_true _ _ (each i (omega arith) (omega arith)) (range_fits g h (suc i) n (λ c from below. each c (omega arith) (omega arith)))

-- rows and shapes in turn
in_turn_lem : (g : ℕ → Row) (id : ℕ → ℕ) (h : ℕ → Shape) (i c n : ℕ) → ((m : ℕ) → m < n → fits (g (i + m)) (h (c + m)) ≡ true) → fit_each (range g i n) (shapes id h c n) ≡ true
unfolding range fits shapes
in_turn_lem g id h i c zero each = refl
in_turn_lem g id h i c (suc n) each =
    and_true _ _ (rw (add-zero i, add-zero c) at (each 0 (omega arith)))
    (in_turn_lem g id h (suc i) (suc c) n (λ m lt. rw (suc-add i m, suc-add c m, ← add-suc i m, ← add-suc c m) (each (suc m) (omega arith))))

-- among the shapes of nodes, the first with an id is that of the first node with it
first_with : (s : List ℕ) (h : ℕ → Shape) (id c n : ℕ) → first (has_id s id) c n < c + n → shape_with (shapes (id_of s) h c n) id ≡ h (first (has_id s id) c n)
unfolding first has_id shapes shape_with
first_with s h id c zero lt = absurd (omega arith)
first_with s h id c (suc n) lt = cases (eqb (id_of s c) id) lt (λ below. first_with s h id (suc c) n (omega arith))
  where
    cases : (b : Bool) → cond b c (first (has_id s id) (suc c) n) < c + suc n
        → (first (has_id s id) (suc c) n < c + suc n → shape_with (shapes (id_of s) h (suc c) n) id ≡ h (first (has_id s id) (suc c) n))
        → cond b (h c) (shape_with (shapes (id_of s) h (suc c) n) id) ≡ h (cond b c (first (has_id s id) (suc c) n))
    cases true below rest = refl
    cases false below rest = rest below

tagged_fits : (id : ℕ) (r : Row) (hs : Shapes) (h : Shape) → shape_with hs id ≡ h → fits r h ≡ true → fits (tagged id r) (one_of hs) ≡ true
unfolding fits
tagged_fits id r hs h e f = subst (λ (x : Shape). fits r x ≡ true) (sym e) f

-- The value of a row that is not null, where the rows of the children have their shapes.
module _ (s : List ℕ) (image : AcceptedImage s) (k : ℕ) (node : k < node_count s) (sub : ℕ → ℕ → Row) (at : ℕ → Shape)
    (below : (c i : ℕ) → first_child s k ≤ c → c < child_end s k → i < length_of s c → fits (sub c i) (at c) ≡ true) where
  here : Node s k
  here = image.node k node

  -- the only child, or the first of two
  first_node : 0 < child_count s k → first_child s k < node_count s
  unfolding child_end
  first_node some = omega (arith, here.tree.ends)

  -- its rows
  first_fits : 0 < child_count s k → (i : ℕ) → i < length_of s (first_child s k) → fits (sub (first_child s k) i) (at (first_child s k)) ≡ true
  unfolding child_end
  first_fits some i within = below (first_child s k) i (omega arith) (omega arith) within

  -- a list of its rows; it has few
  list_fits : child_count s k ≡ 1 → (i n : ℕ) → i + n ≤ length_of s (first_child s k) → fits (counted (range (sub (first_child s k)) i n)) (many (at (first_child s k))) ≡ true
  unfolding fits elements_of
  list_fits one i n within =
      let some : 0 < child_count s k = omega arith in
      let few : n < 4294967296 = omega (arith, (image.node (first_child s k) (first_node some)).buffers.small) in
      let short : ltb (count (range (sub (first_child s k)) i n)) 4294967296 ≡ true = rw (range_count (sub (first_child s k)) i n) (lt-ltb n 4294967296 few) in
      and_true _ _ short (range_fits (sub (first_child s k)) (at (first_child s k)) i n (λ c from end. first_fits some c (omega arith)))

  -- a short text
  text_fits_lem : (place n : ℕ) → n < 4294967296 → fits (sized (bytes_at s place n)) text ≡ true
  unfolding fits
  text_fits_lem place n short = rw (bytes_length s place n) (lt-ltb n 4294967296 short)

  -- a union's row, of the child that its id names
  union_fits : (id i : ℕ) → (child_with_id s k id < child_end s k → i < length_of s (child_with_id s k id)) → fits (union_row sub s k id i) (one_of (shapes (id_of s) at (first_child s k) (child_count s k))) ≡ true
  unfolding fits child_with_id child_end
  union_fits id i within = cases (ltb (child_with_id s k id) (child_end s k)) refl
    where
      cases : (b : Bool) → ltb (child_with_id s k id) (child_end s k) ≡ b → fits (cond b (tagged id (sub (child_with_id s k id) i)) null) (one_of (shapes (id_of s) at (first_child s k) (child_count s k))) ≡ true
      cases false e = refl
      cases true e =
          let lt : child_with_id s k id < child_end s k = ltb-true _ _ e in
          tagged_fits id (sub (child_with_id s k id) i) (shapes (id_of s) at (first_child s k) (child_count s k)) (at (child_with_id s k id)) (first_with s at id (first_child s k) (child_count s k) lt) (below (child_with_id s k id) i (first_from (has_id s id) (first_child s k) (child_count s k)) lt (within lt))

  -- a view inside its buffer is short
  view_short : (v : ℕ) → ViewInside s k v → view_length s v < 4294967296
  view_short v view = cases (ltb inline_length (view_length s v)) refl
    where
      cases : (b : Bool) → ltb inline_length (view_length s v) ≡ b → view_length s v < 4294967296
      cases true e =
          let long : inline_length < view_length s v = ltb-true _ _ e in
          omega (arith, here.buffers.inside (1 + view_buffer s v) (view.buffer long), view.inside long, image.tables.size)
      cases false e =
          let short : view_length s v ≤ inline_length = ltb-false _ _ e in
          omega arith

  -- the text from an offset to the next, and the list
  span_short : layout_of (code_of s k) ≡ VariableSize → (j : ℕ) → j < elements_of s k → element_at s k (suc j) - element_at s k j < 4294967296
  span_short l j lt =
      let two : buffer_count s k ≡ 2 = here.buffers.exactly 2 (rw l) in
      omega (arith, (here.places.variable_size l).within (suc j) lt, here.buffers.inside 1 (omega arith), image.tables.size)

  span_within : layout_of (code_of s k) ≡ Lists → (j : ℕ) → j < elements_of s k → element_at s k j + (element_at s k (suc j) - element_at s k j) ≤ length_of s (first_child s k)
  span_within l j lt = omega (arith, (here.places.lists l).within (suc j) lt, (here.places.lists l).rise j lt)

  -- the rows of a fixed list
  fixed_within : layout_of (code_of s k) ≡ FixedList → (j m : ℕ) → j < elements_of s k → m < p1_of s k → j * p1_of s k + m < length_of s (first_child s k)
  fixed_within l j m lt few =
      let all : suc j * p1_of s k ≤ elements_of s k * p1_of s k = mul-le-mul_right (p1_of s k) lt in
      let e : suc j * p1_of s k ≡ j * p1_of s k + p1_of s k = suc-mul j (p1_of s k) in
      omega (arith, here.children.fixed_list l)

  value_fits : (l : Layout) → layout_of (code_of s k) ≡ l → (i : ℕ) → i < length_of s k → valid s k i ≡ true → fits (value_at l sub s k (offset_of s k + i)) (value_shape l at s k) ≡ true
  unfolding fits boolean_row fixed_row variable_row view_row list_row list_view_row fixed_list_row struct_row dense_row sparse_row dictionary_row run_row elements_of child_end
  value_fits Null l i lt v = refl
  value_fits Boolean l i lt v = refl
  value_fits FixedWidth l i lt v = eq-eqb _ _ (bytes_length s (element_place s k (offset_of s k + i)) (element_width s k))
  value_fits VariableSize l i lt v = text_fits_lem _ _ (span_short l (offset_of s k + i) (omega arith))
  value_fits View l i lt v = text_fits_lem _ _ (view_short _ (here.rows.view l i lt v))
  value_fits Lists l i lt v = list_fits (here.tree.exactly 1 (rw l)) _ _ (span_within l (offset_of s k + i) (omega arith))
  value_fits ListView l i lt v = list_fits (here.tree.exactly 1 (rw l)) _ _ (here.places.list_view l (offset_of s k + i) (omega arith))
  value_fits FixedList l i lt v =
      let one : child_count s k ≡ 1 = here.tree.exactly 1 (rw l) in
      in_turn_lem (sub (first_child s k)) no_id (λ c. at (first_child s k)) ((offset_of s k + i) * p1_of s k) 0 (p1_of s k)
      (λ m few. first_fits (omega arith) ((offset_of s k + i) * p1_of s k + m) (fixed_within l (offset_of s k + i) m (omega arith) few))
  value_fits Struct l i lt v =
      in_turn_lem (λ c. sub c (offset_of s k + i)) no_id at (first_child s k) (first_child s k) (child_count s k)
      (λ m few. below (first_child s k + m) (offset_of s k + i) (omega arith) (omega arith) (omega (arith, here.children.struct l (first_child s k + m) (omega arith) (omega arith))))
  value_fits DenseUnion l i lt v = union_fits (type_id_at s k (offset_of s k + i)) (dense_offset_at s k (offset_of s k + i)) (λ known. here.rows.dense_offset l i lt)
  value_fits SparseUnion l i lt v =
      union_fits (type_id_at s k (offset_of s k + i)) (offset_of s k + i)
      (λ known. omega (arith, here.children.sparse l (child_with_id s k (type_id_at s k (offset_of s k + i))) (here.rows.sparse l i lt).low known))
  value_fits Dictionary l i lt v =
      let one : child_count s k ≡ 1 = here.tree.exactly 1 (rw l) in
      and_true _ _ (first_fits (omega arith) (element_at s k (offset_of s k + i)) (here.rows.key l i lt v)) refl
  value_fits Runs l i lt v =
      let two : child_count s k ≡ 2 = here.tree.exactly 2 (rw l) in
      and_true _ _ (below (first_child s k + 1) (run_at s k (offset_of s k + i)) (omega arith) (omega arith) ((here.rows.runs l).value (offset_of s k + i) (omega arith))) refl

-- a row has the shape of its node
pub stored_fits : (d : ℕ) (s : List ℕ) (k i : ℕ) → AcceptedImage s → k < node_count s → i < length_of s k → fits (row_at d s k i) (shape_of d s k) ≡ true
unfolding row_at shape_of fits
stored_fits zero s k i image node lt = refl
stored_fits (suc d) s k i image node lt =
    let below : (c i : ℕ) → first_child s k ≤ c → c < child_end s k → i < length_of s c → fits (row_at d s c i) (shape_of d s c) ≡ true =
    λ c i from end within. stored_fits d s c i image (omega (arith, (image.node k node).tree.ends)) within in
    cases (valid s k i) (value_fits s image k node (row_at d s) (shape_of d s) below (layout_of (code_of s k)) refl i lt)
  where
    cases : (b : Bool) → (b ≡ true → fits (value_at (layout_of (code_of s k)) (row_at d s) s k (offset_of s k + i)) (shape_of (suc d) s k) ≡ true)
        → fits (masked b (value_at (layout_of (code_of s k)) (row_at d s) s k (offset_of s k + i))) (shape_of (suc d) s k) ≡ true
    cases true value = value refl
    cases false value = refl
