-- "Reading a written range with an image of its type": the rows of an accepted table are rows that a string can hold, by
-- every image of the table's type, and so the written range is read back.
-- By induction over the depth, as the rows of a table have the shape of its type.
use mathlib.Core.Path.{◌≡◌, refl, sym, ◌∙◌}
use mathlib.Core.Bool.{Bool, true, false, cond, ◌&&◌, ◌||◌, false≢true}
use mathlib.Core.List.{List, [], ◌∷◌, append-nil}
use Prim.Native.Nat.{ℕ, zero, suc, ◌+◌, ◌-◌, ◌≤◌, ◌<◌}
use native.Mathlib.Nat.{add-zero, add-suc, suc-add}
use native.Mathlib.Omega.{arith}
use lib.ListN.{length}
use lib.Dec.{eqb, leb, ltb}
use borrow.Author.Tests.{eq-eqb, lt-ltb}
use Rattle.image.specs.declared.type_code.Layout.{Layout}
use Rattle.image.specs.declared.type_code.Layout.TheVariants.{Null, Boolean, FixedWidth, VariableSize, View, List as Lists, ListView, FixedList, Struct, DenseUnion, SparseUnion, Dictionary, Runs}
use Rattle.image.specs.Bytes.{byte_at, bit_at}
use Rattle.image.specs.Record.{node_count, code_of, length_of, offset_of, first_child, child_count, buffer_count, buffer_place, elements_of}
use Rattle.image.specs.TypeCode.{layout_of, takes_bitmap}
use Rattle.image.specs.Element.{valid, element_at, variable_text, text_at, child_end}
use Rattle.image.specs.Faults.{level_end}
use Rattle.image.specs.Equality.{ranges_equal}
use Rattle.image.specs.Row.{Row, null, fixed, sized, joined, counted, tagged, none, range, boolean_row, fixed_row, variable_row, list_row, struct_row, value_at, masked, row_at, table_rows}
use Rattle.image.specs.RowBytes.{count, rows_bytes, range_bytes}
use Rattle.image.proofs.Bools.{and_true}
use Rattle.laws.specs.Accepted.{AcceptedImage, Texts, Node}
use Rattle.laws.specs.Alike.{Heads, Alike}
use Rattle.laws.proofs.Accepted.{accepted}
use Rattle.laws.proofs.TypeLaws.{types_sym}
use Rattle.laws.proofs.Fuel.{level_below}
use Rattle.laws.proofs.Alike.{types_alike, same_width}
use Rattle.laws.proofs.Lengths.{bytes_length, range_count, table_count}
use Rattle.laws.proofs.Sound.{rows_equal_is}
use Rattle.image.specs.Utf8.{well_formed}
use Rattle.image.specs.Parse.{parsed, readable_code, rows_in}
use Rattle.image.specs.Built.{built_image}
use Rattle.built.specs.Typed.{all_rows, each_row, text_fits, as_fixed, as_sized, as_joined, is_value, is_marked, is_row}
use Rattle.built.specs.Theorems.{ReadRange}
use Rattle.built.proofs.Typed.{rows_read_back}
use Rattle.built.proofs.TypedColumns.{text_code, unreadable, not_view, not_list_view, not_fixed_list, not_dense, not_sparse, not_dictionary, not_runs, coded_at}
use Rattle.built.proofs.Back.{Fitting, table_back}

-- rows of a range that each pass
pub range_passes : (f : Row → Bool) (g : ℕ → Row) (i n : ℕ) → ((m : ℕ) → i ≤ m → m < i + n → f (g m) ≡ true) → all_rows f (range g i n) ≡ true
unfolding range all_rows
range_passes f g i zero each = refl
range_passes f g i (suc n) each = and_true (f (g i)) _ (each i (omega arith) (omega arith)) (range_passes f g (suc i) n (λ m from below. each m (omega arith) (omega arith)))

each_range : (f : ℕ → Row → Bool) (c : ℕ) (g : ℕ → Row) (i n : ℕ) → ((m : ℕ) → m < n → f (c + m) (g (i + m)) ≡ true) → each_row f c (range g i n) ≡ true
unfolding range each_row
each_range f c g i zero each = refl
each_range f c g i (suc n) each =
    and_true (f c (g i)) _ (rw (add-zero c, add-zero i) at (each 0 (omega arith)))
    (each_range f (suc c) g (suc i) n (λ m lt. rw (suc-add c m, suc-add i m, ← add-suc c m, ← add-suc i m) (each (suc m) (omega arith))))

-- the text of a row that is not null is one that the code allows (19)
formed_fits : (t : List ℕ) (k : ℕ) → Texts t k → layout_of (code_of t k) ≡ VariableSize → (i : ℕ) → i < length_of t k → valid t k i ≡ true
    → text_fits (code_of t k) (variable_text t k (offset_of t k + i)) ≡ true
unfolding text_at
formed_fits t k texts is i lt v = cases (eqb (code_of t k) 26 || eqb (code_of t k) 28) refl
  where
    cases : (b : Bool) → eqb (code_of t k) 26 || eqb (code_of t k) 28 ≡ b → cond b (well_formed (variable_text t k (offset_of t k + i))) true ≡ true
    cases true e = rw (text_code (code_of t k) is) at (texts.formed (rw e) i lt v)
    cases false e = refl

-- The value at row i of node k of a table t, as a row of node l of an image s that has its type.
module _ (s t : List ℕ) (image : AcceptedImage t) (k l : ℕ) (node : k < node_count t) (heads : Heads t s k l) (test : ℕ → Row → Bool) (sub : ℕ → ℕ → Row)
    (below : (c m : ℕ) → c < child_count t k → m < length_of t (first_child t k + c) → test (first_child s l + c) (sub (first_child t k + c) m) ≡ true) where
  here : Node t k
  here = image.node k node

  byte_fits : (b : Bool) → as_fixed (λ b. eqb (length b) 1 && leb (byte_at b 0) 1) (fixed (cond b 1 0 ∷ [])) ≡ true
  byte_fits true = refl
  byte_fits false = refl

  list_fits : layout_of (code_of t k) ≡ Lists → (j : ℕ) → j < elements_of t k → ltb (count (range (sub (first_child t k)) (element_at t k j) (element_at t k (suc j) - element_at t k j))) 4294967296
      && all_rows (test (first_child s l)) (range (sub (first_child t k)) (element_at t k j) (element_at t k (suc j) - element_at t k j)) ≡ true
  unfolding child_end elements_of
  list_fits is j lt =
      let one : child_count t k ≡ 1 = here.tree.exactly 1 (rw is) in
      let rise = (here.places.lists is).rise j lt in
      let within = (here.places.lists is).within (suc j) lt in
      let small = (image.node (first_child t k) (omega (arith, here.tree.ends))).buffers.small in
      let few : element_at t k (suc j) - element_at t k j < 4294967296 = omega arith in
      let short : ltb (count (range (sub (first_child t k)) (element_at t k j) (element_at t k (suc j) - element_at t k j))) 4294967296 ≡ true =
      rw (range_count (sub (first_child t k)) (element_at t k j) (element_at t k (suc j) - element_at t k j)) (lt-ltb (element_at t k (suc j) - element_at t k j) 4294967296 few) in
      and_true _ _ short
      (range_passes (test (first_child s l)) (sub (first_child t k)) (element_at t k j) (element_at t k (suc j) - element_at t k j)
      (λ m from end. rw (add-zero (first_child s l), add-zero (first_child t k)) at (below 0 m (omega arith) (rw (add-zero (first_child t k)) (omega arith)))))

  text_fits_lem : layout_of (code_of t k) ≡ VariableSize → (i : ℕ) → i < length_of t k → valid t k i ≡ true
      → as_sized (λ b. ltb (length b) 4294967296 && text_fits (code_of s l) b) (variable_row t k (offset_of t k + i)) ≡ true
  unfolding variable_row elements_of
  text_fits_lem is i lt v =
      let j = offset_of t k + i in
      let two : buffer_count t k ≡ 2 = here.buffers.exactly 2 (rw is) in
      let n = element_at t k (suc (offset_of t k + i)) - element_at t k (offset_of t k + i) in
      let few : element_at t k (suc (offset_of t k + i)) - element_at t k (offset_of t k + i) < 4294967296 =
      omega (arith, (here.places.variable_size is).within (suc (offset_of t k + i)) (omega arith), here.buffers.inside 1 (omega arith), image.tables.size) in
      let short : ltb (length (variable_text t k (offset_of t k + i))) 4294967296 ≡ true =
      rw (bytes_length t (buffer_place t k 1 + element_at t k (offset_of t k + i)) (element_at t k (suc (offset_of t k + i)) - element_at t k (offset_of t k + i)))
      (lt-ltb (element_at t k (suc (offset_of t k + i)) - element_at t k (offset_of t k + i)) 4294967296 few) in
      and_true _ _ short (rw (← heads.code) (formed_fits t k here.texts is i lt v))

  struct_fits : layout_of (code_of t k) ≡ Struct → (i : ℕ) → i < length_of t k
      → as_joined (λ rs. eqb (count rs) (child_count s l) && each_row test (first_child s l) rs) (struct_row sub t k (offset_of t k + i)) ≡ true
  unfolding struct_row elements_of child_end
  struct_fits is i lt =
      and_true _ _ (eq-eqb _ _ (range_count (λ c. sub c (offset_of t k + i)) (first_child t k) (child_count t k) ∙ heads.count))
      (each_range test (first_child s l) (λ c. sub c (offset_of t k + i)) (first_child t k) (child_count t k)
      (λ m few. below m (offset_of t k + i) few (omega (arith, here.children.struct is (first_child t k + m) (omega arith) (omega arith)))))

  -- a layout that no readable code has
  other : (y : Layout) → unreadable y → layout_of (code_of t k) ≡ y → readable_code t k ≡ true → (P : Type 0) → P
  unfolding readable_code
  other y never is r P = absurd (false≢true (sym (never (code_of t k) is) ∙ r))

  value_fits : (y : Layout) → layout_of (code_of t k) ≡ y → (i : ℕ) → i < length_of t k → valid t k i ≡ true → readable_code t k ≡ true
      → is_value y test s l (value_at y sub t k (offset_of t k + i)) ≡ true
  unfolding boolean_row fixed_row list_row elements_of
  value_fits Null is i lt v r = refl
  value_fits Boolean is i lt v r = byte_fits (bit_at t (buffer_place t k 0) (offset_of t k + i))
  value_fits FixedWidth is i lt v r = eq-eqb _ _ (bytes_length t _ _ ∙ same_width t s k l heads.code heads.p1)
  value_fits VariableSize is i lt v r = text_fits_lem is i lt v
  value_fits Lists is i lt v r = list_fits is (offset_of t k + i) (omega arith)
  value_fits Struct is i lt v r = struct_fits is i lt
  value_fits View is i lt v r = other View not_view is r _
  value_fits ListView is i lt v r = other ListView not_list_view is r _
  value_fits FixedList is i lt v r = other FixedList not_fixed_list is r _
  value_fits DenseUnion is i lt v r = other DenseUnion not_dense is r _
  value_fits SparseUnion is i lt v r = other SparseUnion not_sparse is r _
  value_fits Dictionary is i lt v r = other Dictionary not_dictionary is r _
  value_fits Runs is i lt v r = other Runs not_runs is r _

-- a value is not null
value_marked : (takes : Bool) (y : Layout) (test : ℕ → Row → Bool) (s : List ℕ) (l : ℕ) (r : Row) → is_value y test s l r ≡ true → is_marked takes (is_value y test s l) r ≡ true
value_marked takes y test s l null e = absurd (null_not y e)
  where
    null_not : (y : Layout) → is_value y test s l null ≡ true → ⊥
    null_not Null e = false≢true e
    null_not Boolean e = false≢true e
    null_not FixedWidth e = false≢true e
    null_not VariableSize e = false≢true e
    null_not Lists e = false≢true e
    null_not Struct e = false≢true e
    null_not View e = false≢true e
    null_not ListView e = false≢true e
    null_not FixedList e = false≢true e
    null_not DenseUnion e = false≢true e
    null_not SparseUnion e = false≢true e
    null_not Dictionary e = false≢true e
    null_not Runs e = false≢true e
value_marked takes y test s l (fixed b) e = e
value_marked takes y test s l (sized b) e = e
value_marked takes y test s l (joined rs) e = e
value_marked takes y test s l (counted rs) e = e
value_marked takes y test s l (tagged id r) e = e

same_readable : (s t : List ℕ) (k l : ℕ) → code_of t k ≡ code_of s l → readable_code s l ≡ true → readable_code t k ≡ true
unfolding readable_code
same_readable s t k l e r = rw e r

-- The rows of a range, and the image that they are read by when they are written.
module _ (s t : List ℕ) (i n : ℕ) (w : ReadRange s t i n) where
  given : AcceptedImage s
  given = accepted s w.given

  table : AcceptedImage t
  table = accepted t w.table

  row_passes : (d e : ℕ) → d + e ≡ 16 → (k l : ℕ) → level_end t e ≤ k → k < node_count t → l < node_count s → Alike d t s k l → (r : ℕ) → r < length_of t k → is_row d s l (row_at d t k r) ≡ true
  unfolding row_at is_row child_end
  row_passes zero e sum k l past node there alike r lt =
      let last : e ≡ 16 = omega arith in
      let low : level_end t 16 ≤ k = rw last at past in
      absurd (omega (arith, (table.node k node).tree.shallow))
  row_passes (suc d) e sum k l past node there alike r lt =
      let tree = (table.node k node).tree in
      let below : (c m : ℕ) → c < child_count t k → m < length_of t (first_child t k + c) → is_row d s (first_child s l + c) (row_at d t (first_child t k + c) m) ≡ true =
      λ c m few within.
      row_passes d (suc e) (omega arith) (first_child t k + c) (first_child s l + c) (omega (arith, level_below t e k past, tree.numbered)) (omega (arith, tree.ends))
      (omega (arith, (given.node l there).tree.ends, alike.0.count)) (alike.1 c few) m within in
      let readable-here : readable_code t k ≡ true = same_readable s t k l alike.0.code (coded_at s (given) w.coded none l there) in
      rw (← alike.0.code)
      (cases (valid t k r) refl (takes_bitmap (layout_of (code_of t k))) refl
      (λ v. value_fits s t (table) k l node alike.0 (is_row d s) (row_at d t) below (layout_of (code_of t k)) refl r lt v readable-here))
    where
      cases : (v : Bool) → valid t k r ≡ v → (takes : Bool) → takes_bitmap (layout_of (code_of t k)) ≡ takes
          → (v ≡ true → is_value (layout_of (code_of t k)) (is_row d s) s l (value_at (layout_of (code_of t k)) (row_at d t) t k (offset_of t k + r)) ≡ true)
          → is_marked takes (is_value (layout_of (code_of t k)) (is_row d s) s l) (masked v (value_at (layout_of (code_of t k)) (row_at d t) t k (offset_of t k + r))) ≡ true
      cases true is takes bitmap h = value_marked takes (layout_of (code_of t k)) (is_row d s) s l _ (h refl)
      cases false is true bitmap h = refl
      cases false is false bitmap h =
          let valid-here : valid t k r ≡ true = (table.node k node).known.all_valid bitmap r in
          cc

  -- the rows of the range are rows of the type
  pub range_typed : all_rows (is_row 16 s 0) (table_rows t i n) ≡ true
  unfolding table_rows level_end
  range_typed =
      let some : 0 < node_count t = omega (arith, table.tables.some_nodes) in
      let there : 0 < node_count s = omega (arith, given.tables.some_nodes) in
      range_passes (is_row 16 s 0) (row_at 16 t 0) i n (λ m from end.
      row_passes 16 0 (omega arith) 0 0 (omega arith) some there (types_alike t s (types_sym s t w.types)) m (omega (arith, w.within)))

  -- the written range is that many rows
  pub range_read : rows_in s n (range_bytes t i n) ≡ parsed (table_rows t i n) []
  unfolding range_bytes
  range_read = rw (table_count t i n, append-nil (rows_bytes (table_rows t i n))) at (rows_read_back s (table_rows t i n) [] range_typed)

  -- "builds a table equal to that range"
  pub range_again : Fitting s (table_rows t i n) → ranges_equal (built_image s (table_rows t i n)) t 0 i n ≡ true
  unfolding ranges_equal
  range_again fit =
      (rows_equal_is (table_rows (built_image s (table_rows t i n)) 0 n) (table_rows t i n)).1
      (rw (table_count t i n) at (table_back s (table_rows t i n) fit range_typed))
