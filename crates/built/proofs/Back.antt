-- The rows of a built table are the rows that it was built of.
-- By induction over the depth: row j of a node is read from the parts that stand in the image; the child rows that it names
-- are those that it gave the children.
use mathlib.Core.Path.{◌≡◌, refl, sym, ap, ◌∙◌}
use mathlib.Core.Bool.{Bool, true, false, cond, not, ◌&&◌, ◌||◌, false≢true}
use mathlib.Core.List.{List, [], ◌∷◌}
use Prim.Native.Nat.{ℕ, zero, suc, ◌+◌, ◌*◌, ◌-◌, ◌/◌, ◌≤◌, ◌<◌, ◌^◌}
use native.Mathlib.Nat.{add-zero, zero-add, suc-mul, mul-le-mul_right, pow-le-pow_right}
use native.Mathlib.Omega.{arith}
use lib.ListN.{length, get_or}
use lib.Dec.{eqb, leb, ltb, lit<}
use borrow.Author.Tests.{eqb-true, leb-true}
use Rattle.image.specs.declared.type_code.Layout.{Layout}
use Rattle.image.specs.declared.type_code.Layout.TheVariants.{Null, Boolean, FixedWidth, VariableSize, View, List as Lists, ListView, FixedList, Struct, DenseUnion, SparseUnion, Dictionary, Runs}
use Rattle.image.specs.Bytes.{byte_at, AllBytes, bit_at}
use Rattle.image.specs.Record.{node_count, code_of, p1_of, bitmap_place, first_child, child_count, buffer_count, buffer_place}
use Rattle.image.specs.TypeCode.{layout_of, takes_bitmap}
use Rattle.image.specs.Element.{valid, element_width, element_place, element_at, child_end}
use Rattle.image.specs.Faults.{level_end}
use Rattle.image.specs.Row.{Row, Rows, null, fixed, sized, joined, counted, tagged, none, more, one, range, boolean_row, fixed_row, variable_row, list_row, struct_row, value_at, masked, row_at, table_rows}
use Rattle.image.specs.RowBytes.{count}
use Rattle.image.proofs.Bools.{and_left, and_right}
use Rattle.laws.specs.Accepted.{AcceptedImage}
use Rattle.laws.proofs.Fuel.{level_below}
use Rattle.image.specs.Parse.{readable}
use Rattle.image.specs.Built.{nth, gap_row, rows_to_child, column, each_number, each_bytes, pack_bits, valid_bit, value_bit, value_bytes, text_bytes, span, offsets_from, bitmap_of, buffers_of, part_start, built_image}
use Rattle.built.proofs.Regions.{PartOf, part_number, part_bit, part_whole, part_inside, part_in}
use Rattle.built.proofs.Bits.{pack_length, each_length, row_bit}
use Rattle.built.proofs.Offsets.{sum_over, offsets_length, offset_at, bytes_part, bytes_length}
use Rattle.built.specs.Typed.{all_rows, each_row, text_fits, is_value, is_marked, is_row}
use Rattle.built.proofs.Typed.{from_fixed, from_sized, from_joined, from_counted}
use Rattle.built.proofs.Fields.{part_part, code_kept, p1_kept, offset_zero, first_bit_zero, first_child_kept, child_count_kept, has_bitmap_built, bitmap_place_built, buffer_place_built}
use Rattle.built.proofs.Columns.{column_root, from_nth, sum_same, sum_even, sum_step}
use Rattle.built.proofs.TypedColumns.{all_at, list_wide, text_wide, child_typed, deep}
use Rattle.built.proofs.Lengths.{width_even, text_span, row_typed, single, list_column_lem, list_sum, list_total, struct_column_lem, struct_sum, struct_total, part_bitmap, part_buffer}

-- rows that are the same, row by row
pub range_is : (g : ℕ → Row) (i : ℕ) (qs : Rows) → ((m : ℕ) → m < count qs → g (i + m) ≡ nth qs m) → range g i (count qs) ≡ qs
unfolding range count nth
range_is g i none same = refl
range_is g i (more q qs) same =
    rw (
      ← same 0 (omega arith),
      add-zero i,
      range_is g (suc i) qs (λ m lt.
          let e : suc i + m ≡ i + suc m = omega arith in
          rw e (same (suc m) (omega arith))),
    )

-- a sum over rows grows
pub sum_within : (f : Row → ℕ) (rs : Rows) (j : ℕ) → sum_over f rs j ≤ sum_over f rs (count rs)
unfolding sum_over count
sum_within f none j = omega arith
sum_within f (more r rs) zero = omega arith
sum_within f (more r rs) (suc j) = omega (arith, sum_within f rs j)

-- numbers below 2 ^ 32 fit four bytes and more
fits_wide : (w x : ℕ) → 4 ≤ w → x < 4294967296 → x < 256 ^ w
fits_wide w x wide lt =
    let h : 256 ^ 4 ≤ 256 ^ w = pow-le-pow_right {n = 256} (lit< tt) {i = 4} {j = w} wide in
    omega arith

-- A built image that is not too long, of rows that are not too many.
pub record Fitting (s : List ℕ) (rs : Rows) : Type 0 where
  pub image : AcceptedImage s
  pub bytes : AllBytes s
  pub coded : readable s ≡ true
  pub short : length (built_image s rs) ≤ 16777216
  pub few : (k : ℕ) → k < node_count s → count (column s rs k) ≤ 1073741824

module _ (s : List ℕ) (rs : Rows) (fit : Fitting s rs) (k : ℕ) (node : k < node_count s) where
  pub bitmap_part : takes_bitmap (layout_of (code_of s k)) ≡ true → PartOf (built_image s rs) (part_start s rs (3 * k)) (pack_bits (each_number valid_bit (column s rs k)))
  unfolding bitmap_of
  bitmap_part takes =
      rw (part_bitmap s rs k, takes) at (part_part s rs fit.image (3 * k) (omega arith))

  -- the buffers, where the layout is known
  pub first_part : (l : Layout) → layout_of (code_of s k) ≡ l → PartOf (built_image s rs) (part_start s rs (3 * k + 1 + 0)) (get_or (buffers_of l (element_width s k) (column s rs k)) 0 [])
  first_part l e = rw (part_buffer s rs k 0 (omega arith), e) at (part_part s rs fit.image (3 * k + 1 + 0) (omega arith))

  pub second_part : (l : Layout) → layout_of (code_of s k) ≡ l → PartOf (built_image s rs) (part_start s rs (3 * k + 1 + 1)) (get_or (buffers_of l (element_width s k) (column s rs k)) 1 [])
  second_part l e = rw (part_buffer s rs k 1 (omega arith), e) at (part_part s rs fit.image (3 * k + 1 + 1) (omega arith))

  pub width_kept : element_width (built_image s rs) k ≡ element_width s k
  unfolding element_width
  width_kept = rw (code_kept s rs fit.image fit.bytes fit.short k node, p1_kept s rs fit.image fit.bytes fit.short k node)

  pub first_place : 0 < buffer_count s k → buffer_place (built_image s rs) k 0 ≡ part_start s rs (3 * k + 1 + 0)
  first_place some = buffer_place_built s rs fit.image fit.bytes fit.short k node 0 (omega arith) some

  pub second_place : 1 < buffer_count s k → buffer_place (built_image s rs) k 1 ≡ part_start s rs (3 * k + 1 + 1)
  second_place some = buffer_place_built s rs fit.image fit.bytes fit.short k node 1 (omega arith) some

  element_kept : 0 < buffer_count s k → (j : ℕ) → element_place (built_image s rs) k j ≡ part_start s rs (3 * k + 1 + 0) + j * element_width s k
  unfolding element_place
  element_kept some j = rw (first_place some, width_kept)

  -- whether a row is null
  pub valid_built : (j : ℕ) → j < count (column s rs k) → valid (built_image s rs) k j ≡ cond (takes_bitmap (layout_of (code_of s k))) (eqb (valid_bit (nth (column s rs k) j)) 1) true
  unfolding valid
  valid_built j lt =
      rw (has_bitmap_built s rs fit.image fit.bytes fit.short k node, first_bit_zero s rs fit.image fit.bytes fit.short k node, zero-add j)
      (cases (takes_bitmap (layout_of (code_of s k))) refl)
    where
      bit_small : (r : Row) → valid_bit r ≤ 1
      bit_small null = omega arith
      bit_small (fixed b) = omega arith
      bit_small (sized b) = omega arith
      bit_small (joined qs) = omega arith
      bit_small (counted qs) = omega arith
      bit_small (tagged id r) = omega arith

      cases : (b : Bool) → takes_bitmap (layout_of (code_of s k)) ≡ b → not b || bit_at (built_image s rs) (bitmap_place (built_image s rs) k) j ≡ cond b (eqb (valid_bit (nth (column s rs k) j)) 1) true
      cases false e = refl
      cases true e =
          let inside : j / 8 < length (pack_bits (each_number valid_bit (column s rs k))) = omega (arith, pack_length (each_number valid_bit (column s rs k)), each_length valid_bit (column s rs k)) in
          rw (bitmap_place_built s rs fit.image fit.bytes fit.short k node e)
          (part_bit (bitmap_part e) j inside ∙ row_bit valid_bit (column s rs k) (λ i few. bit_small (nth (column s rs k) i)) j lt)

  -- an offset, where the first buffer is the offsets of the rows
  module _ (part : PartOf (built_image s rs) (part_start s rs (3 * k + 1 + 0)) (offsets_from (element_width s k) 0 (column s rs k)))
      (some : 0 < buffer_count s k) (wide : 4 ≤ element_width s k) (total : sum_over span (column s rs k) (count (column s rs k)) < 4294967296) where
    pub offset_built : (j : ℕ) → j ≤ count (column s rs k) → element_at (built_image s rs) k j ≡ sum_over span (column s rs k) j
    unfolding element_at
    offset_built j le =
        let inside : suc j * element_width s k ≤ suc (count (column s rs k)) * element_width s k = mul-le-mul_right (element_width s k) (omega arith) in
        let room : j * element_width s k + element_width s k ≤ length (offsets_from (element_width s k) 0 (column s rs k)) =
        omega (arith, suc-mul j (element_width s k), offsets_length (element_width s k) 0 (column s rs k)) in
        let small : sum_over span (column s rs k) j < 256 ^ element_width s k = fits_wide (element_width s k) _ wide (omega (arith, sum_within span (column s rs k) j)) in
        rw (element_kept some j, width_kept)
        (part_number part (element_width s k) (j * element_width s k) room
        ∙ offset_at (element_width s k) 0 (column s rs k) j le (omega arith) ∙ zero-add (sum_over span (column s rs k) j))

    -- and how far the next one lies
    next_built : (j : ℕ) → j < count (column s rs k) → element_at (built_image s rs) k (suc j) - element_at (built_image s rs) k j ≡ span (nth (column s rs k) j)
    next_built j lt =
        rw (offset_built (suc j) lt, offset_built j (omega arith), sum_step span (column s rs k) j lt) (omega arith)

-- What rows of a layout have.

module _ (sub : ℕ → Row → Bool) (s : List ℕ) (k : ℕ) where
  boolean_small : (r : Row) → is_marked true (is_value Boolean sub s k) r ≡ true → value_bit r ≤ 1
  boolean_small null e = omega arith
  boolean_small (fixed b) e = leb-true _ _ (and_right (eqb (length b) 1) _ e)
  boolean_small (sized b) e = omega arith
  boolean_small (joined qs) e = omega arith
  boolean_small (counted qs) e = omega arith
  boolean_small (tagged id r) e = omega arith

-- one byte that is 0 or 1
bit_byte : (b : List ℕ) → length b ≡ 1 → byte_at b 0 ≤ 1 → cond (eqb (byte_at b 0) 1) 1 0 ∷ [] ≡ b
bit_byte [] e le = absurd (omega arith)
bit_byte (zero ∷ []) e le = refl
bit_byte (suc zero ∷ []) e le = refl
bit_byte (suc (suc x) ∷ []) e le = absurd (omega arith)
bit_byte (x ∷ y ∷ b) e le = absurd (omega arith)

no_bytes : (b : List ℕ) → length b ≡ 0 → ◌≡◌ {A = Row} (fixed []) (fixed b)
no_bytes [] e = refl
no_bytes (x ∷ b) e = absurd (omega arith)

-- offsets have four bytes or more
pub wide_text : (s : List ℕ) (k : ℕ) → layout_of (code_of s k) ≡ VariableSize → 4 ≤ element_width s k
unfolding element_width
wide_text s k l = text_wide (code_of s k) (p1_of s k) l

pub wide_list : (s : List ℕ) (k : ℕ) → layout_of (code_of s k) ≡ Lists → 4 ≤ element_width s k
unfolding element_width
wide_list s k l = list_wide (code_of s k) (p1_of s k) l

-- The value of a row.

module _ (s : List ℕ) (rs : Rows) (fit : Fitting s rs) (d k : ℕ) (node : k < node_count s) (typed : all_rows (is_row (suc d) s k) (column s rs k) ≡ true) where
  boolean_back : layout_of (code_of s k) ≡ Boolean → (j : ℕ) → j < count (column s rs k) → (b : List ℕ) → nth (column s rs k) j ≡ fixed b
      → eqb (length b) 1 && leb (byte_at b 0) 1 ≡ true → boolean_row (built_image s rs) k j ≡ fixed b
  unfolding boolean_row
  boolean_back l j lt b is e =
      let some : 0 < buffer_count s k = omega (arith, (fit.image.node k node).buffers.exactly 1 (rw l)) in
      let inside : j / 8 < length (pack_bits (each_number value_bit (column s rs k))) = omega (arith, pack_length (each_number value_bit (column s rs k)), each_length value_bit (column s rs k)) in
      let bit : bit_at (built_image s rs) (buffer_place (built_image s rs) k 0) j ≡ eqb (byte_at b 0) 1 =
      rw (first_place s rs fit k node some)
      (part_bit (first_part s rs fit k node Boolean l) j inside
      ∙ row_bit value_bit (column s rs k) (λ i few. boolean_small (is_row d s) s k (nth (column s rs k) i) (row_typed s fit.image rs d k node typed Boolean l i few)) j lt
      ∙ ap (λ (r : Row). eqb (value_bit r) 1) is) in
      rw bit (ap fixed (bit_byte b (eqb-true _ _ (and_left _ _ e)) (leb-true _ _ (and_right (eqb (length b) 1) _ e))))

  fixed_back : layout_of (code_of s k) ≡ FixedWidth → (j : ℕ) → j < count (column s rs k) → (b : List ℕ) → nth (column s rs k) j ≡ fixed b
      → eqb (length b) (element_width s k) ≡ true → fixed_row (built_image s rs) k j ≡ fixed b
  unfolding fixed_row
  fixed_back l j lt b is e =
      let w = element_width s k in
      let some : 0 < buffer_count s k = omega (arith, (fit.image.node k node).buffers.exactly 1 (rw l)) in
      let sum : sum_over (λ r. length (value_bytes (element_width s k) r)) (column s rs k) j ≡ j * element_width s k =
      sum_even (λ r. length (value_bytes (element_width s k) r)) (element_width s k) (column s rs k) j
      (λ i few. width_even (is_row d s) s k (nth (column s rs k) i) (row_typed s fit.image rs d k node typed FixedWidth l i few)) (omega arith) in
      let there = part_whole (part_in (first_part s rs fit k node FixedWidth l) (bytes_part (value_bytes (element_width s k)) (column s rs k) j lt)) in
      let many : length b ≡ element_width s k = eqb-true _ _ e in
      rw (element_kept s rs fit k node some j, width_kept s rs fit k node) (ap fixed (rw (sum, is, many) at there))

  pub text_back : layout_of (code_of s k) ≡ VariableSize → (j : ℕ) → j < count (column s rs k) → (b : List ℕ) → nth (column s rs k) j ≡ sized b → variable_row (built_image s rs) k j ≡ sized b
  unfolding variable_row
  text_back l j lt b is =
      let two : buffer_count s k ≡ 2 = (fit.image.node k node).buffers.exactly 2 (rw l) in
      let offsets = first_part s rs fit k node VariableSize l in
      let texts = second_part s rs fit k node VariableSize l in
      let wide : 4 ≤ element_width s k = wide_text s k l in
      let same : (i : ℕ) → i < count (column s rs k) → span (nth (column s rs k) i) ≡ length (text_bytes (nth (column s rs k) i)) =
      λ i few. text_span (is_row d s) s k (nth (column s rs k) i) (row_typed s fit.image rs d k node typed VariableSize l i few) in
      let all : sum_over span (column s rs k) (count (column s rs k)) ≡ length (each_bytes text_bytes (column s rs k)) =
      sum_same span (λ r. length (text_bytes r)) (column s rs k) (count (column s rs k)) same ∙ sym (bytes_length text_bytes (column s rs k)) in
      let total : sum_over span (column s rs k) (count (column s rs k)) < 4294967296 = omega (arith, part_inside texts, fit.short) in
      let there = part_whole (part_in texts (bytes_part text_bytes (column s rs k) j lt)) in
      let sum : sum_over (λ r. length (text_bytes r)) (column s rs k) j ≡ sum_over span (column s rs k) j = sym (sum_same span (λ r. length (text_bytes r)) (column s rs k) j same) in
      rw (second_place s rs fit k node (omega arith), next_built s rs fit k node offsets (omega arith) wide total j lt, offset_built s rs fit k node offsets (omega arith) wide total j (omega arith), is)
      (ap sized (rw (sum, is) at there))

  pub list_few : layout_of (code_of s k) ≡ Lists → sum_over span (column s rs k) (count (column s rs k)) < 4294967296
  unfolding child_end
  list_few l = omega (arith, list_total s fit.image rs d k node typed l, fit.few (first_child s k + 0) (omega (arith, single s fit.image rs d k node typed l, (fit.image.node k node).tree.ends)))

  -- what row j of a Struct gives a child
  struct_row_lem : layout_of (code_of s k) ≡ Struct → (i : ℕ) → i < child_count s k → (j : ℕ) → j < count (column s rs k) → (qs : Rows) → nth (column s rs k) j ≡ joined qs → nth (column s rs (first_child s k + i)) j ≡ nth qs i
  unfolding count nth
  struct_row_lem l i few j lt qs is =
      let there : 0 < count (rows_to_child (one (gap_row s (first_child s k + i))) i (nth (column s rs k) j)) = rw is (omega arith) in
      let given = from_nth (rows_to_child (one (gap_row s (first_child s k + i))) i) (column s rs k) j 0 lt there in
      let e : sum_over (λ r. count (rows_to_child (one (gap_row s (first_child s k + i))) i r)) (column s rs k) j + 0 ≡ j = omega (arith, struct_sum s fit.image rs d k node typed l i few j (omega arith)) in
      rw (struct_column_lem s fit.image rs d k node typed l i few) (rw (e, is) at given)

  -- where the rows of the children are known
  module _ (sub : ℕ → ℕ → Row) (below : (i : ℕ) → i < child_count s k → (m : ℕ) → m < count (column s rs (first_child s k + i)) → sub (first_child s k + i) m ≡ nth (column s rs (first_child s k + i)) m) where
    list_back : layout_of (code_of s k) ≡ Lists → (j : ℕ) → j < count (column s rs k) → (qs : Rows) → nth (column s rs k) j ≡ counted qs → list_row sub (built_image s rs) k j ≡ counted qs
    unfolding list_row
    list_back l j lt qs is =
        let offsets = first_part s rs fit k node Lists l in
        let some : 0 < buffer_count s k = omega (arith, (fit.image.node k node).buffers.exactly 1 (rw l)) in
        let wide : 4 ≤ element_width s k = wide_list s k l in
        let step : sum_over span (column s rs k) (suc j) ≡ sum_over span (column s rs k) j + count qs =
        sum_step span (column s rs k) j lt ∙ ap (λ (r : Row). sum_over span (column s rs k) j + span r) is in
        let whole : sum_over span (column s rs k) (suc j) ≤ sum_over span (column s rs k) (count (column s rs k)) = sum_within span (column s rs k) (suc j) in
        let each : (m : ℕ) → m < count qs → sub (first_child s k) (sum_over span (column s rs k) j + m) ≡ nth qs m =
        λ m few.
        let there : m < count (rows_to_child none 0 (nth (column s rs k) j)) = rw is few in
        let given = from_nth (rows_to_child none 0) (column s rs k) j m lt there in
        let child = below 0 (single s fit.image rs d k node typed l) (sum_over span (column s rs k) j + m) (omega (arith, list_total s fit.image rs d k node typed l)) in
        rw (add-zero (first_child s k)) at child
        ∙ rw (← list_sum s fit.image rs d k node typed l j, ← add-zero (first_child s k), list_column_lem s fit.image rs d k node typed l) (given ∙ ap (λ (r : Row). nth (rows_to_child none 0 r) m) is) in
        rw (first_child_kept s rs fit.image fit.bytes fit.short k node, next_built s rs fit k node offsets some wide (list_few l) j lt, offset_built s rs fit k node offsets some wide (list_few l) j (omega arith), is)
        (ap counted (range_is (sub (first_child s k)) (sum_over span (column s rs k) j) qs each))

    struct_back : layout_of (code_of s k) ≡ Struct → (j : ℕ) → j < count (column s rs k) → (qs : Rows) → nth (column s rs k) j ≡ joined qs → eqb (count qs) (child_count s k) ≡ true → struct_row sub (built_image s rs) k j ≡ joined qs
    unfolding struct_row
    struct_back l j lt qs is e =
        let many : count qs ≡ child_count s k = eqb-true _ _ e in
        let each : (m : ℕ) → m < count qs → sub (first_child s k + m) j ≡ nth qs m =
        λ m few.
        let child : m < child_count s k = omega arith in
        below m child j (omega (arith, struct_total s fit.image rs d k node typed l m child)) ∙ struct_row_lem l m child j lt qs is in
        rw (first_child_kept s rs fit.image fit.bytes fit.short k node, child_count_kept s rs fit.image fit.bytes fit.short k node, ← many)
        (ap joined (range_is (λ c. sub c j) (first_child s k) qs each))

    -- the value of a row that is not null
    value_built : (l : Layout) → layout_of (code_of s k) ≡ l → (j : ℕ) → j < count (column s rs k) → (r : Row) → nth (column s rs k) j ≡ r → is_value l (is_row d s) s k r ≡ true
        → value_at l sub (built_image s rs) k j ≡ r
    value_built Null l j lt r is e = from_fixed (λ b. eqb (length b) 0) r e (λ r. fixed [] ≡ r) (λ b t. no_bytes b (eqb-true _ _ t))
    value_built Boolean l j lt r is e =
        from_fixed (λ b. eqb (length b) 1 && leb (byte_at b 0) 1) r e (λ r. nth (column s rs k) j ≡ r → boolean_row (built_image s rs) k j ≡ r) (λ b t is. boolean_back l j lt b is t) is
    value_built FixedWidth l j lt r is e =
        from_fixed (λ b. eqb (length b) (element_width s k)) r e (λ r. nth (column s rs k) j ≡ r → fixed_row (built_image s rs) k j ≡ r) (λ b t is. fixed_back l j lt b is t) is
    value_built VariableSize l j lt r is e =
        from_sized (λ b. ltb (length b) 4294967296 && text_fits (code_of s k) b) r e (λ r. nth (column s rs k) j ≡ r → variable_row (built_image s rs) k j ≡ r) (λ b t is. text_back l j lt b is) is
    value_built Lists l j lt r is e =
        from_counted (λ qs. ltb (count qs) 4294967296 && all_rows (is_row d s (first_child s k)) qs) r e (λ r. nth (column s rs k) j ≡ r → list_row sub (built_image s rs) k j ≡ r) (λ qs t is. list_back l j lt qs is) is
    value_built Struct l j lt r is e =
        from_joined (λ qs. eqb (count qs) (child_count s k) && each_row (is_row d s) (first_child s k) qs) r e (λ r. nth (column s rs k) j ≡ r → struct_row sub (built_image s rs) k j ≡ r)
        (λ qs t is. struct_back l j lt qs is (and_left _ _ t)) is
    value_built View l j lt r is e = absurd (false≢true e)
    value_built ListView l j lt r is e = absurd (false≢true e)
    value_built FixedList l j lt r is e = absurd (false≢true e)
    value_built DenseUnion l j lt r is e = absurd (false≢true e)
    value_built SparseUnion l j lt r is e = absurd (false≢true e)
    value_built Dictionary l j lt r is e = absurd (false≢true e)
    value_built Runs l j lt r is e = absurd (false≢true e)

-- null or the value, as the bit says
masked_built : (takes : Bool) (f : Row → Bool) (r value : Row) → is_marked takes f r ≡ true → (f r ≡ true → value ≡ r) → masked (cond takes (eqb (valid_bit r) 1) true) value ≡ r
masked_built true f null value e h = refl
masked_built false f null value e h = absurd (false≢true e)
masked_built true f (fixed b) value e h = h e
masked_built false f (fixed b) value e h = h e
masked_built true f (sized b) value e h = h e
masked_built false f (sized b) value e h = h e
masked_built true f (joined qs) value e h = h e
masked_built false f (joined qs) value e h = h e
masked_built true f (counted qs) value e h = h e
masked_built false f (counted qs) value e h = h e
masked_built true f (tagged id r) value e h = h e
masked_built false f (tagged id r) value e h = h e

module _ (s : List ℕ) (rs : Rows) (fit : Fitting s rs) where
  -- row j of node k
  pub row_back : (d e : ℕ) → d + e ≡ 16 → (k : ℕ) → level_end s e ≤ k → k < node_count s → all_rows (is_row d s k) (column s rs k) ≡ true
      → (j : ℕ) → j < count (column s rs k) → row_at d (built_image s rs) k j ≡ nth (column s rs k) j
  unfolding row_at is_row child_end
  row_back zero e sum k past node typed j lt = absurd (omega (arith, deep s fit.image 0 e k sum past node))
  row_back (suc d) e sum k past node typed j lt =
      let t = (fit.image.node k node).tree in
      let below : (i : ℕ) → i < child_count s k → (m : ℕ) → m < count (column s rs (first_child s k + i)) → row_at d (built_image s rs) (first_child s k + i) m ≡ nth (column s rs (first_child s k + i)) m =
      λ i few m within.
      let low : level_end s (suc e) ≤ first_child s k + i = omega (arith, level_below s e k past, t.numbered) in
      let there : first_child s k + i < node_count s = omega (arith, t.ends) in
      row_back d (suc e) (omega arith) (first_child s k + i) low there
      (child_typed s fit.image fit.coded rs d k i (deep s fit.image d (suc e) (first_child s k + i) (omega arith) low there) node few there typed) m within in
      rw (valid_built s rs fit k node j lt, code_kept s rs fit.image fit.bytes fit.short k node, offset_zero s rs fit.image fit.bytes fit.short k node, zero-add j)
      (masked_built (takes_bitmap (layout_of (code_of s k))) (is_value (layout_of (code_of s k)) (is_row d s) s k) (nth (column s rs k) j) _
      (all_at (is_row (suc d) s k) (column s rs k) typed j lt)
      (λ value. value_built s rs fit d k node typed (row_at d (built_image s rs)) below (layout_of (code_of s k)) refl j lt (nth (column s rs k) j) refl value))

  -- the rows of the table
  pub table_back : all_rows (is_row 16 s 0) rs ≡ true → table_rows (built_image s rs) 0 (count rs) ≡ rs
  unfolding table_rows level_end
  table_back typed =
      range_is (row_at 16 (built_image s rs) 0) 0 rs (λ m lt.
      let root : column s rs 0 ≡ rs = column_root s rs in
      let node : 0 < node_count s = omega (arith, fit.image.tables.some_nodes) in
      let there = row_back 16 0 (omega arith) 0 (omega arith) node (rw root typed) m (rw root lt) in
      rw (zero-add m) (rw root at there))
