-- A built image is accepted.
-- Fault by fault: what the header, the records and the entries say is known, and how long the parts are; the rest is the
-- given image's.
use mathlib.Core.Path.{◌≡◌, refl, sym, ap, ◌∙◌}
use mathlib.Core.Bool.{Bool, true, false, cond, not, ◌&&◌, ◌||◌, false≢true}
use mathlib.Core.List.{List}
use mathlib.Core.Logic.{◌⊎◌, inl, inr}
use Prim.Native.Nat.{ℕ, zero, suc, ◌+◌, ◌*◌, ◌-◌, ◌/◌, ◌%◌, ◌≤◌, ◌<◌}
use native.Mathlib.Nat.{mul-mod_left, eq-zero-or-pos, zero-add}
use native.Mathlib.Numerals.{add-one}
use native.Mathlib.Omega.{arith}
use lib.ListN.{length}
use lib.Dec.{eqb, leb, ltb}
use borrow.Author.Tests.{eq-eqb, ne_eqb, le-leb, lt-leb, le-ltb, ltb-true}
use Rattle.std.proofs.Common.{Ok}
use Rattle.image.specs.declared.type_code.Layout.{Layout}
use Rattle.image.specs.declared.type_code.Layout.TheVariants.{Null, Boolean, FixedWidth, VariableSize, View, List as Lists, ListView, FixedList, Struct, DenseUnion, SparseUnion, Dictionary, Runs}
use Rattle.image.specs.declared.type_code.Count.TheVariants.{Exactly, AtLeast}
use Rattle.image.specs.Ranges.{first, rises, sum_to}
use Rattle.image.specs.Record.{node_count, buffer_total, tables_end, record_place, entry_place, code_of, flags_of, name_length, length_of, name_place, bitmap_place, bitmap_length, first_bit, first_child, child_count, buffer_count, has_bitmap, elements_of, child_start, buffer_start, buffer_length}
use Rattle.image.specs.TypeCode.{layout_of, is_text, is_union, takes_bitmap, child_rule, buffer_rule, counts}
use Rattle.image.specs.Element.{valid, element_width, element_at, child_end}
use Rattle.image.specs.Faults.{fault10, fault11, level_end, fault12, outside, buffer_outside, fault13, whole, not_whole, fault14, under, too_few_elements, fault15, rows_under, child_under, too_few_child_rows, fault16, offsets_rise, offset_fault, fault17, row_fault, fault18, text_row_fault, fault19, fault, first_faulty, numbers_end, check_from, check_image}
use Rattle.image.specs.Row.{Rows}
use Rattle.image.specs.RowBytes.{count}
use Rattle.image.proofs.Bools.{and_true, fails_and}
use Rattle.image.proofs.Ranges.{any_none, first_passes}
use Rattle.laws.specs.Accepted.{Node}
use Rattle.image.specs.Parse.{readable_code}
use Rattle.image.specs.Built.{column, span, part_at, part_length, name_start, built_image}
use Rattle.built.proofs.Regions.{part_inside}
use Rattle.built.proofs.Offsets.{sum_over}
use Rattle.built.specs.Typed.{all_rows, is_row}
use Rattle.built.specs.Walk.{total}
use Rattle.built.proofs.Fields.{tables_inside, name_part, name_length_lem, part_part, nodes_kept, buffers_kept, code_kept, flags_built, id_zero, name_length_kept, p1_kept, p2_kept, offset_zero, first_bit_zero, first_child_kept, child_count_kept, first_buffer_kept, buffer_count_kept, has_bitmap_built, name_place_built, bitmap_place_built, bitmap_length_built, buffer_place_built, buffer_length_built}
use Rattle.built.proofs.Columns.{sum_step}
use Rattle.built.proofs.TypedColumns.{unreadable, not_view, not_list_view, not_fixed_list, not_dense, not_sparse, not_dictionary, not_runs, coded_at}
use Rattle.built.proofs.Lengths.{total_sum, bitmap_length_lem, list_child, struct_child}
use Rattle.built.proofs.Back.{Fitting, width_kept, sum_within}
use Rattle.built.proofs.Kept.{no_union, no_map, no_run}
use Rattle.built.proofs.Sizes.{length_is, boolean_length, fixed_length, text_offsets, list_offsets, text_length, text_offset, list_offset}
use Rattle.built.proofs.Formed.{built_formed}

neither : (x y : Bool) → x ≡ false → y ≡ false → x || y ≡ false
neither x y p q = rw p q

not_it : (x : Bool) → x ≡ true → not x ≡ false
not_it x p = rw p

-- a count as the rule says
child_counts : (l : Layout) (x : ℕ) → ((n : ℕ) → child_rule l ≡ Exactly n → x ≡ n) → counts (child_rule l) x ≡ true
child_counts Null x h = eq-eqb x 0 (h 0 refl)
child_counts Boolean x h = eq-eqb x 0 (h 0 refl)
child_counts FixedWidth x h = eq-eqb x 0 (h 0 refl)
child_counts VariableSize x h = eq-eqb x 0 (h 0 refl)
child_counts View x h = eq-eqb x 0 (h 0 refl)
child_counts Lists x h = eq-eqb x 1 (h 1 refl)
child_counts ListView x h = eq-eqb x 1 (h 1 refl)
child_counts FixedList x h = eq-eqb x 1 (h 1 refl)
child_counts Struct x h = le-leb 0 x (omega arith)
child_counts DenseUnion x h = le-leb 0 x (omega arith)
child_counts SparseUnion x h = le-leb 0 x (omega arith)
child_counts Dictionary x h = eq-eqb x 1 (h 1 refl)
child_counts Runs x h = eq-eqb x 2 (h 2 refl)

buffer_counts : (l : Layout) (x : ℕ) → ((n : ℕ) → buffer_rule l ≡ Exactly n → x ≡ n) → ((n : ℕ) → buffer_rule l ≡ AtLeast n → n ≤ x) → counts (buffer_rule l) x ≡ true
buffer_counts Null x h g = eq-eqb x 0 (h 0 refl)
buffer_counts Boolean x h g = eq-eqb x 1 (h 1 refl)
buffer_counts FixedWidth x h g = eq-eqb x 1 (h 1 refl)
buffer_counts VariableSize x h g = eq-eqb x 2 (h 2 refl)
buffer_counts View x h g = le-leb 1 x (g 1 refl)
buffer_counts Lists x h g = eq-eqb x 1 (h 1 refl)
buffer_counts ListView x h g = eq-eqb x 2 (h 2 refl)
buffer_counts FixedList x h g = eq-eqb x 0 (h 0 refl)
buffer_counts Struct x h g = eq-eqb x 0 (h 0 refl)
buffer_counts DenseUnion x h g = eq-eqb x 2 (h 2 refl)
buffer_counts SparseUnion x h g = eq-eqb x 1 (h 1 refl)
buffer_counts Dictionary x h g = eq-eqb x 1 (h 1 refl)
buffer_counts Runs x h g = eq-eqb x 0 (h 0 refl)

-- at most two buffers
pub two_buffers : (l : Layout) (x code : ℕ) → layout_of code ≡ l → leb code 30 || eqb code 33 || eqb code 34 || eqb code 38 ≡ true → ((n : ℕ) → buffer_rule l ≡ Exactly n → x ≡ n) → x ≤ 2
two_buffers Null x code e r h = omega (arith, h 0 refl)
two_buffers Boolean x code e r h = omega (arith, h 1 refl)
two_buffers FixedWidth x code e r h = omega (arith, h 1 refl)
two_buffers VariableSize x code e r h = omega (arith, h 2 refl)
two_buffers View x code e r h = absurd (false≢true (sym (not_view code e) ∙ r))
two_buffers Lists x code e r h = omega (arith, h 1 refl)
two_buffers ListView x code e r h = omega (arith, h 2 refl)
two_buffers FixedList x code e r h = omega (arith, h 0 refl)
two_buffers Struct x code e r h = omega (arith, h 0 refl)
two_buffers DenseUnion x code e r h = omega (arith, h 2 refl)
two_buffers SparseUnion x code e r h = omega (arith, h 1 refl)
two_buffers Dictionary x code e r h = omega (arith, h 1 refl)
two_buffers Runs x code e r h = omega (arith, h 0 refl)

-- sums of numbers that agree
pub sum_kept : (f g : ℕ → ℕ) (n : ℕ) → ((i : ℕ) → i < n → f i ≡ g i) → sum_to f n ≡ sum_to g n
unfolding sum_to
sum_kept f g zero same = refl
sum_kept f g (suc n) same = rw (sum_kept f g n (λ i lt. same i (omega arith)), same n (omega arith))

-- numbers that do not fall
rises_by : (f : ℕ → ℕ) (top least i n : ℕ) → ((m : ℕ) → i ≤ m → m < i + n → f m ≤ top) → ((m : ℕ) → i ≤ m → suc m < i + n → f m ≤ f (suc m)) → (0 < n → least ≤ f i) → rises 0 f top least i n ≡ true
unfolding rises
rises_by f top least i zero high up low = refl
rises_by f top least i (suc n) high up low =
    let plus : f i + 0 ≡ f i = omega arith in
    and_true _ _ (and_true _ _ (le-leb least (f i) (low (omega arith))) (le-leb (f i) top (high i (omega arith) (omega arith))))
    (rw plus (rises_by f top (f i) (suc i) n (λ m from end. high m (omega arith) (omega arith)) (λ m from end. up m (omega arith) (omega arith)) (λ some. up i (omega arith) (omega arith))))

tables_four : (s : List ℕ) → 4 ≤ tables_end s
unfolding tables_end entry_place record_place
tables_four s = omega arith

level_within : (s : List ℕ) (d : ℕ) → level_end s d ≤ node_count s
unfolding level_end
level_within s zero = omega arith
level_within s (suc d) = omega arith

module _ (s : List ℕ) (rs : Rows) (fit : Fitting s rs) (root : all_rows (is_row 16 s 0) rs ≡ true) where
  abbrev t : List ℕ
  t = built_image s rs

  tables_kept : tables_end t ≡ tables_end s
  unfolding tables_end entry_place
  tables_kept = rw (nodes_kept s rs fit.image fit.bytes fit.short, buffers_kept s rs fit.image fit.bytes fit.short)

  no_10 : fault10 t ≡ false
  unfolding fault10
  no_10 =
      let image = fit.image in
      let header : 4 ≤ length (built_image s rs) = four in
      rw (tables_kept, nodes_kept s rs fit.image fit.bytes fit.short, buffers_kept s rs fit.image fit.bytes fit.short)
      (neither _ _ (neither _ _ (neither _ _ (neither _ _ (neither _ _
      (le-ltb (length (built_image s rs)) 4 header) (le-ltb 16777216 (length (built_image s rs)) fit.short))
      (ne_eqb (node_count s) 0 (λ e. omega (arith, image.tables.some_nodes)))) (le-ltb 256 (node_count s) image.tables.few_nodes)) (le-ltb 1024 (buffer_total s) image.tables.few_buffers))
      (le-ltb (length (built_image s rs)) (tables_end s) (tables_inside s rs fit.image)))
    where
      four : 4 ≤ length (built_image s rs)
      four = omega (arith, tables_inside s rs fit.image, tables_four s)

  -- sums over the nodes
  children_kept : (k : ℕ) → k ≤ node_count s → child_start t k ≡ child_start s k
  unfolding child_start
  children_kept k le = ap suc_of (sum_kept (child_count t) (child_count s) k (λ i lt. child_count_kept s rs fit.image fit.bytes fit.short i (omega arith)))
    where
      suc_of : ℕ → ℕ
      suc_of n = 1 + n

  starts_kept : (k : ℕ) → k ≤ node_count s → buffer_start t k ≡ buffer_start s k
  unfolding buffer_start
  starts_kept k le = sum_kept (buffer_count t) (buffer_count s) k (λ i lt. buffer_count_kept s rs fit.image fit.bytes fit.short i (omega arith))

  levels_kept : (d : ℕ) → level_end t d ≡ level_end s d
  unfolding level_end
  levels_kept zero = refl
  levels_kept (suc d) =
      rw (levels_kept d, nodes_kept s rs fit.image fit.bytes fit.short, children_kept (level_end s d) (level_within s d))

  module _ (k : ℕ) (lt : k < node_count s) where
    here : Node s k
    here = fit.image.node k lt

    coded_here : readable_code s k ≡ true
    coded_here = coded_at s fit.image fit.coded rs k lt

    no_11 : fault11 t k ≡ false
    unfolding fault11
    no_11 =
        rw (has_bitmap_built s rs fit.image fit.bytes fit.short k lt, code_kept s rs fit.image fit.bytes fit.short k lt, p1_kept s rs fit.image fit.bytes fit.short k lt, p2_kept s rs fit.image fit.bytes fit.short k lt, flags_built s rs fit.image fit.bytes fit.short k lt)
        (neither _ _ (neither _ _ (neither _ _ (neither _ _
        (le-ltb 43 (code_of s k) here.known.code) (flags (takes_bitmap (layout_of (code_of s k))))) (not_it _ here.known.p1)) (not_it _ here.known.p2))
        (fails_and (takes_bitmap (layout_of (code_of s k))) _ (λ takes. not_it _ takes)))
      where
        flags : (b : Bool) → ltb 3 (flags_of s k % 2 + cond b 2 0) ≡ false
        flags true = le-ltb 3 (flags_of s k % 2 + 2) (omega arith)
        flags false = le-ltb 3 (flags_of s k % 2 + 0) (omega arith)

    no_12 : fault12 t k ≡ false
    unfolding fault12
    no_12 =
        let image = fit.image in
        rw (id_zero s rs fit.image fit.bytes fit.short k lt, levels_kept 16, nodes_kept s rs fit.image fit.bytes fit.short, children_kept (node_count s) (omega arith), children_kept k (omega arith), code_kept s rs fit.image fit.bytes fit.short k lt, first_child_kept s rs fit.image fit.bytes fit.short k lt, child_count_kept s rs fit.image fit.bytes fit.short k lt)
        (neither _ _ (neither _ _ (neither _ _ (neither _ _ (neither _ _ (neither _ _ (neither _ _ (neither _ _
        (not_it _ (child_counts (layout_of (code_of s k)) (child_count s k) here.tree.exactly))
        (not_it _ (eq-eqb _ _ here.tree.numbered)))
        (lt-leb (first_child s k) k here.tree.below))
        (fails_and (eqb k 0) _ (λ zero_is. not_it _ (eq-eqb _ _ image.child_total))))
        (lt-leb (level_end s 16) k here.tree.shallow))
        (fails_and (is_union (code_of s k)) _ (λ is. absurd (false≢true (sym (no_union s image fit.coded k lt) ∙ is)))))
        refl)
        (fails_and (eqb (code_of s k) 42) _ (λ is. absurd (false≢true (sym (no_map s image fit.coded k lt) ∙ is)))))
        (fails_and (eqb (code_of s k) 43) _ (λ is. absurd (false≢true (sym (no_run s image fit.coded k lt) ∙ is)))))

    no_13 : fault13 t k ≡ false
    unfolding fault13 outside
    no_13 =
        rw (name_length_kept s rs fit.image fit.bytes fit.short k lt)
        (neither _ _ (le-ltb 64 (name_length s k) here.named.short) (cases (eq-zero-or-pos (name_length s k))))
      where
        cases : (name_length s k ≡ 0) ⊎ (0 < name_length s k) → not (eqb (name_length s k) 0) && ltb (length t) (name_place t k + name_length s k) ≡ false
        cases (inl none) = rw none
        cases (inr some) =
            fails_and (not (eqb (name_length s k) 0)) (ltb (length t) (name_place t k + name_length s k)) (λ is.
            rw (name_place_built s rs fit.image fit.bytes fit.short k lt some)
            (le-ltb (length (built_image s rs)) (name_start s k + name_length s k) (omega (arith, part_inside (name_part s rs fit.image k lt), name_length_lem s k))))

    -- a layout that no readable code has
    other : (l : Layout) → unreadable l → layout_of (code_of s k) ≡ l → (P : Type 0) → P
    unfolding readable_code
    other l never e P = absurd (false≢true (sym (never (code_of s k) e) ∙ coded_here))

    two : buffer_count s k ≤ 2
    unfolding readable_code
    two = two_buffers (layout_of (code_of s k)) (buffer_count s k) (code_of s k) refl coded_here here.buffers.exactly

    elements_are : elements_of t k ≡ count (column s rs k)
    unfolding elements_of
    elements_are = rw (length_is s rs fit root k lt, offset_zero s rs fit.image fit.bytes fit.short k lt) (omega arith)

    buffer_inside : (j : ℕ) → j < buffer_count s k → buffer_outside t k j ≡ false
    unfolding buffer_outside outside part_length
    buffer_inside j few =
        let pair : j < 2 = omega (arith, two) in
        let there = part_inside (part_part s rs fit.image (3 * k + 1 + j) (omega arith)) in
        rw (buffer_place_built s rs fit.image fit.bytes fit.short k lt j pair few, buffer_length_built s rs fit.image fit.bytes fit.short k lt j pair few) (le-ltb (length (built_image s rs)) _ there)

    bitmap_inside : has_bitmap t k && outside t (bitmap_place t k) (bitmap_length t k) ≡ false
    unfolding outside part_length
    bitmap_inside =
        rw (has_bitmap_built s rs fit.image fit.bytes fit.short k lt, bitmap_length_built s rs fit.image fit.bytes fit.short k lt)
        (fails_and (takes_bitmap (layout_of (code_of s k))) (ltb (length t) (bitmap_place t k + length (part_at s rs (3 * k)))) (λ takes.
        rw (bitmap_place_built s rs fit.image fit.bytes fit.short k lt takes) (le-ltb (length (built_image s rs)) _ (part_inside (part_part s rs fit.image (3 * k) (omega arith))))))

    whole_elements : (n : ℕ) → buffer_length t k 0 ≡ n * element_width s k → not (whole (buffer_length t k 0) (element_width t k)) ≡ false
    unfolding whole
    whole_elements n e = rw (width_kept s rs fit k lt, e, mul-mod_left n (element_width s k))

    even : (l : Layout) → layout_of (code_of s k) ≡ l → not_whole l t k ≡ false
    even Null e = refl
    even Boolean e = refl
    even FixedWidth e = refl
    even VariableSize e = whole_elements _ (text_offsets s rs fit root k lt e)
    even View e = other View not_view e _
    even Lists e = whole_elements _ (list_offsets s rs fit root k lt e)
    even ListView e = other ListView not_list_view e _
    even FixedList e = other FixedList not_fixed_list e _
    even Struct e = refl
    even DenseUnion e = other DenseUnion not_dense e _
    even SparseUnion e = other SparseUnion not_sparse e _
    even Dictionary e = other Dictionary not_dictionary e _
    even Runs e = other Runs not_runs e _

    no_14 : fault14 t k ≡ false
    unfolding fault14
    no_14 =
        rw (elements_are, nodes_kept s rs fit.image fit.bytes fit.short, buffers_kept s rs fit.image fit.bytes fit.short, starts_kept (node_count s) (omega arith), starts_kept k (omega arith), code_kept s rs fit.image fit.bytes fit.short k lt, first_buffer_kept s rs fit.image fit.bytes fit.short k lt, buffer_count_kept s rs fit.image fit.bytes fit.short k lt)
        (neither _ _ (neither _ _ (neither _ _ (neither _ _ (neither _ _ (neither _ _
        (not_it _ (buffer_counts (layout_of (code_of s k)) (buffer_count s k) here.buffers.exactly here.buffers.at_least))
        (not_it _ (eq-eqb _ _ here.buffers.numbered)))
        (fails_and (eqb k 0) _ (λ zero_is. not_it _ (eq-eqb _ _ fit.image.buffers_total))))
        (any_none (buffer_outside t k) 0 (buffer_count s k) (λ j from end. buffer_inside j (omega arith))))
        bitmap_inside)
        (le-ltb 1073741824 (count (column s rs k)) (fit.few k lt)))
        (even (layout_of (code_of s k)) refl))

    long_enough : (n : ℕ) → buffer_length t k 0 ≡ n * element_width s k → under t k 0 n (element_width t k) ≡ false
    unfolding under
    long_enough n e = rw (width_kept s rs fit k lt, e) (le-ltb (n * element_width s k) _ (omega arith))

    enough : (l : Layout) → layout_of (code_of s k) ≡ l → too_few_elements l t k (count (column s rs k)) ≡ false
    enough Null e = refl
    enough Boolean e = le-ltb _ _ (boolean_length s rs fit root k lt e)
    enough FixedWidth e = long_enough _ (fixed_length s rs fit root k lt e)
    enough VariableSize e = rw (add-one (count (column s rs k))) (long_enough _ (text_offsets s rs fit root k lt e))
    enough View e = other View not_view e _
    enough Lists e = rw (add-one (count (column s rs k))) (long_enough _ (list_offsets s rs fit root k lt e))
    enough ListView e = other ListView not_list_view e _
    enough FixedList e = other FixedList not_fixed_list e _
    enough Struct e = refl
    enough DenseUnion e = other DenseUnion not_dense e _
    enough SparseUnion e = other SparseUnion not_sparse e _
    enough Dictionary e = other Dictionary not_dictionary e _
    enough Runs e = other Runs not_runs e _

    bits_enough : takes_bitmap (layout_of (code_of s k)) ≡ true → count (column s rs k) ≤ 8 * part_length s rs (3 * k)
    bits_enough takes =
        let bits : part_length s rs (3 * k) ≡ (count (column s rs k) + 7) / 8 = rw takes at (bitmap_length_lem s rs k (layout_of (code_of s k)) refl) in
        omega arith

    bitmap_enough : has_bitmap t k && ltb (8 * bitmap_length t k) (first_bit t k + length_of t k) ≡ false
    bitmap_enough =
        rw (has_bitmap_built s rs fit.image fit.bytes fit.short k lt, bitmap_length_built s rs fit.image fit.bytes fit.short k lt, first_bit_zero s rs fit.image fit.bytes fit.short k lt, length_is s rs fit root k lt)
        (fails_and (takes_bitmap (layout_of (code_of s k))) (ltb (8 * part_length s rs (3 * k)) (0 + count (column s rs k))) (λ takes.
        le-ltb (8 * part_length s rs (3 * k)) (0 + count (column s rs k)) (omega (arith, bits_enough takes))))

    no_15 : fault15 t k ≡ false
    unfolding fault15
    no_15 = rw (elements_are, code_kept s rs fit.image fit.bytes fit.short k lt) (neither _ _ bitmap_enough (enough (layout_of (code_of s k)) refl))

    struct_enough : layout_of (code_of s k) ≡ Struct → child_under t k (elements_of t k) ≡ false
    unfolding child_under rows_under child_end
    struct_enough e =
        rw (elements_are, first_child_kept s rs fit.image fit.bytes fit.short k lt, child_count_kept s rs fit.image fit.bytes fit.short k lt)
        (any_none (rows_under t (count (column s rs k))) (first_child s k) (child_count s k) (λ c from end. each c from end))
      where
        each : (c : ℕ) → first_child s k ≤ c → c < first_child s k + child_count s k → ltb (length_of t c) (count (column s rs k)) ≡ false
        each c from end =
            let node : c < node_count s = omega (arith, here.tree.ends) in
            let is : first_child s k + (c - first_child s k) ≡ c = omega arith in
            let same : count (column s rs c) ≡ count (column s rs k) = rw is at (struct_child s fit.image fit.coded rs root k lt e (c - first_child s k) (omega arith)) in
            rw (length_is s rs fit root c node, same) (le-ltb (count (column s rs k)) (count (column s rs k)) (omega arith))

    children_enough : (l : Layout) → layout_of (code_of s k) ≡ l → too_few_child_rows l t k ≡ false
    children_enough Null e = refl
    children_enough Boolean e = refl
    children_enough FixedWidth e = refl
    children_enough VariableSize e = refl
    children_enough View e = other View not_view e _
    children_enough Lists e = refl
    children_enough ListView e = other ListView not_list_view e _
    children_enough FixedList e = other FixedList not_fixed_list e _
    children_enough Struct e = struct_enough e
    children_enough DenseUnion e = other DenseUnion not_dense e _
    children_enough SparseUnion e = other SparseUnion not_sparse e _
    children_enough Dictionary e = other Dictionary not_dictionary e _
    children_enough Runs e = other Runs not_runs e _

    no_16 : fault16 t k ≡ false
    unfolding fault16
    no_16 = rw (code_kept s rs fit.image fit.bytes fit.short k lt) (children_enough (layout_of (code_of s k)) refl)

    -- offsets that are the sums of the spans before
    sums_rise : (end : ℕ) → ((j : ℕ) → j ≤ count (column s rs k) → element_at t k j ≡ sum_over span (column s rs k) j)
        → total (column s rs k) ≡ end → offsets_rise t k end ≡ true
    unfolding offsets_rise
    sums_rise end are whole =
        rw elements_are
        (rises_by (element_at t k) end 0 0 (count (column s rs k) + 1)
        (λ m from below. rw (are m (omega arith)) (omega (arith, sum_within span (column s rs k) m, total_sum (column s rs k))))
        (λ m from below. rw (are m (omega arith), are (suc m) (omega arith)) (omega (arith, sum_step span (column s rs k) m (omega arith))))
        (λ some. omega arith))

    list_rises : layout_of (code_of s k) ≡ Lists → offsets_rise t k (length_of t (first_child t k)) ≡ true
    unfolding child_end
    list_rises e =
        let one : child_count s k ≡ 1 = here.tree.exactly 1 (rw e) in
        let node : first_child s k < node_count s = omega (arith, here.tree.ends) in
        let whole = list_child s fit.image fit.coded rs root k lt e in
        rw (first_child_kept s rs fit.image fit.bytes fit.short k lt, length_is s rs fit root (first_child s k) node) (sums_rise _ (list_offset s rs fit root k lt e) (sym whole))

    in_place : (l : Layout) → layout_of (code_of s k) ≡ l → offset_fault l t k ≡ false
    in_place Null e = refl
    in_place Boolean e = refl
    in_place FixedWidth e = refl
    in_place VariableSize e = not_it _ (sums_rise (buffer_length t k 1) (text_offset s rs fit root k lt e) (sym (text_length s rs fit root k lt e)))
    in_place View e = other View not_view e _
    in_place Lists e = not_it _ (list_rises e)
    in_place ListView e = other ListView not_list_view e _
    in_place FixedList e = other FixedList not_fixed_list e _
    in_place Struct e = refl
    in_place DenseUnion e = other DenseUnion not_dense e _
    in_place SparseUnion e = other SparseUnion not_sparse e _
    in_place Dictionary e = other Dictionary not_dictionary e _
    in_place Runs e = other Runs not_runs e _

    no_17 : fault17 t k ≡ false
    unfolding fault17
    no_17 = rw (code_kept s rs fit.image fit.bytes fit.short k lt) (in_place (layout_of (code_of s k)) refl)

    no_row_fault : (l : Layout) → layout_of (code_of s k) ≡ l → row_fault l t k ≡ false
    no_row_fault Null e = refl
    no_row_fault Boolean e = refl
    no_row_fault FixedWidth e = refl
    no_row_fault VariableSize e = refl
    no_row_fault View e = other View not_view e _
    no_row_fault Lists e = refl
    no_row_fault ListView e = other ListView not_list_view e _
    no_row_fault FixedList e = other FixedList not_fixed_list e _
    no_row_fault Struct e = refl
    no_row_fault DenseUnion e = other DenseUnion not_dense e _
    no_row_fault SparseUnion e = other SparseUnion not_sparse e _
    no_row_fault Dictionary e = other Dictionary not_dictionary e _
    no_row_fault Runs e = other Runs not_runs e _

    no_18 : fault18 t k ≡ false
    unfolding fault18
    no_18 = rw (code_kept s rs fit.image fit.bytes fit.short k lt) (no_row_fault (layout_of (code_of s k)) refl)

    no_19 : fault19 t k ≡ false
    unfolding fault19 text_row_fault
    no_19 =
        rw (code_kept s rs fit.image fit.bytes fit.short k lt, length_is s rs fit root k lt)
        (fails_and (is_text (code_of s k)) _ (λ text.
        any_none (text_row_fault t k) 0 (count (column s rs k)) (λ i from end.
        fails_and (valid t k i) _ (λ v.
        rw (offset_zero s rs fit.image fit.bytes fit.short k lt, zero-add i) (not_it _ (built_formed s rs fit root k lt text i (omega arith) v))))))

    -- whatever the number
    no_fault : (number : ℕ) → fault number t k ≡ false
    unfolding fault
    no_fault number =
        pick (eqb number 11) _ _ no_11 (pick (eqb number 12) _ _ no_12 (pick (eqb number 13) _ _ no_13 (pick (eqb number 14) _ _ no_14
        (pick (eqb number 15) _ _ no_15 (pick (eqb number 16) _ _ no_16 (pick (eqb number 17) _ _ no_17 (pick (eqb number 18) _ _ no_18 no_19)))))))
      where
        pick : (b : Bool) (f g : List ℕ → ℕ → Bool) → f t k ≡ false → g t k ≡ false → cond b f g t k ≡ false
        pick true f g x y = x
        pick false f g x y = y

  none_faulty : (number : ℕ) → ltb (first_faulty number t) (node_count t) ≡ false
  unfolding first_faulty
  none_faulty number = cases (ltb (first_faulty number t) (node_count t)) refl
    where
      cases : (b : Bool) → ltb (first (fault number t) 0 (node_count t)) (node_count t) ≡ b → b ≡ false
      cases false e = refl
      cases true e =
          let below : first (fault number t) 0 (node_count t) < node_count t = ltb-true _ _ e in
          let passes = first_passes (fault number t) 0 (node_count t) (omega arith) in
          let node : first (fault number t) 0 (node_count t) < node_count s = omega (arith, nodes_kept s rs fit.image fit.bytes fit.short) in
          absurd (false≢true (sym (no_fault (first (fault number t) 0 (node_count t)) node number) ∙ passes))

  check_rest : (left number : ℕ) → check_from left number t ≡ Ok tt
  unfolding check_from
  check_rest zero number = refl
  check_rest (suc left) number = rw (none_faulty number) (check_rest left (suc number))

  -- a built image is accepted
  pub built_accepted : check_image t ≡ Ok tt
  unfolding check_image
  built_accepted = rw no_10 (check_rest (numbers_end - 11) 11)
