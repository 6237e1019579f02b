-- What is planned is the image that rows make, where the spans are those of the rows of each node.
-- Lengths go down from the root, sizes follow by layout, places are their sums; the front then says what the image says.
use mathlib.Core.Path.{◌≡◌, refl, sym, ap, ◌∙◌}
use mathlib.Core.Bool.{Bool, true, false, cond, false≢true, ◌||◌}
use mathlib.Core.List.{List, ◌++◌, append_assoc}
use mathlib.Core.Logic.{◌⊎◌, inl, inr}
use Prim.Native.Nat.{ℕ, zero, suc, ◌+◌, ◌*◌, ◌-◌, ◌/◌, ◌%◌, ◌≤◌, ◌<◌}
use native.Mathlib.Nat.{eq-zero-or-pos, add-zero}
use native.Mathlib.Numerals.{add-one}
use native.Mathlib.Omega.{arith}
use lib.ListN.{length, get_or, length-append}
use lib.Dec.{ltb}
use Rattle.image.specs.declared.type_code.Layout.{Layout}
use Rattle.image.specs.declared.type_code.Layout.TheVariants.{Null, Boolean, FixedWidth, VariableSize, View, List as Lists, ListView, FixedList, Struct, DenseUnion, SparseUnion, Dictionary, Runs}
use Rattle.image.specs.declared.type_code.Count.TheVariants.{Exactly}
use Rattle.image.specs.Ranges.{any, sum_to, pieces}
use Rattle.image.specs.Record.{longest_image, node_count, code_of, first_child, child_count, buffer_count}
use Rattle.image.specs.TypeCode.{layout_of, child_rule}
use Rattle.image.specs.Element.{element_width, child_end}
use Rattle.image.specs.Row.{Rows}
use Rattle.image.specs.RowBytes.{count}
use Rattle.image.specs.Parse.{readable_code, readable}
use Rattle.image.specs.Built.{parent_of, column, part_at, part_length, part_start, name_start, record_of, buffer_entry, entries_of, built_image}
use Rattle.answers.specs.declared.BuildRefusal.TheVariants.{TooLong}
use Rattle.std.proofs.Common.{Ok, Err}
use Rattle.answers.specs.Answers.{too_many_rows, image_answer}
use Rattle.laws.specs.Accepted.{AcceptedImage}
use Rattle.built.specs.Typed.{all_rows, is_row}
use Rattle.built.specs.Walk.{total}
use Rattle.built.proofs.Regions.{pieces_length}
use Rattle.built.proofs.Columns.{parent_before, parent_starts, parent_ends, column_root}
use Rattle.built.proofs.TypedColumns.{struct_code, list_code, unreadable, not_view, not_list_view, not_fixed_list, not_dense, not_sparse, not_dictionary, not_runs, coded_at}
use Rattle.built.proofs.Lengths.{PartLengths, null_lengths, boolean_lengths, fixed_lengths, text_lengths, list_lengths, struct_lengths, list_child, struct_child}
use Rattle.built.proofs.Fields.{whole_length}
use Rattle.built.proofs.Accepts.{sum_kept}
use Rattle.rows.specs.Output.{Fits}
use Rattle.std.specs.Prelude.{None, Some}
use Rattle.builder.specs.Plan.{child_rows, Lengths, bitmap_size, first_size, second_size, size_of, part_size, place_of, Places, too_many, plan_answer, built_of}
use Rattle.builder.specs.Front.{length_from, built_flags, built_name, bitmap_from, type_fields, row_fields, table_fields, record_from, entry_from, entries_from, front_from}
use Rattle.builder.proofs.Fronts.{few_buffers}

-- Rows of the type of an accepted image, and the spans of each node's rows.
pub record Scanned (s : List ℕ) (n : ℕ) (rs : Rows) (spans : List ℕ) : Type 0 where
  pub image : AcceptedImage s
  pub coded : readable s ≡ true
  pub typed : all_rows (is_row 16 s 0) rs ≡ true
  pub counted : count rs ≡ n
  pub spanned : (j : ℕ) → j < node_count s → get_or spans j 0 ≡ total (column s rs j)

-- what holds of each layout that can be read holds of a node's
by_layout : (s : List ℕ) (k : ℕ) → readable_code s k ≡ true → (P : Layout → Type 0) → (layout_of (code_of s k) ≡ Null → P Null) → (layout_of (code_of s k) ≡ Boolean → P Boolean)
    → (layout_of (code_of s k) ≡ FixedWidth → P FixedWidth) → (layout_of (code_of s k) ≡ VariableSize → P VariableSize) → (layout_of (code_of s k) ≡ Lists → P Lists) → (layout_of (code_of s k) ≡ Struct → P Struct)
    → P (layout_of (code_of s k))
unfolding readable_code
by_layout s k coded P a b c d e f = cases (layout_of (code_of s k)) refl
  where
    other : (l : Layout) → unreadable l → layout_of (code_of s k) ≡ l → P l
    other l never is = absurd (false≢true (sym (never (code_of s k) is) ∙ coded))

    cases : (l : Layout) → layout_of (code_of s k) ≡ l → P l
    cases Null is = a is
    cases Boolean is = b is
    cases FixedWidth is = c is
    cases VariableSize is = d is
    cases View is = other View not_view is
    cases Lists is = e is
    cases ListView is = other ListView not_list_view is
    cases FixedList is = other FixedList not_fixed_list is
    cases Struct is = f is
    cases DenseUnion is = other DenseUnion not_dense is
    cases SparseUnion is = other SparseUnion not_sparse is
    cases Dictionary is = other Dictionary not_dictionary is
    cases Runs is = other Runs not_runs is

-- tests and pieces that agree over a range
any_kept : (p q : ℕ → Bool) (i n : ℕ) → ((k : ℕ) → i ≤ k → k < i + n → p k ≡ q k) → any p i n ≡ any q i n
unfolding any
any_kept p q i zero same = refl
any_kept p q i (suc n) same = rw (same i (omega arith) (omega arith), any_kept p q (suc i) n (λ k low high. same k (omega arith) (omega arith)))

pieces_kept : (p q : ℕ → List ℕ) (i n : ℕ) → ((k : ℕ) → i ≤ k → k < i + n → p k ≡ q k) → pieces p i n ≡ pieces q i n
unfolding pieces
pieces_kept p q i zero same = refl
pieces_kept p q i (suc n) same = rw (same i (omega arith) (omega arith), pieces_kept p q (suc i) n (λ k low high. same k (omega arith) (omega arith)))

-- a refusal, or so many bytes
either : (long : Bool) (size : ℕ) → cond long (Err TooLong) (Ok size) ≡ built_of (cond long None (Some size))
either true size = refl
either false size = refl

module _ {s : List ℕ} {n : ℕ} {rs : Rows} {spans : List ℕ} (scan : Scanned s n rs spans) where
  coded_node : (k : ℕ) → k < node_count s → readable_code s k ≡ true
  coded_node k node = coded_at s scan.image scan.coded rs k node

  -- The lengths.
  module _ {lengths : List ℕ} (l : Lengths s n spans lengths) where
    -- a child's, from its parent's
    child_length : (p i : ℕ) → p < node_count s → i < child_count s p → get_or lengths p 0 ≡ count (column s rs p) → get_or lengths (first_child s p + i) 0 ≡ count (column s rs (first_child s p + i))
    unfolding child_rows
    child_length p i node few e =
        let childless : child_rule (layout_of (code_of s p)) ≡ Exactly 0 → get_or lengths (first_child s p + i) 0 ≡ count (column s rs (first_child s p + i)) = λ none. absurd (omega (arith, (scan.image.node p node).tree.exactly 0 none)) in
        by_layout s p (coded_node p node) (λ (l : Layout). get_or lengths (first_child s p + i) 0 ≡ count (column s rs (first_child s p + i)))
        (λ is. childless (rw is)) (λ is. childless (rw is)) (λ is. childless (rw is)) (λ is. childless (rw is))
        (λ is.
        let single : child_count s p ≡ 1 = (scan.image.node p node).tree.exactly 1 (rw is) in
        let only : first_child s p + i ≡ first_child s p = omega arith in
        rw (list_code (code_of s p) is) at (l.child p i node few) ∙ scan.spanned p node ∙ sym (rw only (list_child s scan.image scan.coded rs scan.typed p node is)))
        (λ is. rw (struct_code (code_of s p) is) at (l.child p i node few) ∙ e ∙ sym (struct_child s scan.image scan.coded rs scan.typed p node is i few))

    root_length : get_or lengths 0 0 ≡ count (column s rs 0)
    root_length = rw (column_root s rs) (l.root ∙ sym scan.counted)

    lengths_below : (m j : ℕ) → j ≤ m → j < node_count s → get_or lengths j 0 ≡ count (column s rs j)
    unfolding child_end
    lengths_below zero j le lt =
        let e : j ≡ 0 = omega arith in
        rw e root_length
    lengths_below (suc m) j le lt = cases (eq-zero-or-pos j) (λ p small node. lengths_below m p small node)
      where
        cases : (j ≡ 0) ⊎ (0 < j) → ((p : ℕ) → p ≤ m → p < node_count s → get_or lengths p 0 ≡ count (column s rs p)) → get_or lengths j 0 ≡ count (column s rs j)
        cases (inl e) earlier = rw e root_length
        cases (inr some) earlier =
            let before = parent_before s scan.image j lt some in
            let starts = parent_starts s scan.image j lt some in
            let ends = parent_ends s scan.image j lt some in
            let is : first_child s (parent_of s j) + (j - first_child s (parent_of s j)) ≡ j = omega arith in
            let child = child_length (parent_of s j) (j - first_child s (parent_of s j)) (omega arith) (omega arith) (earlier (parent_of s j) (omega arith) (omega arith)) in
            rw is at child

    -- each node's length is the number of its rows
    pub lengths_are : (j : ℕ) → j < node_count s → get_or lengths j 0 ≡ count (column s rs j)
    lengths_are j lt = lengths_below j j (omega arith) lt

    -- The sizes.

    parts_are : (k : ℕ) → k < node_count s
        → PartLengths s rs k (bitmap_size (layout_of (code_of s k)) (count (column s rs k))) (first_size (layout_of (code_of s k)) (element_width s k) (count (column s rs k))) (second_size (layout_of (code_of s k)) (total (column s rs k)))
    unfolding bitmap_size
    parts_are k node =
        by_layout s k (coded_node k node) (λ (l : Layout). PartLengths s rs k (bitmap_size l (count (column s rs k))) (first_size l (element_width s k) (count (column s rs k))) (second_size l (total (column s rs k))))
        (null_lengths s rs k)
        (boolean_lengths s rs k)
        (fixed_lengths s scan.image scan.coded rs scan.typed k node)
        (λ is. rw (add-one (count (column s rs k))) (text_lengths s scan.image scan.coded rs scan.typed k node is))
        (λ is. rw (add-one (count (column s rs k))) (list_lengths s rs k is))
        (struct_lengths s rs k)

    part_is : (k i : ℕ) → k < node_count s → i < 3 → size_of (layout_of (code_of s k)) (element_width s k) (count (column s rs k)) (total (column s rs k)) i ≡ part_length s rs (3 * k + i)
    unfolding size_of
    part_is k zero node lt = rw (add-zero (3 * k)) (sym (parts_are k node).bitmap)
    part_is k (suc zero) node lt = sym (parts_are k node).first
    part_is k (suc (suc zero)) node lt = sym (parts_are k node).second
    part_is k (suc (suc (suc i))) node lt = absurd (omega arith)

    -- each part has the planned size
    pub sizes_are : (q : ℕ) → q < 3 * node_count s → part_size s lengths spans q ≡ part_length s rs q
    unfolding part_size
    sizes_are q lt =
        let node : q / 3 < node_count s = omega arith in
        let e : 3 * (q / 3) + q % 3 ≡ q = omega arith in
        rw (lengths_are (q / 3) node, scan.spanned (q / 3) node) (part_is (q / 3) (q % 3) node (omega arith) ∙ ap (part_length s rs) e)

    -- The places.

    -- each part stands where it is planned
    pub place_is : (q : ℕ) → q ≤ 3 * node_count s → place_of s lengths spans q ≡ part_start s rs q
    unfolding place_of part_start
    place_is q le = ap (λ (m : ℕ). name_start s (node_count s) + m) (sum_kept (part_size s lengths spans) (part_length s rs) q (λ i lt. sizes_are i (omega arith)))

    -- the image has the planned size
    pub size_is : place_of s lengths spans (3 * node_count s) ≡ length (built_image s rs)
    size_is = place_is (3 * node_count s) (omega arith) ∙ sym (whole_length s rs scan.image)

    -- The answer.

    many_is : (k : ℕ) → k < node_count s → too_many_rows s rs k ≡ too_many lengths k
    unfolding too_many_rows too_many
    many_is k node = rw (lengths_are k node)

    -- the plan's answer is that of the call
    pub answer_is : (out : List ℕ) → image_answer s rs out ≡ built_of (plan_answer s lengths spans (length out))
    unfolding image_answer plan_answer
    answer_is out =
        rw (← size_is, any_kept (too_many_rows s rs) (too_many lengths) 0 (node_count s) (λ k low high. many_is k (omega arith)))
        (either (ltb (length out) (place_of s lengths spans (3 * node_count s)) || ltb longest_image (place_of s lengths spans (3 * node_count s)) || any (too_many lengths) 0 (node_count s)) (place_of s lengths spans (3 * node_count s)))

    -- What stands before the parts.
    module _ {places : List ℕ} (t : Places s lengths spans places) where
      pub places_are : (q : ℕ) → q ≤ 3 * node_count s → get_or places q 0 ≡ part_start s rs q
      places_are q le = t.place q le ∙ place_is q le

      -- the last place is the image's end
      pub end_is : get_or places (3 * node_count s) 0 ≡ length (built_image s rs)
      end_is = t.place (3 * node_count s) (omega arith) ∙ size_is

      length_is : (q : ℕ) → q < 3 * node_count s → length_from places q ≡ part_length s rs q
      unfolding length_from part_start sum_to
      length_is q lt = omega (arith, places_are q (omega arith), places_are (suc q) lt)

      record_is : (k : ℕ) → k < node_count s → record_from s lengths places k ≡ record_of s rs k
      unfolding record_from record_of type_fields row_fields table_fields built_flags built_name bitmap_from
      record_is k node =
          rw (lengths_are k node, places_are (3 * k) (omega arith), length_is (3 * k) (omega arith)) (simp append_assoc)

      entry_is : (q : ℕ) → q < 3 * node_count s → entry_from places q ≡ buffer_entry s rs q
      unfolding entry_from buffer_entry
      entry_is q lt = rw (places_are q (omega arith), length_is q lt)

      entries_are : (k : ℕ) → k < node_count s → entries_from s places k ≡ entries_of s rs k
      unfolding entries_from entries_of
      entries_are k node =
          let few = few_buffers s scan.image scan.coded k node in
          pieces_kept (entry_from places) (buffer_entry s rs) (3 * k + 1) (buffer_count s k) (λ q low high. entry_is q (omega arith))

      -- the front and the parts are the image
      pub front_is : front_from s lengths places ++ pieces (part_at s rs) 0 (3 * node_count s) ≡ built_image s rs
      unfolding front_from built_image
      front_is =
          rw (
            pieces_kept (record_from s lengths places) (record_of s rs) 0 (node_count s) (λ k low high. record_is k (omega arith)),
            pieces_kept (entries_from s places) (entries_of s rs) 0 (node_count s) (λ k low high. entries_are k (omega arith)),
          )
          (simp append_assoc)

      -- the parts stand directly behind the front
      pub front_length : length (front_from s lengths places) ≡ name_start s (node_count s)
      unfolding part_start part_length
      front_length =
          let whole : length (front_from s lengths places ++ pieces (part_at s rs) 0 (3 * node_count s)) ≡ length (built_image s rs) = ap length front_is in
          omega (arith, whole, length-append (front_from s lengths places) (pieces (part_at s rs) 0 (3 * node_count s)), pieces_length (part_at s rs) (part_length s rs) (λ q. refl) (3 * node_count s), whole_length s rs scan.image)

      -- and fits where the image does
      pub front_fits : {out : List ℕ} → length (built_image s rs) ≤ length out → Fits out 0 (front_from s lengths places)
      front_fits fits =
          let whole : length (front_from s lengths places ++ pieces (part_at s rs) 0 (3 * node_count s)) ≡ length (built_image s rs) = ap length front_is in
          record { within = omega (arith, whole, fits, length-append (front_from s lengths places) (pieces (part_at s rs) 0 (3 * node_count s))) }
