-- How many rows the children of a node have, and how long its parts are, as numbers of its rows: no bound on the built image
-- is needed. What each row gives a child, or puts into a part, adds up to the whole.
use mathlib.Core.Path.{◌≡◌, refl, sym, ◌∙◌}
use mathlib.Core.Bool.{Bool, true, false, cond, false≢true}
use mathlib.Core.List.{List, []}
use Prim.Native.Nat.{ℕ, suc, ◌+◌, ◌*◌, ◌/◌, ◌%◌, ◌≤◌, ◌<◌}
use native.Mathlib.Nat.{add-zero}
use native.Mathlib.Omega.{arith}
use lib.ListN.{length, get_or, length-replicate}
use borrow.Author.Tests.{eqb-true}
use Rattle.image.specs.declared.type_code.Layout.{Layout}
use Rattle.image.specs.declared.type_code.Layout.TheVariants.{Null, Boolean, FixedWidth, VariableSize, List as Lists, Struct}
use Rattle.image.specs.Record.{node_count, code_of, first_child, child_count}
use Rattle.image.specs.TypeCode.{layout_of, takes_bitmap}
use Rattle.image.specs.Element.{element_width}
use Rattle.image.specs.Row.{Row, Rows, null, fixed, sized, joined, counted, tagged, none, more, one}
use Rattle.image.specs.RowBytes.{count}
use Rattle.image.specs.Parse.{readable}
use Rattle.image.specs.Built.{nth, from_each, gap_row, rows_to_child, under_null, column, each_number, valid_bit, value_bit, value_bytes, text_bytes, span, pack_bits, bitmap_of, buffers_of, parts_of, node_part, part_at, part_length}
use Rattle.laws.specs.Accepted.{AcceptedImage}
use Rattle.built.specs.Typed.{all_rows, is_value, is_marked, is_row}
use Rattle.built.specs.Walk.{total}
use Rattle.built.proofs.Bits.{pack_length, each_length}
use Rattle.built.proofs.Offsets.{sum_over, offsets_length, bytes_length}
use Rattle.built.proofs.Columns.{column_child, from_count, sum_same, sum_even}
use Rattle.built.proofs.TypedColumns.{all_at, struct_code, list_code, node_typed}

-- the sum of the spans of all rows
pub total_sum : (rs : Rows) → total rs ≡ sum_over span rs (count rs)
unfolding total sum_over count
total_sum none = refl
total_sum (more r rs) = rw (total_sum rs)

-- What rows of a layout have.

module _ (sub : ℕ → Row → Bool) (s : List ℕ) (k : ℕ) where
  pub width_even : (r : Row) → is_marked true (is_value FixedWidth sub s k) r ≡ true → length (value_bytes (element_width s k) r) ≡ element_width s k
  width_even null e = length-replicate (element_width s k) 0
  width_even (fixed b) e = eqb-true _ _ e
  width_even (sized b) e = absurd (false≢true e)
  width_even (joined qs) e = absurd (false≢true e)
  width_even (counted qs) e = absurd (false≢true e)
  width_even (tagged id r) e = absurd (false≢true e)

  pub text_span : (r : Row) → is_marked true (is_value VariableSize sub s k) r ≡ true → span r ≡ length (text_bytes r)
  text_span null e = refl
  text_span (fixed b) e = refl
  text_span (sized b) e = refl
  text_span (joined qs) e = refl
  text_span (counted qs) e = absurd (false≢true e)
  text_span (tagged id r) e = refl

  list_span : (r : Row) → is_marked true (is_value Lists sub s k) r ≡ true → count (rows_to_child none 0 r) ≡ span r
  unfolding count
  list_span null e = refl
  list_span (fixed b) e = refl
  list_span (sized b) e = absurd (false≢true e)
  list_span (joined qs) e = absurd (false≢true e)
  list_span (counted qs) e = refl
  list_span (tagged id r) e = refl

  struct_one : (under : Row) (i : ℕ) (r : Row) → is_marked true (is_value Struct sub s k) r ≡ true → count (rows_to_child (one under) i r) ≡ 1
  unfolding count
  struct_one under i null e = refl
  struct_one under i (fixed b) e = absurd (false≢true e)
  struct_one under i (sized b) e = absurd (false≢true e)
  struct_one under i (joined qs) e = refl
  struct_one under i (counted qs) e = absurd (false≢true e)
  struct_one under i (tagged id r) e = absurd (false≢true e)

-- what stands under a null list and under a null Struct
list_under : (s : List ℕ) (p c : ℕ) → layout_of (code_of s p) ≡ Lists → under_null s p c ≡ none
unfolding under_null
list_under s p c l = rw (list_code (code_of s p) l)

struct_under : (s : List ℕ) (p c : ℕ) → layout_of (code_of s p) ≡ Struct → under_null s p c ≡ one (gap_row s c)
unfolding under_null
struct_under s p c l = rw (struct_code (code_of s p) l)

-- The rows of the children of a node.

module _ (s : List ℕ) (image : AcceptedImage s) (rs : Rows) (d k : ℕ) (node : k < node_count s) (typed : all_rows (is_row (suc d) s k) (column s rs k) ≡ true) where
  pub row_typed : (l : Layout) → layout_of (code_of s k) ≡ l → (i : ℕ) → i < count (column s rs k) → is_marked (takes_bitmap l) (is_value l (is_row d s) s k) (nth (column s rs k) i) ≡ true
  unfolding is_row
  row_typed l e i lt = rw e at (all_at (is_row (suc d) s k) (column s rs k) typed i lt)

  -- the only child of a list, and what row j of the list gives it
  module _ (l : layout_of (code_of s k) ≡ Lists) where
    pub single : 0 < child_count s k
    single = omega (arith, (image.node k node).tree.exactly 1 (rw l))

    pub list_column_lem : column s rs (first_child s k + 0) ≡ from_each (rows_to_child none 0) (column s rs k)
    list_column_lem = rw (list_under s k (first_child s k + 0) l) at (column_child s image rs k 0 node single)

    pub list_sum : (j : ℕ) → sum_over (λ r. count (rows_to_child none 0 r)) (column s rs k) j ≡ sum_over span (column s rs k) j
    list_sum j = sum_same (λ r. count (rows_to_child none 0 r)) span (column s rs k) j (λ i few. list_span (is_row d s) s k (nth (column s rs k) i) (row_typed Lists l i few))

    pub list_total : count (column s rs (first_child s k + 0)) ≡ sum_over span (column s rs k) (count (column s rs k))
    list_total = rw list_column_lem (from_count (rows_to_child none 0) (column s rs k) ∙ list_sum (count (column s rs k)))

  -- a child of a Struct, and what row j of the Struct gives it
  module _ (l : layout_of (code_of s k) ≡ Struct) (i : ℕ) (few : i < child_count s k) where
    pub struct_column_lem : column s rs (first_child s k + i) ≡ from_each (rows_to_child (one (gap_row s (first_child s k + i))) i) (column s rs k)
    struct_column_lem = rw (struct_under s k (first_child s k + i) l) at (column_child s image rs k i node few)

    pub struct_sum : (j : ℕ) → j ≤ count (column s rs k) → sum_over (λ r. count (rows_to_child (one (gap_row s (first_child s k + i))) i r)) (column s rs k) j ≡ j
    struct_sum j le =
        sum_even (λ r. count (rows_to_child (one (gap_row s (first_child s k + i))) i r)) 1 (column s rs k) j (λ m lt. struct_one (is_row d s) s k (gap_row s (first_child s k + i)) i (nth (column s rs k) m) (row_typed Struct l m lt)) le
        ∙ omega arith

    pub struct_total : count (column s rs (first_child s k + i)) ≡ count (column s rs k)
    struct_total = rw struct_column_lem (from_count (rows_to_child (one (gap_row s (first_child s k + i))) i) (column s rs k) ∙ struct_sum (count (column s rs k)) (omega arith))

-- The parts of a node.

-- part i of node k
pub node_part_lem : (s : List ℕ) (rs : Rows) (k i : ℕ) → i < 3 → part_at s rs (3 * k + i) ≡ node_part s k (column s rs k) i
unfolding part_at
node_part_lem s rs k i few =
    let node : (3 * k + i) / 3 ≡ k = omega arith in
    let part : (3 * k + i) % 3 ≡ i = omega arith in
    rw (node, part)

pub part_bitmap : (s : List ℕ) (rs : Rows) (k : ℕ) → part_at s rs (3 * k) ≡ bitmap_of (layout_of (code_of s k)) (column s rs k)
unfolding node_part parts_of
part_bitmap s rs k = rw (add-zero (3 * k)) at (node_part_lem s rs k 0 (omega arith))

pub part_buffer : (s : List ℕ) (rs : Rows) (k j : ℕ) → j < 2 → part_at s rs (3 * k + 1 + j) ≡ get_or (buffers_of (layout_of (code_of s k)) (element_width s k) (column s rs k)) j []
unfolding node_part parts_of
part_buffer s rs k j few =
    let q : 3 * k + 1 + j ≡ 3 * k + suc j = omega arith in
    rw q (node_part_lem s rs k (suc j) (omega arith))

-- How long the three parts of node k are.
pub record PartLengths (s : List ℕ) (rs : Rows) (k a b c : ℕ) : Type 0 where
  pub bitmap : part_length s rs (3 * k) ≡ a
  pub first : part_length s rs (3 * k + 1) ≡ b
  pub second : part_length s rs (3 * k + 2) ≡ c

bits_length : (f : Row → ℕ) (rs : Rows) → length (pack_bits (each_number f rs)) ≡ (count rs + 7) / 8
bits_length f rs = rw (← each_length f rs) (pack_length (each_number f rs))

module _ (s : List ℕ) (rs : Rows) (k : ℕ) where
  -- where the layout is known
  pub bitmap_length_lem : (l : Layout) → layout_of (code_of s k) ≡ l → part_length s rs (3 * k) ≡ cond (takes_bitmap l) ((count (column s rs k) + 7) / 8) 0
  unfolding part_length bitmap_of
  bitmap_length_lem l e = rw (part_bitmap s rs k, e) (cases (takes_bitmap l))
    where
      cases : (b : Bool) → length (cond b (pack_bits (each_number valid_bit (column s rs k))) []) ≡ cond b ((count (column s rs k) + 7) / 8) 0
      cases true = bits_length valid_bit (column s rs k)
      cases false = refl

  first_length : (l : Layout) → layout_of (code_of s k) ≡ l → part_length s rs (3 * k + 1) ≡ length (get_or (buffers_of l (element_width s k) (column s rs k)) 0 [])
  unfolding part_length
  first_length l e =
      let q : 3 * k + 1 ≡ 3 * k + 1 + 0 = omega arith in
      rw (q, part_buffer s rs k 0 (omega arith), e)

  second_length : (l : Layout) → layout_of (code_of s k) ≡ l → part_length s rs (3 * k + 2) ≡ length (get_or (buffers_of l (element_width s k) (column s rs k)) 1 [])
  unfolding part_length
  second_length l e =
      let q : 3 * k + 2 ≡ 3 * k + 1 + 1 = omega arith in
      rw (q, part_buffer s rs k 1 (omega arith), e)

  lengths : (l : Layout) → layout_of (code_of s k) ≡ l → (b c : ℕ) → length (get_or (buffers_of l (element_width s k) (column s rs k)) 0 []) ≡ b → length (get_or (buffers_of l (element_width s k) (column s rs k)) 1 []) ≡ c
      → PartLengths s rs k (cond (takes_bitmap l) ((count (column s rs k) + 7) / 8) 0) b c
  lengths l e b c first second = record { bitmap = bitmap_length_lem l e; first = first_length l e ∙ first; second = second_length l e ∙ second }

  pub null_lengths : layout_of (code_of s k) ≡ Null → PartLengths s rs k 0 0 0
  null_lengths e = lengths Null e 0 0 refl refl

  pub boolean_lengths : layout_of (code_of s k) ≡ Boolean → PartLengths s rs k ((count (column s rs k) + 7) / 8) ((count (column s rs k) + 7) / 8) 0
  boolean_lengths e = lengths Boolean e _ 0 (bits_length value_bit (column s rs k)) refl

  pub list_lengths : layout_of (code_of s k) ≡ Lists → PartLengths s rs k ((count (column s rs k) + 7) / 8) (suc (count (column s rs k)) * element_width s k) 0
  list_lengths e = lengths Lists e _ 0 (offsets_length (element_width s k) 0 (column s rs k)) refl

  pub struct_lengths : layout_of (code_of s k) ≡ Struct → PartLengths s rs k ((count (column s rs k) + 7) / 8) 0 0
  struct_lengths e = lengths Struct e 0 0 refl refl

-- Of every node, where the rows of the root are rows of its type.
module _ (s : List ℕ) (image : AcceptedImage s) (coded : readable s ≡ true) (rs : Rows) (root : all_rows (is_row 16 s 0) rs ≡ true) (k : ℕ) (node : k < node_count s) where
  pub list_child : layout_of (code_of s k) ≡ Lists → count (column s rs (first_child s k)) ≡ total (column s rs k)
  list_child l =
      let t = node_typed s image coded rs root k node in
      rw (add-zero (first_child s k)) at (list_total s image rs t.left k node t.typed l) ∙ sym (total_sum (column s rs k))

  pub struct_child : layout_of (code_of s k) ≡ Struct → (i : ℕ) → i < child_count s k → count (column s rs (first_child s k + i)) ≡ count (column s rs k)
  struct_child l i few =
      let t = node_typed s image coded rs root k node in
      struct_total s image rs t.left k node t.typed l i few

  pub fixed_lengths : layout_of (code_of s k) ≡ FixedWidth → PartLengths s rs k ((count (column s rs k) + 7) / 8) (count (column s rs k) * element_width s k) 0
  fixed_lengths l =
      let t = node_typed s image coded rs root k node in
      lengths s rs k FixedWidth l _ 0
      (bytes_length (value_bytes (element_width s k)) (column s rs k)
      ∙ sum_even (λ r. length (value_bytes (element_width s k) r)) (element_width s k) (column s rs k) (count (column s rs k))
      (λ i few. width_even (is_row t.left s) s k (nth (column s rs k) i) (row_typed s image rs t.left k node t.typed FixedWidth l i few)) (omega arith))
      refl

  pub text_lengths : layout_of (code_of s k) ≡ VariableSize → PartLengths s rs k ((count (column s rs k) + 7) / 8) (suc (count (column s rs k)) * element_width s k) (total (column s rs k))
  text_lengths l =
      let t = node_typed s image coded rs root k node in
      lengths s rs k VariableSize l _ _ (offsets_length (element_width s k) 0 (column s rs k))
      (bytes_length text_bytes (column s rs k)
      ∙ sym (sum_same span (λ r. length (text_bytes r)) (column s rs k) (count (column s rs k))
      (λ i few. text_span (is_row t.left s) s k (nth (column s rs k) i) (row_typed s image rs t.left k node t.typed VariableSize l i few)))
      ∙ sym (total_sum (column s rs k)))
