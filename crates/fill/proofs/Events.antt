-- A row that a node gets, by its layout: what the steps of the code ask for, and that the node then holds the row.
-- Each step puts bytes into one part; a part that is not touched is as if no bytes were put.
use mathlib.Core.Path.{◌≡◌, refl, sym, ap, ◌∙◌}
use mathlib.Core.Bool.{Bool, true, false, cond, false≢true}
use mathlib.Core.List.{List, [], ◌∷◌}
use Prim.Native.Nat.{ℕ, suc, ◌+◌, ◌*◌, ◌/◌, ◌%◌, ◌≤◌, ◌<◌, ◌^◌}
use native.Mathlib.Nat.{add-zero, suc-mul, add-mul, one-mul}
use native.Mathlib.Omega.{arith}
use lib.ListN.{length, get_or, set, length-replicate}
use Rattle.image.specs.declared.type_code.Layout.{Layout}
use Rattle.image.specs.declared.type_code.Layout.TheVariants.{Null, Boolean, FixedWidth, VariableSize, View, List as Lists, ListView, FixedList, Struct, DenseUnion, SparseUnion, Dictionary, Runs}
use Rattle.image.specs.Bytes.{byte_at, number_bytes}
use Rattle.image.specs.Record.{code_of}
use Rattle.image.specs.TypeCode.{layout_of, takes_bitmap}
use Rattle.image.specs.Element.{element_width}
use Rattle.image.specs.Row.{Row, Rows, null, fixed, sized, joined, counted}
use Rattle.image.specs.Built.{span, valid_bit, gap_row, bitmap_of, offsets_from, node_part}
use Rattle.laws.proofs.Accepted.{accepted}
use Rattle.laws.proofs.Lengths.{number_length}
use Rattle.rows.specs.Output.{over}
use Rattle.rows.proofs.Over.{over_none, over_length}
use Rattle.built.specs.Walk.{own}
use Rattle.fill.specs.declared.put.Spot.{Spot}
use Rattle.fill.specs.Filling.{State, filling, part_len, Getting, Filled, StructFilled, ListFilled, has_offsets, spot_of}
use Rattle.fill.proofs.Bytes.{over_behind}
use Rattle.fill.proofs.Parts.{Grows, Shaped, row_put, part_inside, part_near}
use Rattle.fill.proofs.Grow.{part_of, grow_none, grow_null, grow_valid, bitmap_free, grow_false, grow_true, boolean_free, grow_value, grow_zero, grow_offset, grow_text}

-- rows of each kind have bytes of the length that their layout gives
null_shaped : (s : List ℕ) (k : ℕ) → Shaped s k null
null_shaped s k = record { even = λ e. length-replicate {A = ℕ} (element_width s k) 0; text = λ e. refl; bit = λ e. omega arith }

empty_shaped : (s : List ℕ) (k : ℕ) → takes_bitmap (layout_of (code_of s k)) ≡ false → Shaped s k (fixed [])
empty_shaped s k blank =
    record {
      even = λ e. absurd (false≢true (sym blank ∙ rw e));
      text = λ e. refl;
      bit = λ e. omega arith;
    }

struct_not_fixed : Struct ≡ FixedWidth → ⊥
struct_not_fixed e =
    let z : ◌≡◌ {A = ℕ} 0 1 = cc in
    omega arith

boolean_not_fixed : Boolean ≡ FixedWidth → ⊥
boolean_not_fixed e =
    let z : ◌≡◌ {A = ℕ} 0 1 = cc in
    omega arith

text_not_fixed : VariableSize ≡ FixedWidth → ⊥
text_not_fixed e =
    let z : ◌≡◌ {A = ℕ} 0 1 = cc in
    omega arith

list_not_fixed : Lists ≡ FixedWidth → ⊥
list_not_fixed e =
    let z : ◌≡◌ {A = ℕ} 0 1 = cc in
    omega arith

list_not_text : Lists ≡ VariableSize → ⊥
list_not_text e =
    let z : ◌≡◌ {A = ℕ} 0 1 = cc in
    omega arith

module _ {s places : List ℕ} {f : State} {k x : ℕ} (g : Getting s places f k x) where
  pub node_small : k < 256
  node_small = omega (arith, g.node, (accepted s g.ready.accepted).tables.few_nodes)

  inside : (i : ℕ) → i < 3 → get_or places (3 * k + i) 0 + part_len places (3 * k + i) ≤ length f.out
  inside i few = part_inside g.ready (3 * k + i) (omega (arith, g.node))

  module _ {spot : Spot} (is : spot ≡ spot_of places f.rows f.spans k) where
    row_is : spot.row ≡ get_or f.rows k 0
    row_is = ap (λ (p : Spot). p.row) is

    span_is : spot.span ≡ get_or f.spans k 0
    span_is = ap (λ (p : Spot). p.span) is

    bitmap_is : spot.bitmap ≡ get_or places (3 * k + 0) 0
    bitmap_is = ap (λ (p : Spot). p.bitmap) is

    first_is : spot.first ≡ get_or places (3 * k + 1) 0
    first_is = ap (λ (p : Spot). p.first) is

    second_is : spot.second ≡ get_or places (3 * k + 2) 0
    second_is = ap (λ (p : Spot). p.second) is

    pub row_few : spot.row + 1 ≤ 1073741824
    row_few = omega (arith, row_is, g.room.few)

    pub bit_requires : takes_bitmap (layout_of (code_of s k)) ≡ true → (spot.bitmap + spot.row / 8 < length f.out) × (byte_at f.out (spot.bitmap + spot.row / 8) < 2 ^ (spot.row % 8))
    bit_requires takes =
        let held = g.ready.held k g.node in
        let room = g.room.bitmap takes in
        let low : get_or places (3 * k + 0) 0 + get_or f.rows k 0 / 8 < length f.out = omega (arith, inside 0 (omega arith)) in
        rw (bitmap_is, row_is) (low, bitmap_free s places f k null (layout_of (code_of s k)) refl takes room held.rows held.holds)

    pub count_requires : (spot.row < 2 ^ 40) × (k < 256)
    count_requires = (omega (arith, row_few), node_small)

    -- the buffer and the numbers afterwards
    as_put : (r : Row) {out rows spans all : List ℕ} {end : ℕ} → Filled s places (own r k) f (filling all (set f.rows k (get_or f.rows k 0 + 1)) (set f.spans k (get_or f.spans k 0 + span r)))
        → out ≡ all → end ≡ get_or f.spans k 0 + span r → (rows ≡ set f.rows k (spot.row + 1)) × (spans ≡ set f.spans k end) → Filled s places (own r k) f (filling out rows spans)
    as_put r t a b c = rw (a, c.0, c.1, b, row_is) t

    -- a bit set in the bitmap
    abbrev marked : List ℕ
    marked = over f.out (spot.bitmap + spot.row / 8) ((byte_at f.out (spot.bitmap + spot.row / 8) + 2 ^ (spot.row % 8)) ∷ [])

    -- the bit in the bitmap, for a row that is not null
    module _ (r : Row) (v : valid_bit r ≡ 1) (takes : takes_bitmap (layout_of (code_of s k)) ≡ true) where
      bit_grows : Grows s places f k r 0 (get_or f.rows k 0 / 8) ((byte_at f.out (get_or places (3 * k + 0) 0 + get_or f.rows k 0 / 8) + 2 ^ (get_or f.rows k 0 % 8)) ∷ [])
      bit_grows = grow_valid s places f k r (layout_of (code_of s k)) refl takes (g.room.bitmap takes) v

    pub struct_filled : layout_of (code_of s k) ≡ Struct → (length f.rows ≡ 256) × (length f.spans ≡ 256) → {out rows spans : List ℕ} → out ≡ marked → (rows ≡ set f.rows k (spot.row + 1)) × (spans ≡ set f.spans k spot.span) → StructFilled s places k f (filling out rows spans)
    struct_filled e lengths put counts =
        record {
          by = λ qs.
              let shaped : Shaped s k (joined qs) = record { even = λ l. absurd (struct_not_fixed (sym e ∙ l)); text = λ l. refl; bit = λ l. omega arith } in
              let all = row_put g.ready lengths k g.node (joined qs) shaped _ _ (bit_grows (joined qs) refl (rw e)) 0 [] (grow_none s places f k (joined qs) {i = 1} (λ rs. part_of s k Struct e rs 1)) 0 [] (grow_none s places f k (joined qs) {i = 2} (λ rs. part_of s k Struct e rs 2)) in
              as_put (joined qs) all (put ∙ rw (bitmap_is, row_is) (sym (over_none _ _) ∙ sym (over_none _ _))) (span_is ∙ omega arith) counts;
        }

    -- once the bit is set, the buffer is as long as it was
    marked_long : takes_bitmap (layout_of (code_of s k)) ≡ true → length marked ≡ length f.out
    marked_long takes = over_length f.out (spot.bitmap + spot.row / 8) _ (omega (arith, (bit_requires takes).0))

    -- Booleans: where the value is 0, its bit stays; where it is 1, it is set behind the bitmap's.
    module _ (e : layout_of (code_of s k) ≡ Boolean) where
      bit_shaped : (v : ℕ) → v ≤ 1 → Shaped s k (fixed (v ∷ []))
      bit_shaped v le = record { even = λ l. absurd (boolean_not_fixed (sym e ∙ l)); text = λ l. refl; bit = λ l. le }

      pub false_filled : (length f.rows ≡ 256) × (length f.spans ≡ 256) → {out rows spans : List ℕ} → out ≡ marked → (rows ≡ set f.rows k (spot.row + 1)) × (spans ≡ set f.spans k spot.span) → Filled s places (own (fixed (0 ∷ [])) k) f (filling out rows spans)
      false_filled lengths put counts =
          let all = row_put g.ready lengths k g.node (fixed (0 ∷ [])) (bit_shaped 0 (omega arith)) _ _ (bit_grows (fixed (0 ∷ [])) refl (rw e)) 0 [] (grow_false s places f k (fixed (0 ∷ [])) e (g.room.bits e) refl) 0 [] (grow_none s places f k (fixed (0 ∷ [])) {i = 2} (λ rs. part_of s k Boolean e rs 2)) in
          as_put (fixed (0 ∷ [])) all (put ∙ rw (bitmap_is, row_is) (sym (over_none _ _) ∙ sym (over_none _ _))) (span_is ∙ omega arith) counts

      marked_fits : get_or places (3 * k + 0) 0 + get_or f.rows k 0 / 8 + 1 ≤ length f.out
      marked_fits =
          let takes : takes_bitmap (layout_of (code_of s k)) ≡ true = rw e in
          omega (arith, g.room.bitmap takes, inside 0 (omega arith))

      -- the byte of the value's bit is not touched by the bitmap's
      byte_kept : byte_at marked (spot.first + spot.row / 8) ≡ byte_at f.out (get_or places (3 * k + 1) 0 + get_or f.rows k 0 / 8)
      byte_kept =
          let takes : takes_bitmap (layout_of (code_of s k)) ≡ true = rw e in
          let behind : get_or places (3 * k + 0) 0 + get_or f.rows k 0 / 8 + 1 ≤ get_or places (3 * k + 1) 0 + get_or f.rows k 0 / 8 = omega (arith, g.room.bitmap takes, rises) in
          rw (bitmap_is, row_is, first_is) (over_behind f.out (get_or places (3 * k + 0) 0 + get_or f.rows k 0 / 8) _ marked_fits _ behind)
        where
          rises : get_or places (suc (3 * k + 0)) 0 ≡ get_or places (3 * k + 1) 0
          rises =
              let e : suc (3 * k + 0) ≡ 3 * k + 1 = omega arith in
              rw e

      pub value_requires : {out : List ℕ} → out ≡ marked → (spot.first + spot.row / 8 < length out) × (byte_at out (spot.first + spot.row / 8) < 2 ^ (spot.row % 8))
      value_requires put =
          let held = g.ready.held k g.node in
          let long : length marked ≡ length f.out = marked_long (rw e) in
          let low : spot.first + spot.row / 8 < length f.out = omega (arith, first_is, row_is, g.room.bits e, inside 1 (omega arith)) in
          let free = boolean_free s places f k null e (g.room.bits e) held.rows held.holds in
          rw put (omega (arith, low, long), rw (byte_kept, row_is) free)

      pub true_filled : (length f.rows ≡ 256) × (length f.spans ≡ 256) → {mid out rows spans : List ℕ} → mid ≡ marked → out ≡ over mid (spot.first + spot.row / 8) ((byte_at mid (spot.first + spot.row / 8) + 2 ^ (spot.row % 8)) ∷ [])
          → (rows ≡ set f.rows k (spot.row + 1)) × (spans ≡ set f.spans k spot.span) → Filled s places (own (fixed (1 ∷ [])) k) f (filling out rows spans)
      true_filled lengths {mid} {out} put set-too counts =
          let all = row_put g.ready lengths k g.node (fixed (1 ∷ [])) (bit_shaped 1 (omega arith)) _ _ (bit_grows (fixed (1 ∷ [])) refl (rw e)) _ _ (grow_true s places f k (fixed (1 ∷ [])) e (g.room.bits e) refl) 0 [] (grow_none s places f k (fixed (1 ∷ [])) {i = 2} (λ rs. part_of s k Boolean e rs 2)) in
          let byte : byte_at mid (spot.first + spot.row / 8) ≡ byte_at f.out (get_or places (3 * k + 1) 0 + get_or f.rows k 0 / 8) = ap (λ (y : List ℕ). byte_at y (spot.first + spot.row / 8)) put ∙ byte_kept in
          as_put (fixed (1 ∷ [])) all (set-too ∙ rw (byte, put, bitmap_is, row_is, first_is) (sym (over_none _ _))) (span_is ∙ omega arith) counts

    -- Fixed widths.
    module _ (e : layout_of (code_of s k) ≡ FixedWidth) {w : ℕ} (wide : w ≡ element_width s k) where
      pub value_place : spot.first + spot.row * w + w ≤ length f.out
      value_place =
          let room = g.room.values e in
          rw (first_is, row_is, wide) (omega (arith, add-mul (get_or f.rows k 0) 1 (element_width s k), one-mul (element_width s k), inside 1 (omega arith)))

      pub value_near : spot.first + spot.row * w ≤ 16777216
      value_near =
          let room = g.room.values e in
          rw (first_is, row_is, wide) (omega (arith, add-mul (get_or f.rows k 0) 1 (element_width s k), one-mul (element_width s k), part_near g.ready (3 * k + 1) (omega (arith, g.node))))

      pub value_inside : {mid : List ℕ} → mid ≡ marked → spot.first + spot.row * w + w ≤ length mid
      value_inside put = rw (put, marked_long (rw e)) value_place

      pub fixed_filled : (length f.rows ≡ 256) × (length f.spans ≡ 256) → (y : List ℕ) → length y ≡ w → {mid out rows spans : List ℕ} → mid ≡ marked → out ≡ over mid (spot.first + spot.row * w) y
          → (rows ≡ set f.rows k (spot.row + 1)) × (spans ≡ set f.spans k spot.span) → Filled s places (own (fixed y) k) f (filling out rows spans)
      fixed_filled lengths y long put put-too counts =
          let shaped : Shaped s k (fixed y) = record { even = λ l. long ∙ wide; text = λ l. refl; bit = λ l. absurd (boolean_not_fixed (sym l ∙ e)) } in
          let all = row_put g.ready lengths k g.node (fixed y) shaped _ _ (bit_grows (fixed y) refl (rw e)) _ _ (grow_value s places f k (fixed y) e (g.room.values e) y (long ∙ wide) refl) 0 [] (grow_none s places f k (fixed y) {i = 2} (λ rs. part_of s k FixedWidth e rs 2)) in
          as_put (fixed y) all (put-too ∙ rw (put, bitmap_is, row_is, first_is, wide) (sym (over_none _ _))) (span_is ∙ omega arith) counts

    -- Offsets: the end of the row.
    module _ (room : suc (get_or f.rows k 0 + 1) * element_width s k ≤ part_len places (3 * k + 1)) where
      pub end_place : spot.first + (spot.row + 1) * element_width s k + element_width s k ≤ length f.out
      end_place = rw (first_is, row_is) (omega (arith, suc-mul (get_or f.rows k 0 + 1) (element_width s k), inside 1 (omega arith)))

    -- Texts.
    module _ (e : layout_of (code_of s k) ≡ VariableSize) where
      offsets_are : (rs : Rows) → node_part s k rs 1 ≡ offsets_from (element_width s k) 0 rs
      offsets_are rs = part_of s k VariableSize e rs 1

      pub text_place : spot.second + spot.span + x ≤ length f.out
      text_place = rw (second_is, span_is) (omega (arith, g.room.text e, inside 2 (omega arith)))

      pub text_near : (spot.second + spot.span ≤ 16777216) × (spot.span + x ≤ 16777216)
      text_near =
          let near = part_near g.ready (3 * k + 2) (omega (arith, g.node)) in
          rw (second_is, span_is) (omega (arith, g.room.text e), omega (arith, g.room.text e))

      pub text_end_requires : {mid : List ℕ} → mid ≡ marked → ((spot.row < 2 ^ 40) × (element_width s k ≤ 8)) × (spot.first + (spot.row + 1) * element_width s k + element_width s k ≤ length mid)
      text_end_requires put =
          ((omega (arith, row_few), ((accepted s g.ready.accepted).node k g.node).widths.variable_size e), rw (put, marked_long (rw e)) (end_place (g.room.text_offsets e)))

      pub text_inside : {a b : List ℕ} → a ≡ marked → b ≡ over a (spot.first + (spot.row + 1) * element_width s k) (number_bytes (element_width s k) (spot.span + x)) → spot.second + spot.span + x ≤ length b
      text_inside put-bit put-end =
          let n = number_length (element_width s k) (spot.span + x) in
          let place = end_place (g.room.text_offsets e) in
          let long : length marked ≡ length f.out = marked_long (rw e) in
          rw (put-end, put-bit, over_length marked (spot.first + (spot.row + 1) * element_width s k) (number_bytes (element_width s k) (spot.span + x)) (omega arith), long) text_place

      pub text_filled : (length f.rows ≡ 256) × (length f.spans ≡ 256) → (y : List ℕ) → length y ≡ x → {a b out rows spans : List ℕ} → a ≡ marked → b ≡ over a (spot.first + (spot.row + 1) * element_width s k) (number_bytes (element_width s k) (spot.span + x)) → out ≡ over b (spot.second + spot.span) y
          → (rows ≡ set f.rows k (spot.row + 1)) × (spans ≡ set f.spans k (spot.span + x)) → Filled s places (own (sized y) k) f (filling out rows spans)
      text_filled lengths y long put-bit put-end put-text counts =
          let shaped : Shaped s k (sized y) = record { even = λ l. absurd (text_not_fixed (sym e ∙ l)); text = λ l. refl; bit = λ l. omega arith } in
          let near : get_or f.spans k 0 + length y ≤ part_len places (3 * k + 2) = omega (arith, g.room.text e) in
          let all = row_put g.ready lengths k g.node (sized y) shaped _ _ (bit_grows (sized y) refl (rw e)) _ _ (grow_offset s places f k (sized y) offsets_are (g.room.text_offsets e)) _ _ (grow_text s places f k (sized y) e near refl) in
          as_put (sized y) all (put-text ∙ rw (put-end, put-bit, bitmap_is, row_is, first_is, second_is, span_is, ← long)) (rw (span_is, ← long)) counts

    -- Lists.
    module _ (e : layout_of (code_of s k) ≡ Lists) where
      pub list_near : spot.span + x ≤ 1073741824
      list_near = omega (arith, span_is, g.room.near e)

      pub list_end_requires : {mid : List ℕ} → mid ≡ marked → ((spot.row < 2 ^ 40) × (element_width s k ≤ 8)) × (spot.first + (spot.row + 1) * element_width s k + element_width s k ≤ length mid)
      list_end_requires put =
          ((omega (arith, row_few), ((accepted s g.ready.accepted).node k g.node).widths.lists e), rw (put, marked_long (rw e)) (end_place (g.room.list_offsets e)))

      pub list_filled : (length f.rows ≡ 256) × (length f.spans ≡ 256) → {a out rows spans : List ℕ} → a ≡ marked → out ≡ over a (spot.first + (spot.row + 1) * element_width s k) (number_bytes (element_width s k) (spot.span + x))
          → (rows ≡ set f.rows k (spot.row + 1)) × (spans ≡ set f.spans k (spot.span + x)) → ListFilled s places k x f (filling out rows spans)
      list_filled lengths put-bit put-end counts =
          record {
            by = λ qs long.
                let shaped : Shaped s k (counted qs) = record { even = λ l. absurd (list_not_fixed (sym e ∙ l)); text = λ l. absurd (list_not_text (sym e ∙ l)); bit = λ l. omega arith } in
                let all = row_put g.ready lengths k g.node (counted qs) shaped _ _ (bit_grows (counted qs) refl (rw e)) _ _ (grow_offset s places f k (counted qs) (λ rs. part_of s k Lists e rs 1) (g.room.list_offsets e)) 0 [] (grow_none s places f k (counted qs) {i = 2} (λ rs. part_of s k Lists e rs 2)) in
                as_put (counted qs) all (put-end ∙ rw (put-bit, bitmap_is, row_is, first_is, span_is, ← long) (sym (over_none _ _))) (rw (span_is, ← long)) counts;
          }

-- Under a null. The row is null where the layout may have a bitmap, and Null's one row else.
abbrev gap : Layout → Row
gap l = cond (takes_bitmap l) null (fixed [])

module _ {s places : List ℕ} {f : State} {k : ℕ} (g : Getting s places f k 0) where
  gap_shaped : (l : Layout) → layout_of (code_of s k) ≡ l → (b : Bool) → takes_bitmap l ≡ b → Shaped s k (cond b null (fixed []))
  gap_shaped l e true takes = null_shaped s k
  gap_shaped l e false takes = empty_shaped s k (rw e takes)

  -- the bitmap's bit stays 0
  bit_still : (l : Layout) → layout_of (code_of s k) ≡ l → (b : Bool) → takes_bitmap l ≡ b → Grows s places f k (cond b null (fixed [])) 0 0 []
  unfolding bitmap_of
  bit_still l e true takes = grow_null s places f k null l e takes (g.room.bitmap (rw e takes)) refl
  bit_still l e false takes = grow_none s places f k (fixed []) {i = 0} (λ rs. part_of s k l e rs 0 ∙ rw takes)

  -- the first buffer stays, where it has no offsets
  first_still : (l : Layout) → layout_of (code_of s k) ≡ l → has_offsets l ≡ false → Grows s places f k (gap l) 1 0 []
  first_still Null e h = grow_none s places f k (fixed []) {i = 1} (λ rs. part_of s k Null e rs 1)
  first_still Boolean e h = grow_false s places f k null e (g.room.bits e) refl
  first_still FixedWidth e h = grow_zero s places f k null e (g.room.values e) refl
  first_still VariableSize e h = absurd (false≢true (sym h))
  first_still View e h = grow_none s places f k null {i = 1} (λ rs. part_of s k View e rs 1)
  first_still Lists e h = absurd (false≢true (sym h))
  first_still ListView e h = grow_none s places f k null {i = 1} (λ rs. part_of s k ListView e rs 1)
  first_still FixedList e h = grow_none s places f k null {i = 1} (λ rs. part_of s k FixedList e rs 1)
  first_still Struct e h = grow_none s places f k null {i = 1} (λ rs. part_of s k Struct e rs 1)
  first_still DenseUnion e h = grow_none s places f k (fixed []) {i = 1} (λ rs. part_of s k DenseUnion e rs 1)
  first_still SparseUnion e h = grow_none s places f k (fixed []) {i = 1} (λ rs. part_of s k SparseUnion e rs 1)
  first_still Dictionary e h = grow_none s places f k null {i = 1} (λ rs. part_of s k Dictionary e rs 1)
  first_still Runs e h = grow_none s places f k (fixed []) {i = 1} (λ rs. part_of s k Runs e rs 1)

  -- the second buffer stays, where there is no text
  second_still : (l : Layout) → layout_of (code_of s k) ≡ l → has_offsets l ≡ false → Grows s places f k (gap l) 2 0 []
  second_still Null e h = grow_none s places f k (fixed []) {i = 2} (λ rs. part_of s k Null e rs 2)
  second_still Boolean e h = grow_none s places f k null {i = 2} (λ rs. part_of s k Boolean e rs 2)
  second_still FixedWidth e h = grow_none s places f k null {i = 2} (λ rs. part_of s k FixedWidth e rs 2)
  second_still VariableSize e h = absurd (false≢true (sym h))
  second_still View e h = grow_none s places f k null {i = 2} (λ rs. part_of s k View e rs 2)
  second_still Lists e h = absurd (false≢true (sym h))
  second_still ListView e h = grow_none s places f k null {i = 2} (λ rs. part_of s k ListView e rs 2)
  second_still FixedList e h = grow_none s places f k null {i = 2} (λ rs. part_of s k FixedList e rs 2)
  second_still Struct e h = grow_none s places f k null {i = 2} (λ rs. part_of s k Struct e rs 2)
  second_still DenseUnion e h = grow_none s places f k (fixed []) {i = 2} (λ rs. part_of s k DenseUnion e rs 2)
  second_still SparseUnion e h = grow_none s places f k (fixed []) {i = 2} (λ rs. part_of s k SparseUnion e rs 2)
  second_still Dictionary e h = grow_none s places f k null {i = 2} (λ rs. part_of s k Dictionary e rs 2)
  second_still Runs e h = grow_none s places f k (fixed []) {i = 2} (λ rs. part_of s k Runs e rs 2)

  gap_span : (b : Bool) → span (cond b null (fixed [])) ≡ 0
  gap_span true = refl
  gap_span false = refl

  module _ {spot : Spot} (is : spot ≡ spot_of places f.rows f.spans k) where
    pub gap_plain : (length f.rows ≡ 256) × (length f.spans ≡ 256) → has_offsets (layout_of (code_of s k)) ≡ false → {out rows spans : List ℕ} → out ≡ f.out → (rows ≡ set f.rows k (spot.row + 1)) × (spans ≡ set f.spans k spot.span) → Filled s places (own (gap_row s k) k) f (filling out rows spans)
    gap_plain lengths h put counts =
        let all = row_put g.ready lengths k g.node (gap_row s k) (gap_shaped (layout_of (code_of s k)) refl (takes_bitmap (layout_of (code_of s k))) refl)
        0 [] (bit_still (layout_of (code_of s k)) refl (takes_bitmap (layout_of (code_of s k))) refl) 0 [] (first_still (layout_of (code_of s k)) refl h) 0 [] (second_still (layout_of (code_of s k)) refl h) in
        as_put g is (gap_row s k) all (put ∙ sym (over_none _ _ ∙ over_none _ _ ∙ over_none _ _)) (span_is g is ∙ rw (gap_span (takes_bitmap (layout_of (code_of s k)))) (omega arith)) counts

    pub gap_room : has_offsets (layout_of (code_of s k)) ≡ true → suc (get_or f.rows k 0 + 1) * element_width s k ≤ part_len places (3 * k + 1)
    gap_room h = cases (layout_of (code_of s k)) refl h
      where
        cases : (l : Layout) → layout_of (code_of s k) ≡ l → has_offsets l ≡ true → suc (get_or f.rows k 0 + 1) * element_width s k ≤ part_len places (3 * k + 1)
        cases Null e h = absurd (false≢true h)
        cases Boolean e h = absurd (false≢true h)
        cases FixedWidth e h = absurd (false≢true h)
        cases VariableSize e h = g.room.text_offsets e
        cases View e h = absurd (false≢true h)
        cases Lists e h = g.room.list_offsets e
        cases ListView e h = absurd (false≢true h)
        cases FixedList e h = absurd (false≢true h)
        cases Struct e h = absurd (false≢true h)
        cases DenseUnion e h = absurd (false≢true h)
        cases SparseUnion e h = absurd (false≢true h)
        cases Dictionary e h = absurd (false≢true h)
        cases Runs e h = absurd (false≢true h)

    pub end_requires : has_offsets (layout_of (code_of s k)) ≡ true → ((spot.row < 2 ^ 40) × (element_width s k ≤ 8)) × (spot.first + (spot.row + 1) * element_width s k + element_width s k ≤ length f.out)
    end_requires h = ((omega (arith, row_few g is), narrow (layout_of (code_of s k)) refl h), end_place g is (gap_room h))
      where
        narrow : (l : Layout) → layout_of (code_of s k) ≡ l → has_offsets l ≡ true → element_width s k ≤ 8
        narrow Null e h = absurd (false≢true h)
        narrow Boolean e h = absurd (false≢true h)
        narrow FixedWidth e h = absurd (false≢true h)
        narrow VariableSize e h = ((accepted s g.ready.accepted).node k g.node).widths.variable_size e
        narrow View e h = absurd (false≢true h)
        narrow Lists e h = ((accepted s g.ready.accepted).node k g.node).widths.lists e
        narrow ListView e h = absurd (false≢true h)
        narrow FixedList e h = absurd (false≢true h)
        narrow Struct e h = absurd (false≢true h)
        narrow DenseUnion e h = absurd (false≢true h)
        narrow SparseUnion e h = absurd (false≢true h)
        narrow Dictionary e h = absurd (false≢true h)
        narrow Runs e h = absurd (false≢true h)

    -- an empty text or list: its end is where the one before it ends
    ended : (length f.rows ≡ 256) × (length f.spans ≡ 256) → {out rows spans : List ℕ} → out ≡ over f.out (spot.first + (spot.row + 1) * element_width s k) (number_bytes (element_width s k) spot.span) → (rows ≡ set f.rows k (spot.row + 1)) × (spans ≡ set f.spans k spot.span)
        → (l : Layout) → layout_of (code_of s k) ≡ l → has_offsets l ≡ true → Filled s places (own (gap l) k) f (filling out rows spans)
    ended lengths put counts Null e h = absurd (false≢true h)
    ended lengths put counts Boolean e h = absurd (false≢true h)
    ended lengths put counts FixedWidth e h = absurd (false≢true h)
    ended lengths put counts VariableSize e h =
        let near : get_or f.spans k 0 + 0 ≤ part_len places (3 * k + 2) = g.room.text e in
        let all = row_put g.ready lengths k g.node null (null_shaped s k) 0 [] (bit_still VariableSize e true refl) _ _ (grow_offset s places f k null (λ rs. part_of s k VariableSize e rs 1) (g.room.text_offsets e)) _ _ (grow_text s places f k null e near refl) in
        as_put g is null all (put ∙ rw (row_is g is, first_is g is, span_is g is, over_none, over_none, add-zero (get_or f.spans k 0))) (span_is g is ∙ omega arith) counts
    ended lengths put counts View e h = absurd (false≢true h)
    ended lengths put counts Lists e h =
        let all = row_put g.ready lengths k g.node null (null_shaped s k) 0 [] (bit_still Lists e true refl) _ _ (grow_offset s places f k null (λ rs. part_of s k Lists e rs 1) (g.room.list_offsets e)) 0 [] (grow_none s places f k null {i = 2} (λ rs. part_of s k Lists e rs 2)) in
        as_put g is null all (put ∙ rw (row_is g is, first_is g is, span_is g is, over_none, over_none, add-zero (get_or f.spans k 0))) (span_is g is ∙ omega arith) counts
    ended lengths put counts ListView e h = absurd (false≢true h)
    ended lengths put counts FixedList e h = absurd (false≢true h)
    ended lengths put counts Struct e h = absurd (false≢true h)
    ended lengths put counts DenseUnion e h = absurd (false≢true h)
    ended lengths put counts SparseUnion e h = absurd (false≢true h)
    ended lengths put counts Dictionary e h = absurd (false≢true h)
    ended lengths put counts Runs e h = absurd (false≢true h)

    pub gap_ended : (length f.rows ≡ 256) × (length f.spans ≡ 256) → has_offsets (layout_of (code_of s k)) ≡ true → {out rows spans : List ℕ} → out ≡ over f.out (spot.first + (spot.row + 1) * element_width s k) (number_bytes (element_width s k) spot.span)
        → (rows ≡ set f.rows k (spot.row + 1)) × (spans ≡ set f.spans k spot.span) → Filled s places (own (gap_row s k) k) f (filling out rows spans)
    gap_ended lengths h put counts = ended lengths put counts (layout_of (code_of s k)) refl h

-- what the test of the layout tells
module _ (s : List ℕ) (k : ℕ) {l : Layout} {b : Bool} where
  pub has_told : b ≡ has_offsets l → l ≡ layout_of (code_of s k) → b ≡ true → has_offsets (layout_of (code_of s k)) ≡ true
  has_told h e t = rw (← e, ← h) t

  pub has_not : b ≡ has_offsets l → l ≡ layout_of (code_of s k) → b ≡ false → has_offsets (layout_of (code_of s k)) ≡ false
  has_not h e t = rw (← e, ← h) t
