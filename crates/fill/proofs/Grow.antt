-- How each part of a node goes on by a row: a bit is set or stays 0, bytes are put behind those that stand there, or zeros stay.
-- What the rows so far make stands at the front of the part, and the row's place is where it ends.
use mathlib.Core.Path.{◌≡◌, sym, ap, ◌∙◌}
use mathlib.Core.Bool.{true}
use mathlib.Core.List.{List, [], ◌∷◌, ◌++◌}
use Prim.Native.Nat.{ℕ, zero, suc, ◌+◌, ◌*◌, ◌/◌, ◌%◌, ◌≤◌, ◌<◌, ◌^◌}
use native.Mathlib.Nat.{suc-mul, add-mul, one-mul}
use native.Mathlib.Omega.{arith}
use lib.ListN.{length, get_or}
use lib.Pow.{pow_mono}
use Rattle.image.specs.declared.type_code.Layout.{Layout}
use Rattle.image.specs.declared.type_code.Layout.TheVariants.{Boolean, FixedWidth, VariableSize}
use Rattle.image.specs.Bytes.{byte_at, number_bytes}
use Rattle.image.specs.Record.{code_of}
use Rattle.image.specs.TypeCode.{layout_of, takes_bitmap}
use Rattle.image.specs.Element.{element_width}
use Rattle.image.specs.Row.{Row, Rows, null, fixed, sized, joined, counted, tagged, none, more, one, rows_then}
use Rattle.image.specs.RowBytes.{count}
use Rattle.image.specs.Built.{each_number, each_bytes, bits_number, pack_bits, valid_bit, value_bit, value_bytes, text_bytes, span, offsets_from, bitmap_of, buffers_of, parts_of, node_part}
use Rattle.laws.proofs.Lengths.{number_length}
use Rattle.rows.proofs.Over.{over_none, over_one}
use Rattle.built.specs.Walk.{total}
use Rattle.built.proofs.Bits.{each_length}
use Rattle.built.proofs.Offsets.{offsets_length}
use Rattle.fill.specs.Filling.{State, part_len, padded, Holds}
use Rattle.fill.proofs.Bytes.{zeros, byte_of, padded_more, padded_zeros}
use Rattle.fill.proofs.BitsSet.{bit_clear, bit_set, bits_padded, bits_more, number_more, bytes_more, offsets_more, pow_suc}
use Rattle.fill.proofs.Parts.{Grows, count_more}

-- the parts of a node of a layout
pub part_of : (s : List ℕ) (k : ℕ) (l : Layout) → layout_of (code_of s k) ≡ l → (rs : Rows) (i : ℕ) → node_part s k rs i ≡ get_or (bitmap_of l rs ∷ buffers_of l (element_width s k) rs) i []
unfolding node_part parts_of
part_of s k l e rs i = rw (← e)

-- a row's bitmap bit is 0 or 1
valid_one : (r : Row) → valid_bit r ≤ 1
valid_one null = omega arith
valid_one (fixed b) = omega arith
valid_one (sized b) = omega arith
valid_one (joined rs) = omega arith
valid_one (counted rs) = omega arith
valid_one (tagged id r) = omega arith

pub valid_small : (rs : Rows) → bits_number (each_number valid_bit rs) < 2 ^ count rs
unfolding bits_number each_number count
valid_small none = omega arith
valid_small (more r rs) = rw (pow_suc (count rs)) (omega (arith, valid_one r, valid_small rs))

module _ (s places : List ℕ) (f : State) (k : ℕ) (r : Row) where
  -- a part that stays as it is
  pub grow_still : {i : ℕ} → ((rs : Rows) → Holds s places f k rs → padded (part_len places (3 * k + i)) (node_part s k rs i) ≡ padded (part_len places (3 * k + i)) (node_part s k (rows_then rs (one r)) i)) → Grows s places f k r i 0 []
  grow_still {i} same = record { fits = omega arith; step = λ rs h. over_none (padded (part_len places (3 * k + i)) (node_part s k rs i)) 0 ∙ same rs h }

  -- a part that the node does not have
  pub grow_none : {i : ℕ} → ((rs : Rows) → node_part s k rs i ≡ []) → Grows s places f k r i 0 []
  grow_none {i} empty = grow_still (λ rs h. ap (padded (part_len places (3 * k + i))) (empty rs ∙ sym (empty (rows_then rs (one r)))))

  -- bytes put behind those that stand there
  pub grow_bytes : {i o : ℕ} {x : List ℕ} → o + length x ≤ part_len places (3 * k + i)
      → ((rs : Rows) → Holds s places f k rs → (length (node_part s k rs i) ≡ o) × (node_part s k (rows_then rs (one r)) i ≡ node_part s k rs i ++ x)) → Grows s places f k r i o x
  grow_bytes {i} {o} {x} fits grown =
      record {
        fits = fits;
        step = λ rs h.
            let m = grown rs h in
            let size : length (node_part s k rs i) + length x ≤ part_len places (3 * k + i) = omega (arith, m.0) in
            rw (m.1, ← m.0) (padded_more (part_len places (3 * k + i)) (node_part s k rs i) x size);
      }

  -- Bits: of the bitmap, or of Booleans.
  module _ (i : ℕ) (few : i < 3) (bit : Row → ℕ) (is : (rs : Rows) → node_part s k rs i ≡ pack_bits (each_number bit rs)) (small : (rs : Rows) → Holds s places f k rs → bits_number (each_number bit rs) < 2 ^ count rs)
      (room : get_or f.rows k 0 + 1 ≤ 8 * part_len places (3 * k + i)) where
    -- the part as the bytes of a number
    as_number : (rs : Rows) → count rs ≤ 8 * part_len places (3 * k + i) → bits_number (each_number bit rs) < 2 ^ count rs → padded (part_len places (3 * k + i)) (node_part s k rs i) ≡ number_bytes (part_len places (3 * k + i)) (bits_number (each_number bit rs))
    as_number rs fits lt =
        let n = each_length bit rs in
        rw (is rs) (bits_padded (part_len places (3 * k + i)) (each_number bit rs) (omega arith) (rw n lt))

    next_number : (rs : Rows) (v : ℕ) → bit r ≡ v → bits_number (each_number bit (rows_then rs (one r))) ≡ bits_number (each_number bit rs) + v * 2 ^ count rs
    next_number rs v e = rw (number_more bit rs r, bits_more (each_number bit rs) (bit r), each_length bit rs, e)

    next_small : (rs : Rows) (v : ℕ) → bit r ≡ v → v ≤ 1 → bits_number (each_number bit rs) < 2 ^ count rs → bits_number (each_number bit (rows_then rs (one r))) < 2 ^ count (rows_then rs (one r))
    next_small rs zero e le lt =
        let p : 2 ^ count rs ≤ 2 ^ (count rs + 1) = pow_mono {i = count rs} {j = count rs + 1} (omega arith) in
        rw (next_number rs 0 e, count_more rs r) (omega arith)
    next_small rs (suc zero) e le lt =
        let n : count rs + 1 ≡ suc (count rs) = omega arith in
        rw (next_number rs 1 e, count_more rs r, n, pow_suc (count rs)) (omega arith)
    next_small rs (suc (suc v)) e le lt = absurd (omega arith)

    pub grow_unset : bit r ≡ 0 → Grows s places f k r i 0 []
    grow_unset e = grow_still (λ rs h.
        let n = h.rows in
        let more = count_more rs r in
        let number : bits_number (each_number bit (rows_then rs (one r))) ≡ bits_number (each_number bit rs) = next_number rs 0 e ∙ omega arith in
        as_number rs (omega arith) (small rs h) ∙ sym (as_number (rows_then rs (one r)) (omega arith) (next_small rs 0 e (omega arith) (small rs h)) ∙ ap (number_bytes (part_len places (3 * k + i))) number))

    -- the byte that the bit of the next row is in
    abbrev bit_byte : ℕ
    bit_byte = byte_at f.out (get_or places (3 * k + i) 0 + get_or f.rows k 0 / 8)

    byte_is : (rs : Rows) → Holds s places f k rs → bit_byte ≡ byte_at (number_bytes (part_len places (3 * k + i)) (bits_number (each_number bit rs))) (get_or f.rows k 0 / 8)
    byte_is rs h =
        let n = h.rows in
        sym (byte_of f.out (get_or places (3 * k + i) 0) (part_len places (3 * k + i)) (get_or f.rows k 0 / 8) (omega arith))
        ∙ ap (λ (y : List ℕ). byte_at y (get_or f.rows k 0 / 8)) (h.part i few ∙ as_number rs (omega arith) (small rs h))

    pub bit_free : (rs : Rows) → Holds s places f k rs → byte_at f.out (get_or places (3 * k + i) 0 + get_or f.rows k 0 / 8) < 2 ^ (get_or f.rows k 0 % 8)
    bit_free rs h = rw (byte_is rs h) (bit_clear (part_len places (3 * k + i)) (bits_number (each_number bit rs)) (get_or f.rows k 0) (rw h.rows (small rs h)) (omega arith))

    pub grow_set : bit r ≡ 1 → Grows s places f k r i (get_or f.rows k 0 / 8) ((byte_at f.out (get_or places (3 * k + i) 0 + get_or f.rows k 0 / 8) + 2 ^ (get_or f.rows k 0 % 8)) ∷ [])
    grow_set e =
        record {
          fits = omega arith;
          step = λ rs h.
              let n = h.rows in
              let j : ℕ = get_or f.rows k 0 in
              let len : ℕ = part_len places (3 * k + i) in
              let x : ℕ = bits_number (each_number bit rs) in
              let more = count_more rs r in
              let number : bits_number (each_number bit (rows_then rs (one r))) ≡ bits_number (each_number bit rs) + 2 ^ get_or f.rows k 0 = rw n (next_number rs 1 e ∙ omega arith) in
              let lt : bits_number (each_number bit rs) < 2 ^ get_or f.rows k 0 = rw n (small rs h) in
              let inside : get_or f.rows k 0 / 8 < length (number_bytes (part_len places (3 * k + i)) (bits_number (each_number bit rs))) = omega (arith, number_length (part_len places (3 * k + i)) (bits_number (each_number bit rs))) in
              rw (as_number rs (omega arith) (small rs h), byte_is rs h)
              (sym (over_one (number_bytes (part_len places (3 * k + i)) (bits_number (each_number bit rs))) (get_or f.rows k 0 / 8) _ inside)
              ∙ bit_set (part_len places (3 * k + i)) (bits_number (each_number bit rs)) (get_or f.rows k 0) lt (omega arith)
              ∙ sym (as_number (rows_then rs (one r)) (omega arith) (next_small rs 1 e (omega arith) (small rs h)) ∙ ap (number_bytes (part_len places (3 * k + i))) number));
        }

  -- The bitmap, where the layout has one.
  module _ (l : Layout) (e : layout_of (code_of s k) ≡ l) (takes : takes_bitmap l ≡ true) (room : get_or f.rows k 0 + 1 ≤ 8 * part_len places (3 * k + 0)) where
    bitmap_is : (rs : Rows) → node_part s k rs 0 ≡ pack_bits (each_number valid_bit rs)
    unfolding bitmap_of
    bitmap_is rs = part_of s k l e rs 0 ∙ rw takes

    pub grow_null : valid_bit r ≡ 0 → Grows s places f k r 0 0 []
    grow_null v = grow_unset 0 (omega arith) valid_bit bitmap_is (λ rs h. valid_small rs) room v

    pub grow_valid : valid_bit r ≡ 1 → Grows s places f k r 0 (get_or f.rows k 0 / 8) ((byte_at f.out (get_or places (3 * k + 0) 0 + get_or f.rows k 0 / 8) + 2 ^ (get_or f.rows k 0 % 8)) ∷ [])
    grow_valid v = grow_set 0 (omega arith) valid_bit bitmap_is (λ rs h. valid_small rs) room v

    pub bitmap_free : (rs : Rows) → Holds s places f k rs → byte_at f.out (get_or places (3 * k + 0) 0 + get_or f.rows k 0 / 8) < 2 ^ (get_or f.rows k 0 % 8)
    bitmap_free rs h = bit_free 0 (omega arith) valid_bit bitmap_is (λ rs h. valid_small rs) room rs h

  -- Booleans.
  module _ (e : layout_of (code_of s k) ≡ Boolean) (room : get_or f.rows k 0 + 1 ≤ 8 * part_len places (3 * k + 1)) where
    boolean_is : (rs : Rows) → node_part s k rs 1 ≡ pack_bits (each_number value_bit rs)
    boolean_is rs = part_of s k Boolean e rs 1

    pub grow_false : value_bit r ≡ 0 → Grows s places f k r 1 0 []
    grow_false v = grow_unset 1 (omega arith) value_bit boolean_is (λ rs h. h.bits e) room v

    pub grow_true : value_bit r ≡ 1 → Grows s places f k r 1 (get_or f.rows k 0 / 8) ((byte_at f.out (get_or places (3 * k + 1) 0 + get_or f.rows k 0 / 8) + 2 ^ (get_or f.rows k 0 % 8)) ∷ [])
    grow_true v = grow_set 1 (omega arith) value_bit boolean_is (λ rs h. h.bits e) room v

    pub boolean_free : (rs : Rows) → Holds s places f k rs → byte_at f.out (get_or places (3 * k + 1) 0 + get_or f.rows k 0 / 8) < 2 ^ (get_or f.rows k 0 % 8)
    boolean_free rs h = bit_free 1 (omega arith) value_bit boolean_is (λ rs h. h.bits e) room rs h

  -- Fixed widths.
  module _ (e : layout_of (code_of s k) ≡ FixedWidth) (room : (get_or f.rows k 0 + 1) * element_width s k ≤ part_len places (3 * k + 1)) where
    fixed_is : (rs : Rows) → node_part s k rs 1 ≡ each_bytes (value_bytes (element_width s k)) rs
    fixed_is rs = part_of s k FixedWidth e rs 1

    next_fits : get_or f.rows k 0 * element_width s k + element_width s k ≤ part_len places (3 * k + 1)
    next_fits = omega (arith, room, add-mul (get_or f.rows k 0) 1 (element_width s k), one-mul (element_width s k))

    fixed_long : (rs : Rows) → Holds s places f k rs → length (node_part s k rs 1) ≡ get_or f.rows k 0 * element_width s k
    fixed_long rs h = ap length (fixed_is rs) ∙ h.even e ∙ rw h.rows

    pub grow_value : (x : List ℕ) → length x ≡ element_width s k → value_bytes (element_width s k) r ≡ x → Grows s places f k r 1 (get_or f.rows k 0 * element_width s k) x
    grow_value x wide v =
        grow_bytes (omega (arith, next_fits)) (λ rs h.
        (fixed_long rs h, fixed_is (rows_then rs (one r)) ∙ bytes_more (value_bytes (element_width s k)) rs r ∙ rw (v, fixed_is rs)))

    pub grow_zero : value_bytes (element_width s k) r ≡ zeros (element_width s k) → Grows s places f k r 1 0 []
    grow_zero v =
        grow_still (λ rs h.
        let fits : length (node_part s k rs 1) + element_width s k ≤ part_len places (3 * k + 1) = omega (arith, fixed_long rs h, next_fits) in
        let next : node_part s k (rows_then rs (one r)) 1 ≡ node_part s k rs 1 ++ zeros (element_width s k) = fixed_is (rows_then rs (one r)) ∙ bytes_more (value_bytes (element_width s k)) rs r ∙ rw (v, fixed_is rs) in
        rw next (sym (padded_zeros (part_len places (3 * k + 1)) (node_part s k rs 1) (element_width s k) fits)))

  -- Offsets, of texts and lists.
  module _ (is : (rs : Rows) → node_part s k rs 1 ≡ offsets_from (element_width s k) 0 rs) (room : suc (get_or f.rows k 0 + 1) * element_width s k ≤ part_len places (3 * k + 1)) where
    pub grow_offset : Grows s places f k r 1 ((get_or f.rows k 0 + 1) * element_width s k) (number_bytes (element_width s k) (get_or f.spans k 0 + span r))
    grow_offset =
        grow_bytes (omega (arith, room, number_length (element_width s k) (get_or f.spans k 0 + span r), suc-mul (get_or f.rows k 0 + 1) (element_width s k))) (λ rs h.
        let n : suc (count rs) ≡ get_or f.rows k 0 + 1 = omega (arith, h.rows) in
        let x : 0 + total rs + span r ≡ get_or f.spans k 0 + span r = omega (arith, h.spans) in
        (ap length (is rs) ∙ offsets_length (element_width s k) 0 rs ∙ rw n, is (rows_then rs (one r)) ∙ offsets_more (element_width s k) 0 rs r ∙ rw (x, is rs)))

  -- Texts.
  module _ (e : layout_of (code_of s k) ≡ VariableSize) (room : get_or f.spans k 0 + span r ≤ part_len places (3 * k + 2)) where
    text_is : (rs : Rows) → node_part s k rs 2 ≡ each_bytes text_bytes rs
    text_is rs = part_of s k VariableSize e rs 2

    pub grow_text : length (text_bytes r) ≡ span r → Grows s places f k r 2 (get_or f.spans k 0) (text_bytes r)
    grow_text size =
        grow_bytes (omega arith) (λ rs h.
        (ap length (text_is rs) ∙ h.texts e ∙ sym h.spans, text_is (rows_then rs (one r)) ∙ bytes_more text_bytes rs r ∙ rw (text_is rs)))
