-- The parts of the built image, from zeros to what the rows make.
-- At first each part holds what no rows make, and zeros behind; in the end what all rows of its node make, which is as long as it is.
use mathlib.Core.Path.{◌≡◌, refl, sym, ap, ◌∙◌}
use mathlib.Core.Bool.{Bool, true, false, cond}
use mathlib.Core.List.{List, [], ◌++◌, append-nil}
use mathlib.Core.Logic.{◌⊎◌, inl, inr}
use Prim.Native.Nat.{ℕ, zero, suc, ◌+◌, ◌*◌, ◌-◌, ◌/◌, ◌%◌, ◌≤◌, ◌<◌}
use native.Mathlib.Nat.{zero-add, suc-mul, zero-mul}
use native.Mathlib.Omega.{arith}
use lib.ListN.{length, get_or, replicate, length-replicate, get_or-replicate}
use lib.Seq.{ext_get_or}
use Rattle.image.specs.declared.type_code.Layout.{Layout}
use Rattle.image.specs.declared.type_code.Layout.TheVariants.{Null, Boolean, FixedWidth, VariableSize, View, List as Lists, ListView, FixedList, Struct, DenseUnion, SparseUnion, Dictionary, Runs}
use Rattle.image.specs.Ranges.{sum_to, pieces}
use Rattle.image.specs.Bytes.{byte_at, AllBytes, number_bytes, bytes_at}
use Rattle.image.specs.Record.{node_count, code_of, first_child}
use Rattle.image.specs.TypeCode.{layout_of, takes_bitmap}
use Rattle.image.specs.Element.{element_width, child_end}
use Rattle.image.specs.Row.{Row, Rows, none, rows_then}
use Rattle.image.specs.RowBytes.{count}
use Rattle.image.specs.Parse.{rows_in}
use Rattle.image.specs.Built.{from_each, each_number, each_bytes, bits_number, pack_bits, valid_bit, value_bit, offsets_from, bitmap_of, column, node_part, part_at, part_length, part_start}
use Rattle.image.proofs.Ranges.{sum_grows}
use Rattle.laws.specs.Accepted.{AcceptedImage}
use Rattle.laws.proofs.Accepted.{accepted}
use Rattle.laws.proofs.Lengths.{bytes_length}
use Rattle.rows.specs.Output.{over}
use Rattle.rows.proofs.Over.{over_length, over_before}
use Rattle.rows.proofs.Repeats.{bytes_add}
use Rattle.built.specs.Typed.{all_rows, is_row}
use Rattle.built.specs.Walk.{gives, total, the_rows}
use Rattle.built.proofs.Regions.{pieces_snoc}
use Rattle.built.proofs.Offsets.{offsets_length}
use Rattle.built.proofs.Typed.{rows_typed}
use Rattle.built.proofs.Walk.{columns_given}
use Rattle.built.proofs.Lengths.{node_part_lem, bitmap_length_lem, boolean_lengths, fixed_lengths, text_lengths, list_lengths, list_child}
use Rattle.fill.specs.Filling.{State, part_len, part_bytes, padded, Holds, Room, Ready, ToFill, RowsWalk, RowsWalked}
use Rattle.fill.proofs.Bytes.{lt_or_ge, zeros, byte_of, over_inside, over_behind, padded_zeros}
use Rattle.fill.proofs.BitsSet.{zero_bytes}
use Rattle.fill.proofs.Grow.{part_of}

-- zeros as bytes of a buffer, and as what no bytes leave of a part
zeros_there : (s : List ℕ) (p n : ℕ) → ((i : ℕ) → i < n → byte_at s (p + i) ≡ 0) → bytes_at s p n ≡ zeros n
zeros_there s p n same =
    ext_get_or 0 (bytes_at s p n) (zeros n) (bytes_length s p n ∙ sym (length-replicate {A = ℕ} n 0)) (λ i lt.
    let few : i < n = omega (arith, bytes_length s p n) in
    byte_of s p n i few ∙ same i few ∙ sym (get_or-replicate {A = ℕ} n i 0 0 few))

padded_nil : (n : ℕ) → padded n [] ≡ zeros n
unfolding padded
padded_nil n =
    let e : n - 0 ≡ n = omega arith in
    rw e

padded_none : (n m : ℕ) → m ≤ n → padded n (zeros m) ≡ zeros n
padded_none n m le =
    let fits : 0 + m ≤ n = omega arith in
    padded_zeros n [] m fits ∙ padded_nil n

-- bytes that fill their part
padded_full : (n : ℕ) (x : List ℕ) → length x ≡ n → padded n x ≡ x
unfolding padded
padded_full n x e =
    let left : n - length x ≡ 0 = omega arith in
    rw left (append-nil x)

-- what no rows make is zeros: none, or the one offset
no_bits : (f : Row → ℕ) → pack_bits (each_number f none) ≡ []
unfolding pack_bits each_number bits_number number_bytes
no_bits f = refl

record Blank (x : List ℕ) (most : ℕ) : Type 0 where
  pub size : ℕ
  pub is : x ≡ zeros size
  pub fits : size ≤ most

blank_nothing : {x : List ℕ} (most : ℕ) → x ≡ [] → Blank x most
blank_nothing most e = record { size = 0; is = e; fits = omega arith }

no_bitmap : (l : Layout) → bitmap_of l none ≡ []
unfolding bitmap_of
no_bitmap l = cases (takes_bitmap l)
  where
    cases : (b : Bool) → cond b (pack_bits (each_number valid_bit none)) [] ≡ []
    cases true = no_bits valid_bit
    cases false = refl

module _ (s : List ℕ) (k : ℕ) (rs : Rows) where
  first_offset : (w : ℕ) → Blank (offsets_from w 0 none) (length (offsets_from w 0 rs))
  unfolding offsets_from
  first_offset w = record { size = w; is = zero_bytes w; fits = omega (arith, offsets_length w 0 rs, suc-mul (count rs) w) }

  blank_first : (l : Layout) → layout_of (code_of s k) ≡ l → Blank (node_part s k none 1) (length (node_part s k rs 1))
  unfolding each_bytes
  blank_first Null e = blank_nothing _ (part_of s k Null e none 1)
  blank_first Boolean e = blank_nothing _ (part_of s k Boolean e none 1 ∙ no_bits value_bit)
  blank_first FixedWidth e = blank_nothing _ (part_of s k FixedWidth e none 1)
  blank_first VariableSize e = rw (part_of s k VariableSize e none 1, part_of s k VariableSize e rs 1) (first_offset (element_width s k))
  blank_first View e = blank_nothing _ (part_of s k View e none 1)
  blank_first Lists e = rw (part_of s k Lists e none 1, part_of s k Lists e rs 1) (first_offset (element_width s k))
  blank_first ListView e = blank_nothing _ (part_of s k ListView e none 1)
  blank_first FixedList e = blank_nothing _ (part_of s k FixedList e none 1)
  blank_first Struct e = blank_nothing _ (part_of s k Struct e none 1)
  blank_first DenseUnion e = blank_nothing _ (part_of s k DenseUnion e none 1)
  blank_first SparseUnion e = blank_nothing _ (part_of s k SparseUnion e none 1)
  blank_first Dictionary e = blank_nothing _ (part_of s k Dictionary e none 1)
  blank_first Runs e = blank_nothing _ (part_of s k Runs e none 1)

  blank_second : (l : Layout) → layout_of (code_of s k) ≡ l → node_part s k none 2 ≡ []
  unfolding each_bytes
  blank_second Null e = part_of s k Null e none 2
  blank_second Boolean e = part_of s k Boolean e none 2
  blank_second FixedWidth e = part_of s k FixedWidth e none 2
  blank_second VariableSize e = part_of s k VariableSize e none 2
  blank_second View e = part_of s k View e none 2
  blank_second Lists e = part_of s k Lists e none 2
  blank_second ListView e = part_of s k ListView e none 2
  blank_second FixedList e = part_of s k FixedList e none 2
  blank_second Struct e = part_of s k Struct e none 2
  blank_second DenseUnion e = part_of s k DenseUnion e none 2
  blank_second SparseUnion e = part_of s k SparseUnion e none 2
  blank_second Dictionary e = part_of s k Dictionary e none 2
  blank_second Runs e = part_of s k Runs e none 2

  blank_part : (i : ℕ) → i < 3 → Blank (node_part s k none i) (length (node_part s k rs i))
  blank_part zero lt = blank_nothing _ (part_of s k (layout_of (code_of s k)) refl none 0 ∙ no_bitmap (layout_of (code_of s k)))
  blank_part (suc zero) lt = blank_first (layout_of (code_of s k)) refl
  blank_part (suc (suc zero)) lt = blank_nothing _ (blank_second (layout_of (code_of s k)) refl)
  blank_part (suc (suc (suc i))) lt = absurd (omega arith)

-- a buffer that has changed only in n bytes from a place on
changed_within : (out after : List ℕ) (at n : ℕ) → length after ≡ length out → at + n ≤ length out → ((p : ℕ) → (p < at) ⊎ (at + n ≤ p) → byte_at after p ≡ byte_at out p) → after ≡ over out at (bytes_at after at n)
changed_within out after at n long fits outside =
    let size : length (bytes_at after at n) ≡ n = bytes_length after at n in
    let room : at + length (bytes_at after at n) ≤ length out = omega arith in
    ext_get_or 0 after (over out at (bytes_at after at n)) (long ∙ sym (over_length out at (bytes_at after at n) room)) (λ p lt. cases p room size (lt_or_ge p at) (lt_or_ge p (at + n)))
  where
    cases : (p : ℕ) → at + length (bytes_at after at n) ≤ length out → length (bytes_at after at n) ≡ n → (p < at) ⊎ (at ≤ p) → (p < at + n) ⊎ (at + n ≤ p) → byte_at after p ≡ byte_at (over out at (bytes_at after at n)) p
    cases p room size (inl before) e = outside p (inl before) ∙ sym (over_before out at (bytes_at after at n) room p before)
    cases p room size (inr inside) (inl among) =
        let e : at + (p - at) ≡ p = omega arith in
        let few : p - at < n = omega arith in
        let here : p - at < length (bytes_at after at n) = omega arith in
        sym (ap (byte_at (over out at (bytes_at after at n))) (sym e) ∙ over_inside out at (bytes_at after at n) room (p - at) here ∙ byte_of after at n (p - at) few ∙ ap (byte_at after) e)
    cases p room size (inr inside) (inr behind) = outside p (inr behind) ∙ sym (over_behind out at (bytes_at after at n) room p (omega arith))

module _ {s : List ℕ} {n : ℕ} {b places : List ℕ} {f : State} (start : ToFill s n b places f.out) (string : AllBytes b) (rows_none : f.rows ≡ replicate 256 0) (spans_none : f.spans ≡ replicate 256 0) where
  abbrev rs : Rows
  rs = the_rows (rows_in s n b)

  image : AcceptedImage s
  image = accepted s start.accepted

  typed : all_rows (is_row 16 s 0) rs ≡ true
  typed = rows_typed s n b string rs [] start.read

  -- where parts stand, and how long they are
  part_step : (q : ℕ) → q < 3 * node_count s → (get_or places q 0 ≤ get_or places (suc q) 0) × (part_len places q ≡ part_length s rs q)
  unfolding part_start sum_to
  part_step q lt =
      let here = start.place q (omega arith) in
      let next = start.place (suc q) (omega arith) in
      (omega arith, omega arith)

  rise : (q r : ℕ) → q ≤ r → r ≤ 3 * node_count s → get_or places q 0 ≤ get_or places r 0
  unfolding part_start
  rise q r le few =
      let here = start.place q (omega arith) in
      let there = start.place r few in
      omega (arith, sum_grows (part_length s rs) q r le)

  part_long : (k i : ℕ) → k < node_count s → i < 3 → part_len places (3 * k + i) ≡ length (node_part s k (column s rs k) i)
  unfolding part_length
  part_long k i lt few = (part_step (3 * k + i) (omega arith)).1 ∙ ap length (node_part_lem s rs k i few)

  -- at first no node has rows
  part_blank : (k i : ℕ) → k < node_count s → i < 3 → part_bytes places f.out (3 * k + i) ≡ zeros (part_len places (3 * k + i))
  part_blank k i lt few =
      zeros_there f.out (get_or places (3 * k + i) 0) (part_len places (3 * k + i)) (λ m less.
      let low : get_or places 0 0 ≤ get_or places (3 * k + i) 0 = rise 0 (3 * k + i) (omega arith) (omega arith) in
      let high : get_or places (suc (3 * k + i)) 0 ≤ get_or places (3 * node_count s) 0 = rise (suc (3 * k + i)) (3 * node_count s) (omega arith) (omega arith) in
      let first = start.place 0 (omega arith) in
      let last = start.place (3 * node_count s) (omega arith) in
      start.blank (get_or places (3 * k + i) 0 + m) (omega arith) (omega (arith, (part_step (3 * k + i) (omega arith)).0)))

  held : (k : ℕ) → k < node_count s → Holds s places f k none
  unfolding count total each_bytes each_number bits_number
  held k lt =
      let few : k < 256 = omega (arith, image.tables.few_nodes) in
      record {
        rows = rw rows_none (get_or-replicate {A = ℕ} 256 k 0 0 few);
        spans = rw spans_none (get_or-replicate {A = ℕ} 256 k 0 0 few);
        part = λ i less.
            let blank = blank_part s k (column s rs k) i less in
            part_blank k i lt less ∙ sym (ap (padded (part_len places (3 * k + i))) blank.is ∙ padded_none (part_len places (3 * k + i)) blank.size (omega (arith, blank.fits, part_long k i lt less)));
        even = λ e. sym (zero-mul (element_width s k));
        texts = λ e. refl;
        bits = λ e. omega arith;
      }

  ready : Ready s places f
  ready =
      record {
        accepted = start.accepted;
        coded = start.coded;
        rise = rise;
        inside = rw (start.place (3 * node_count s) (omega arith)) start.inside;
        short = rw (start.place (3 * node_count s) (omega arith)) start.short;
        held = λ k lt. record { rows = none; holds = held k lt };
      }

  -- there is room for the rows of each column
  column_room : (k : ℕ) → k < node_count s → Room s places k (count (column s rs k)) (total (column s rs k))
  unfolding child_end
  column_room k lt =
      let zeroth : 3 * k + 0 ≡ 3 * k = omega arith in
      let long : (i : ℕ) → i < 3 → part_len places (3 * k + i) ≡ part_length s rs (3 * k + i) = λ i less. (part_step (3 * k + i) (omega arith)).1 in
      record {
        few = start.few k lt;
        near = λ e.
            let child : first_child s k < node_count s = omega (arith, (image.node k lt).tree.exactly 1 (rw e), (image.node k lt).tree.ends) in
            omega (arith, list_child s image start.coded rs typed k lt e, start.few (first_child s k) child);
        bitmap = λ takes.
            let size : part_length s rs (3 * k + 0) ≡ (count (column s rs k) + 7) / 8 = rw zeroth (bitmap_length_lem s rs k (layout_of (code_of s k)) refl ∙ rw takes) in
            omega (arith, long 0 (omega arith));
        bits = λ e. omega (arith, long 1 (omega arith), (boolean_lengths s rs k e).first);
        values = λ e. omega (arith, long 1 (omega arith), (fixed_lengths s image start.coded rs typed k lt e).first);
        text_offsets = λ e. omega (arith, long 1 (omega arith), (text_lengths s image start.coded rs typed k lt e).first);
        list_offsets = λ e. omega (arith, long 1 (omega arith), (list_lengths s rs k e).first);
        text = λ e. omega (arith, long 2 (omega arith), (text_lengths s image start.coded rs typed k lt e).second);
      }

  -- what the rows of the root give a node is its column
  given : (j : ℕ) → j < node_count s → from_each (λ q. gives 16 s 0 q j) rs ≡ column s rs j
  given j lt = sym (columns_given s image start.coded rs typed j lt)

  pub whole_walk : RowsWalk s places b 16 0 n f
  unfolding rows_in count total
  whole_walk =
      record {
        node = omega (arith, image.tables.some_nodes);
        walk = record {
          ready = ready;
          reads = record { rest = []; is = start.read };
          rooms = record {
            room = λ j lt.
                let none_yet = held j lt in
                rw (given j lt, none_yet.rows, none_yet.spans, zero-add (count (column s rs j)), zero-add (total (column s rs j))) (column_room j lt);
          };
        };
      }

  module _ {f' : State} {e : List ℕ} (done : RowsWalked s places b 16 0 n f f' e) where
    filled_parts : (k i : ℕ) → k < node_count s → i < 3 → part_bytes places f'.out (3 * k + i) ≡ part_at s rs (3 * k + i)
    unfolding rows_in rows_then
    filled_parts k i lt few =
        let h = done.done.filled.holds k none lt (held k lt) in
        let all : Holds s places f' k (column s rs k) = rw (given k lt) at h in
        all.part i few ∙ padded_full (part_len places (3 * k + i)) (node_part s k (column s rs k) i) (sym (part_long k i lt few)) ∙ sym (node_part_lem s rs k i few)

    filled_part : (q : ℕ) → q < 3 * node_count s → part_bytes places f'.out q ≡ part_at s rs q
    filled_part q lt =
        let is : 3 * (q / 3) + q % 3 ≡ q = omega arith in
        rw is at (filled_parts (q / 3) (q % 3) (omega arith) (omega arith))

    all_parts : (m : ℕ) → m ≤ 3 * node_count s → bytes_at f'.out (get_or places 0 0) (get_or places m 0 - get_or places 0 0) ≡ pieces (part_at s rs) 0 m
    unfolding pieces bytes_at part_length
    all_parts zero le =
        let nothing : get_or places 0 0 - get_or places 0 0 ≡ 0 = omega arith in
        rw nothing
    all_parts (suc m) le =
        let low = rise 0 m (omega arith) (omega arith) in
        let step = (part_step m (omega arith)).0 in
        let size : get_or places (suc m) 0 - get_or places 0 0 ≡ (get_or places m 0 - get_or places 0 0) + part_len places m = omega arith in
        let there : get_or places 0 0 + (get_or places m 0 - get_or places 0 0) ≡ get_or places m 0 = omega arith in
        rw (size, bytes_add f'.out (get_or places 0 0) (get_or places m 0 - get_or places 0 0) (part_len places m), there, all_parts m (omega arith), filled_part m (omega arith))
        (sym (pieces_snoc (part_at s rs) (part_length s rs) (λ i. refl) 0 m ∙ ap (λ (x : ℕ). pieces (part_at s rs) 0 m ++ part_at s rs x) (zero-add m)))

    pub parts_filled : f'.out ≡ over f.out (part_start s rs 0) (pieces (part_at s rs) 0 (3 * node_count s))
    parts_filled =
        let first = start.place 0 (omega arith) in
        let last = start.place (3 * node_count s) (omega arith) in
        let low = rise 0 (3 * node_count s) (omega arith) (omega arith) in
        let t = done.done.filled in
        let end : get_or places 0 0 + (get_or places (3 * node_count s) 0 - get_or places 0 0) ≡ get_or places (3 * node_count s) 0 = omega arith in
        rw (← first, ← all_parts (3 * node_count s) (omega arith))
        (changed_within f.out f'.out (get_or places 0 0) (get_or places (3 * node_count s) 0 - get_or places 0 0) t.long (omega (arith, ready.inside)) (λ p e. t.outside p (⊎_map p e end)))
      where
        ⊎_map : (p : ℕ) → (p < get_or places 0 0) ⊎ (get_or places 0 0 + (get_or places (3 * node_count s) 0 - get_or places 0 0) ≤ p) → get_or places 0 0 + (get_or places (3 * node_count s) 0 - get_or places 0 0) ≡ get_or places (3 * node_count s) 0 → (p < get_or places 0 0) ⊎ (get_or places (3 * node_count s) 0 ≤ p)
        ⊎_map p (inl lt) end = inl lt
        ⊎_map p (inr le) end = inr (rw end at le)
