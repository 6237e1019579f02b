-- Where the parts of a built image stand, and what its header, records and entries say.
-- The image is sections that are joined; a field is read in its section and computed there.
use mathlib.Core.Path.{◌≡◌, refl, ap, subst, ◌∙◌}
use mathlib.Core.Bool.{Bool, true, false, cond}
use mathlib.Core.List.{List, ◌++◌}
use Prim.Native.Nat.{ℕ, zero, suc, ◌+◌, ◌*◌, ◌/◌, ◌%◌, ◌≤◌, ◌<◌}
use native.Mathlib.Nat.{zero-add, add-zero, suc-mul}
use native.Mathlib.Omega.{arith}
use lib.ListN.{length, length-append}
use lib.Dec.{eqb}
use borrow.Author.Tests.{ne_eqb}
use Rattle.image.specs.Ranges.{sum_to, pieces}
use Rattle.image.specs.Bytes.{byte_at, AllBytes, number_at, number_bytes}
use Rattle.image.specs.Record.{node_count, buffer_total, record_place, entry_place, tables_end, code_of, flags_of, id_of, name_length, p1_of, p2_of, length_of, offset_of, name_place, bitmap_place, bitmap_length, first_bit, first_child, child_count, first_buffer, buffer_count, buffer_start, buffer_place, buffer_length, has_bitmap}
use Rattle.image.specs.TypeCode.{layout_of, takes_bitmap}
use Rattle.image.specs.Types.{name_of}
use Rattle.image.specs.Row.{Rows}
use Rattle.image.specs.RowBytes.{count}
use Rattle.image.proofs.Numbers.{number_two, number_four}
use Rattle.laws.specs.Accepted.{AcceptedImage}
use Rattle.laws.proofs.Lengths.{bytes_length}
use Rattle.image.specs.Built.{column, part_at, part_length, part_start, name_start, record_of, buffer_entry, entries_of, built_image, u16}
use Rattle.built.proofs.Regions.{PartOf, part_byte, part_number, part_inside, part_in, part_front, left_part, right_part, pieces_length, pieces_part}

-- a part that stands at the same place, differently said
part_at_lem : {s y : List ℕ} {a b : ℕ} → a ≡ b → PartOf s a y → PartOf s b y
part_at_lem {s} {y} e part = subst (λ (n : ℕ). PartOf s n y) e part

-- Pieces of one length.
module _ (p : ℕ → List ℕ) (w : ℕ) (each : (i : ℕ) → length (p i) ≡ w) where
  even_length : (i n : ℕ) → length (pieces p i n) ≡ n * w
  unfolding pieces
  even_length i zero = omega arith
  even_length i (suc n) = length-append (p i) (pieces p (suc i) n) ∙ rw (each i, even_length (suc i) n, suc-mul n w) (omega arith)

  even_part : (i n k : ℕ) → k < n → PartOf (pieces p i n) (k * w) (p (i + k))
  unfolding pieces
  even_part i zero k lt = absurd (omega arith)
  even_part i (suc n) zero lt =
      let e : 0 ≡ 0 * w = omega arith in
      rw (add-zero i) (part_at_lem e (left_part (p i) (pieces p (suc i) n)))
  even_part i (suc n) (suc k) lt =
      let e : length (p i) + k * w ≡ suc k * w = rw (each i, suc-mul k w) (omega arith) in
      let j : suc i + k ≡ i + suc k = omega arith in
      rw (← j) (part_at_lem e (part_in (right_part (p i) (pieces p (suc i) n)) (even_part (suc i) n k (omega arith))))

record_length : (s : List ℕ) (rs : Rows) (k : ℕ) → length (record_of s rs k) ≡ 44
unfolding record_of number_bytes
record_length s rs k = refl

entry_length : (s : List ℕ) (rs : Rows) (q : ℕ) → length (buffer_entry s rs q) ≡ 8
unfolding buffer_entry number_bytes
entry_length s rs q = refl

entries_length : (s : List ℕ) (rs : Rows) (k : ℕ) → length (entries_of s rs k) ≡ buffer_count s k * 8
unfolding entries_of
entries_length s rs k = even_length (buffer_entry s rs) 8 (entry_length s rs) (3 * k + 1) (buffer_count s k)

pub name_length_lem : (s : List ℕ) (k : ℕ) → length (name_of s k) ≡ name_length s k
unfolding name_of
name_length_lem s k = bytes_length s _ _

-- eight times a sum
eightfold : (f : ℕ → ℕ) (n : ℕ) → sum_to (λ i. f i * 8) n ≡ sum_to f n * 8
unfolding sum_to
eightfold f zero = refl
eightfold f (suc n) =
    let h = eightfold f n in
    omega arith

module _ (s : List ℕ) (rs : Rows) (image : AcceptedImage s) where
  header : List ℕ
  header = u16 (node_count s) ++ u16 (buffer_total s)

  records : List ℕ
  records = pieces (record_of s rs) 0 (node_count s)

  entries : List ℕ
  entries = pieces (entries_of s rs) 0 (node_count s)

  names : List ℕ
  names = pieces (name_of s) 0 (node_count s)

  parts : List ℕ
  parts = pieces (part_at s rs) 0 (3 * node_count s)

  header_length : length header ≡ 4
  unfolding header number_bytes
  header_length = refl

  records_length : length records ≡ node_count s * 44
  unfolding records
  records_length = even_length (record_of s rs) 44 (record_length s rs) 0 (node_count s)

  all_entries_length : length entries ≡ buffer_total s * 8
  unfolding entries buffer_start
  all_entries_length =
      pieces_length (entries_of s rs) (λ k. buffer_count s k * 8) (entries_length s rs) (node_count s)
      ∙ eightfold (buffer_count s) (node_count s) ∙ ap (λ (n : ℕ). n * 8) image.buffers_total

  names_length : length names ≡ sum_to (name_length s) (node_count s)
  unfolding names
  names_length = pieces_length (name_of s) (name_length s) (name_length_lem s) (node_count s)

  parts_length : length parts ≡ sum_to (part_length s rs) (3 * node_count s)
  unfolding parts part_length
  parts_length = pieces_length (part_at s rs) (part_length s rs) (λ q. refl) (3 * node_count s)

  -- where the sections stand
  header_part : PartOf (built_image s rs) 0 header
  unfolding built_image header records entries names parts
  header_part = part_front parts (part_front names (part_front entries (left_part header records)))

  records_part : PartOf (built_image s rs) 4 records
  unfolding built_image header records entries names parts number_bytes
  records_part = part_front parts (part_front names (part_front entries (right_part header records)))

  entries_part : PartOf (built_image s rs) (record_place (node_count s)) entries
  unfolding built_image header records entries names parts record_place
  entries_part =
      part_at_lem (length-append header records ∙ omega (arith, header_length, records_length))
      (part_front parts (part_front names (right_part (header ++ records) entries)))

  tables_length : length (header ++ records ++ entries) ≡ tables_end s
  unfolding tables_end entry_place record_place
  tables_length =
      length-append (header ++ records) entries ∙ omega (arith, length-append header records, header_length, records_length, all_entries_length)

  names_part : PartOf (built_image s rs) (tables_end s) names
  unfolding built_image header records entries names parts
  names_part = part_at_lem tables_length (part_front parts (right_part (header ++ records ++ entries) names))

  parts_part : PartOf (built_image s rs) (name_start s (node_count s)) parts
  unfolding built_image header records entries names parts name_start
  parts_part =
      part_at_lem (length-append (header ++ records ++ entries) names ∙ omega (arith, tables_length, names_length))
      (right_part (header ++ records ++ entries ++ names) parts)

  -- how long the image is
  pub whole_length : length (built_image s rs) ≡ part_start s rs (3 * node_count s)
  unfolding built_image header records entries names parts name_start part_start
  whole_length =
      length-append (header ++ records ++ entries ++ names) parts
      ∙ omega (arith, length-append (header ++ records ++ entries) names, tables_length, names_length, parts_length)

  pub tables_inside : tables_end s ≤ length (built_image s rs)
  tables_inside = omega (arith, part_inside names_part)

  -- each record, name and part
  pub record_part : (k : ℕ) → k < node_count s → PartOf (built_image s rs) (record_place k) (record_of s rs k)
  unfolding records record_place
  record_part k lt = rw (zero-add k) at (part_in records_part (even_part (record_of s rs) 44 (record_length s rs) 0 (node_count s) k lt))

  pub name_part : (k : ℕ) → k < node_count s → PartOf (built_image s rs) (name_start s k) (name_of s k)
  unfolding names name_start
  name_part k lt = part_in names_part (pieces_part (name_of s) (name_length s) (name_length_lem s) (node_count s) k lt)

  pub part_part : (q : ℕ) → q < 3 * node_count s → PartOf (built_image s rs) (part_start s rs q) (part_at s rs q)
  unfolding parts part_start part_length
  part_part q lt = part_in parts_part (pieces_part (part_at s rs) (part_length s rs) (λ q. refl) (3 * node_count s) q lt)

  -- the entry of buffer j of node k
  pub entry_part : (k j : ℕ) → k < node_count s → j < buffer_count s k → PartOf (built_image s rs) (entry_place s (first_buffer s k + j)) (buffer_entry s rs (3 * k + 1 + j))
  unfolding entries entries_of entry_place buffer_start
  entry_part k j lt few =
      let sum : sum_to (λ i. buffer_count s i * 8) k ≡ sum_to (buffer_count s) k * 8 = eightfold (buffer_count s) k in
      let node = pieces_part (entries_of s rs) (λ k. buffer_count s k * 8) (entries_length s rs) (node_count s) k lt in
      let place : record_place (node_count s) + (sum_to (λ i. buffer_count s i * 8) k + j * 8) ≡ record_place (node_count s) + (first_buffer s k + j) * 8 =
      omega (arith, (image.node k lt).buffers.numbered) in
      part_at_lem place (part_in entries_part (part_in node (even_part (buffer_entry s rs) 8 (entry_length s rs) (3 * k + 1) (buffer_count s k) j few)))

-- numbers of two and of four bytes
small_two : (s : List ℕ) (i : ℕ) → AllBytes s → number_at 2 s i < 65536
small_two s i all = omega (arith, number_two s i, all i, all (i + 1))

small_four : (s : List ℕ) (i : ℕ) → AllBytes s → number_at 4 s i < 4294967296
small_four s i all = omega (arith, number_four s i, all i, all (i + 1), all (i + 2), all (i + 3))

-- numbers written byte by byte, read again
two_bytes : (x : ℕ) → x < 65536 → x % 256 + 256 * (x / 256 % 256 + 256 * 0) ≡ x
two_bytes x lt = omega arith

four_bytes : (x : ℕ) → x < 4294967296 → x % 256 + 256 * (x / 256 % 256 + 256 * (x / 256 / 256 % 256 + 256 * (x / 256 / 256 / 256 % 256 + 256 * 0))) ≡ x
four_bytes x lt = omega arith

-- What a built image that is not too long says.
module _ (s : List ℕ) (rs : Rows) (image : AcceptedImage s) (bytes : AllBytes s) (few : length (built_image s rs) ≤ 16777216) where
  pub nodes_kept : node_count (built_image s rs) ≡ node_count s
  unfolding header number_at number_bytes
  nodes_kept = part_number (header_part s rs image) 2 0 (omega (arith, header_length s rs image)) ∙ omega (arith, image.tables.few_nodes)

  pub buffers_kept : buffer_total (built_image s rs) ≡ buffer_total s
  unfolding header number_at number_bytes
  buffers_kept = part_number (header_part s rs image) 2 2 (omega (arith, header_length s rs image)) ∙ omega (arith, image.tables.few_buffers)

  -- a part's place is small
  pub start_small : (q : ℕ) → q < 3 * node_count s → part_start s rs q + part_length s rs q ≤ 16777216
  unfolding part_length
  start_small q lt = omega (arith, part_inside (part_part s rs image q lt))

  module _ (k : ℕ) (lt : k < node_count s) where
    field_one : (o : ℕ) → o + 1 ≤ 44 → byte_at (built_image s rs) (record_place k + o) ≡ byte_at (record_of s rs k) o
    field_one o le = part_byte (record_part s rs image k lt) o (omega (arith, record_length s rs k))

    field : (w o : ℕ) → o + w ≤ 44 → number_at w (built_image s rs) (record_place k + o) ≡ number_at w (record_of s rs k) o
    field w o le = part_number (record_part s rs image k lt) w o (omega (arith, record_length s rs k))

    pub code_kept : code_of (built_image s rs) k ≡ code_of s k
    unfolding record_of number_bytes
    code_kept = rw (add-zero (record_place k)) at (field_one 0 (omega arith)) ∙ omega (arith, (image.node k lt).known.code)

    pub flags_built : flags_of (built_image s rs) k ≡ flags_of s k % 2 + cond (takes_bitmap (layout_of (code_of s k))) 2 0
    unfolding record_of number_bytes
    flags_built = field_one 1 (omega arith) ∙ small (takes_bitmap (layout_of (code_of s k)))
      where
        small : (b : Bool) → (flags_of s k % 2 + cond b 2 0) % 256 ≡ flags_of s k % 2 + cond b 2 0
        small true = omega arith
        small false = omega arith

    pub id_zero : id_of (built_image s rs) k ≡ 0
    unfolding record_of number_bytes
    id_zero = field_one 2 (omega arith)

    pub name_length_kept : name_length (built_image s rs) k ≡ name_length s k
    unfolding record_of number_bytes
    name_length_kept = field_one 3 (omega arith) ∙ omega (arith, (image.node k lt).named.short)

    pub p1_kept : p1_of (built_image s rs) k ≡ p1_of s k
    unfolding record_of number_bytes number_at
    p1_kept = field 4 4 (omega arith) ∙ four_bytes (p1_of s k) (small_four s (record_place k + 4) bytes)

    pub p2_kept : p2_of (built_image s rs) k ≡ p2_of s k
    unfolding record_of number_bytes number_at
    p2_kept = field 4 8 (omega arith) ∙ four_bytes (p2_of s k) (small_four s (record_place k + 8) bytes)

    pub length_built : count (column s rs k) < 4294967296 → length_of (built_image s rs) k ≡ count (column s rs k)
    unfolding record_of number_bytes number_at
    length_built fits = field 4 12 (omega arith) ∙ four_bytes (count (column s rs k)) fits

    pub offset_zero : offset_of (built_image s rs) k ≡ 0
    unfolding record_of number_bytes number_at
    offset_zero = field 4 16 (omega arith)

    pub first_bit_zero : first_bit (built_image s rs) k ≡ 0
    unfolding record_of number_bytes number_at
    first_bit_zero = field 4 32 (omega arith)

    pub first_child_kept : first_child (built_image s rs) k ≡ first_child s k
    unfolding record_of number_bytes number_at
    first_child_kept = field 2 36 (omega arith) ∙ two_bytes (first_child s k) (small_two s (record_place k + 36) bytes)

    pub child_count_kept : child_count (built_image s rs) k ≡ child_count s k
    unfolding record_of number_bytes number_at
    child_count_kept = field 2 38 (omega arith) ∙ two_bytes (child_count s k) (small_two s (record_place k + 38) bytes)

    pub first_buffer_kept : first_buffer (built_image s rs) k ≡ first_buffer s k
    unfolding record_of number_bytes number_at
    first_buffer_kept = field 2 40 (omega arith) ∙ two_bytes (first_buffer s k) (small_two s (record_place k + 40) bytes)

    pub buffer_count_kept : buffer_count (built_image s rs) k ≡ buffer_count s k
    unfolding record_of number_bytes number_at
    buffer_count_kept = field 2 42 (omega arith) ∙ two_bytes (buffer_count s k) (small_two s (record_place k + 42) bytes)

    pub has_bitmap_built : has_bitmap (built_image s rs) k ≡ takes_bitmap (layout_of (code_of s k))
    unfolding has_bitmap
    has_bitmap_built = rw flags_built (bit (takes_bitmap (layout_of (code_of s k))))
      where
        bit : (b : Bool) → eqb ((flags_of s k % 2 + cond b 2 0) / 2 % 2) 1 ≡ b
        bit true =
            let e : (flags_of s k % 2 + 2) / 2 % 2 ≡ 1 = omega arith in
            rw e
        bit false =
            let e : (flags_of s k % 2 + 0) / 2 % 2 ≡ 0 = omega arith in
            rw e

    pub name_place_built : 0 < name_length s k → name_place (built_image s rs) k ≡ name_start s k
    unfolding record_of number_bytes number_at
    name_place_built some =
        let named : eqb (name_length s k) 0 ≡ false = ne_eqb (name_length s k) 0 (λ e. omega arith) in
        field 4 20 (omega arith) ∙ rw named (four_bytes (name_start s k) (omega (arith, part_inside (name_part s rs image k lt))))

    pub bitmap_place_built : takes_bitmap (layout_of (code_of s k)) ≡ true → bitmap_place (built_image s rs) k ≡ part_start s rs (3 * k)
    unfolding record_of number_bytes number_at
    bitmap_place_built takes = field 4 24 (omega arith) ∙ rw takes (four_bytes (part_start s rs (3 * k)) (omega (arith, start_small (3 * k) (omega arith))))

    pub bitmap_length_built : bitmap_length (built_image s rs) k ≡ part_length s rs (3 * k)
    unfolding record_of number_bytes number_at
    bitmap_length_built = field 4 28 (omega arith) ∙ four_bytes (part_length s rs (3 * k)) (omega (arith, start_small (3 * k) (omega arith)))

    -- buffer j, of at most two
    module _ (j : ℕ) (two : j < 2) (there : j < buffer_count s k) where
      entry_kept : entry_place (built_image s rs) (first_buffer (built_image s rs) k + j) ≡ entry_place s (first_buffer s k + j)
      unfolding entry_place
      entry_kept = rw (nodes_kept, first_buffer_kept)

      pub buffer_place_built : buffer_place (built_image s rs) k j ≡ part_start s rs (3 * k + 1 + j)
      unfolding buffer_place buffer_entry number_bytes number_at
      buffer_place_built =
          let small = start_small (3 * k + 1 + j) (omega arith) in
          let e : entry_place s (first_buffer s k + j) + 0 ≡ entry_place s (first_buffer s k + j) = omega arith in
          rw (entry_kept, ← e) (part_number (entry_part s rs image k j lt there) 4 0 (omega (arith, entry_length s rs (3 * k + 1 + j))) ∙ four_bytes (part_start s rs (3 * k + 1 + j)) (omega arith))

      pub buffer_length_built : buffer_length (built_image s rs) k j ≡ part_length s rs (3 * k + 1 + j)
      unfolding buffer_length buffer_entry number_bytes number_at
      buffer_length_built =
          let small = start_small (3 * k + 1 + j) (omega arith) in
          rw entry_kept (part_number (entry_part s rs image k j lt there) 4 4 (omega (arith, entry_length s rs (3 * k + 1 + j))) ∙ four_bytes (part_length s rs (3 * k + 1 + j)) (omega arith))
