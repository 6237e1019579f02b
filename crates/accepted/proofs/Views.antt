-- The views of elements that are not null lie inside the image, and so do their bytes.
-- A short view holds its bytes; of a long one acceptance gives the data buffer and the place in it.
use mathlib.Core.Path.{◌≡◌, refl, ◌∙◌}
use mathlib.Core.List.{List}
use Prim.Native.Nat.{ℕ, ◌+◌, ◌*◌, ◌<◌, ◌≤◌, ◌^◌}
use native.Mathlib.Omega.{arith}
use native.Mathlib.Nat.{add-zero}
use lib.ListN.{length}
use borrow.Author.Tests.{le-leb, lt-leb}
use Rattle.image.specs.declared.type_code.Layout.TheVariants.{View}
use Rattle.image.specs.Bytes.{number_at}
use Rattle.image.specs.Record.{entry_size, code_of, offset_of, elements_of, first_buffer, buffer_place, buffer_length, buffer_count, entry_place, tables_end}
use Rattle.image.specs.TypeCode.{layout_of}
use Rattle.image.specs.Element.{element_place, view_length, view_buffer, view_offset, view_data}
use Rattle.image.specs.Reads.{Read}
use Rattle.image.proofs.Entries.{entry_from_lem}
use Rattle.laws.specs.Accepted.{ViewInside}
use Rattle.accepted.specs.Parts.{Part, Viewed, ViewBytes, ViewsRead, ViewRow, view_place}
use Rattle.accepted.proofs.Nodes.{part_node, part_row}

-- the bytes of a short view stand in it
pub shown_short : {s : List ℕ} {k e v : ℕ} → Viewed s k e v → view_length s v ≤ 12 → ViewBytes s k v (v + 4)
unfolding view_data
shown_short {s} {v = v} r le =
    let fits : v + 16 ≤ length s = r.fits in
    record { place = rw (le-leb (view_length s v) 12 le); inside = omega arith }

-- those of a long one in a data buffer
module _ {s : List ℕ} {k e v : ℕ} (r : Viewed s k e v) (long : 12 < view_length s v) where
  pub data_buffer : 1 + view_buffer s v < buffer_count s k
  data_buffer = r.view.buffer long

  pub few_buffers : 1 + view_buffer s v < 2 ^ 16
  few_buffers = omega (arith, data_buffer, r.tables.few_buffers, r.buffers.ends)

  -- its number as it is read
  module _ {b : ℕ} (eb : b ≡ 1 + view_buffer s v) where
    pub entry_inside : e + b * entry_size + 4 ≤ length s
    unfolding tables_end entry_place
    entry_inside = omega (arith, eb, r.entries, data_buffer, r.tables.inside, r.buffers.ends)

    pub entry_small : e + b * entry_size < 2 ^ 64
    entry_small = omega (arith, entry_inside, r.tables.size)

    pub shown_long : {p o : ℕ} → p ≡ number_at 4 s (e + b * entry_size) → o ≡ number_at 4 s (v + 12) → ViewBytes s k v (p + o)
    unfolding view_data view_offset buffer_place
    shown_long {p} {o} ep eo =
        let place : p ≡ buffer_place s k (1 + view_buffer s v) = rw (entry_from_lem s k (1 + view_buffer s v) r.entries, ← eb) ep in
        let stored : o + view_length s v ≤ buffer_length s k (1 + view_buffer s v) = rw eo (r.view.inside long) in
        let buffer : buffer_place s k (1 + view_buffer s v) + buffer_length s k (1 + view_buffer s v) ≤ length s = r.buffers.inside (1 + view_buffer s v) data_buffer in
        record { place = rw (lt-leb (view_length s v) 12 long, place, eo); inside = omega arith }

-- where the entries start, as it is read
pub entries_read : (s : List ℕ) (k bits : ℕ) {e : ℕ} → Read (entry_place s (first_buffer s k + 0)) bits e → e ≡ entry_place s (first_buffer s k)
entries_read s k bits r = r.value ∙ simp add-zero

-- the view of a row, as it is read
module _ {s : List ℕ} {k first e i : ℕ} (read : ViewsRead s k first e) (r : ViewRow s k i) where
  pub place_read : first + i * 16 ≡ view_place s k i
  place_read = omega (arith, read.start)

  pub row_small : first + i * 16 < 2 ^ 64
  row_small = omega (arith, place_read, r.fits, r.tables.size)

  pub row_viewed : Viewed s k e (first + i * 16)
  row_viewed = rw place_read (record { tables = r.tables; buffers = r.buffers; entries = read.entries; fits = r.fits; view = r.view })

-- the view of an element, as it is read
module _ {s : List ℕ} {k j : ℕ} (r : Part s k j 1) (views : layout_of (code_of s k) ≡ View) {p : ℕ} (ep : p ≡ buffer_place s k 0) where
  pub view_place_lem : p + j * 16 ≡ element_place s k j
  unfolding element_place
  view_place_lem = rw ((part_node r).widths.view views, ep)

  element_inside : ViewInside s k (p + j * 16)
  element_inside = rw view_place_lem (part_row r (λ x. ViewInside s k (element_place s k x)) ((part_node r).rows.view views))

  element_fits : p + j * 16 + 16 ≤ length s
  element_fits =
      let node = part_node r in
      let some : 1 ≤ buffer_count s k = node.buffers.at_least 1 (rw views) in
      let buffer : buffer_place s k 0 + buffer_length s k 0 ≤ length s = node.buffers.inside 0 (omega arith) in
      let enough : elements_of s k * 16 ≤ buffer_length s k 0 = rw (node.widths.view views) at (node.enough.view views) in
      omega (arith, r.high, ep)

  pub viewed : {e : ℕ} → Read (entry_place s (first_buffer s k + 0)) 40 e → Viewed s k e (p + j * 16)
  viewed er = record { tables = r.image.tables; buffers = (part_node r).buffers; entries = entries_read _ _ _ er; fits = element_fits; view = element_inside }

-- the same of a row
pub view_row_lem : {s : List ℕ} {k i : ℕ} → Part s k (offset_of s k + i) 1 → layout_of (code_of s k) ≡ View → ViewRow s k i
view_row_lem r views = record { tables = r.image.tables; buffers = (part_node r).buffers; fits = element_fits r views refl; view = element_inside r views refl }
