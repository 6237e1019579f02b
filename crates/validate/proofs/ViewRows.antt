-- Which rows of views break a rule, and where the entries of their node's buffers stand.
-- A null row breaks none; any other does where its view does. Views and entries stand a fixed number of bytes apart.
use mathlib.Core.Path.{◌≡◌}
use mathlib.Core.Bool.{Bool, true, false}
use mathlib.Core.List.{List}
use Prim.Native.Nat.{ℕ, ◌+◌, ◌*◌, ◌<◌, ◌≤◌}
use native.Mathlib.Nat.{add-zero}
use native.Mathlib.Omega.{arith}
use lib.ListN.{length}
use Rattle.image.specs.Bytes.{number_at}
use Rattle.image.specs.Reads.{Read}
use Rattle.image.specs.Record.{entry_size, entry_place, first_buffer, buffer_count, length_of, offset_of, elements_of, buffer_place, buffer_length}
use Rattle.image.specs.Element.{valid, element_place}
use Rattle.image.specs.Faults.{view_fault, view_row_fault}
use Rattle.image.proofs.Entries.{entry_from_lem}
use Rattle.validate.specs.Views.{ViewsInside, Entries, ViewAt}

-- the entries and their number, as they are read
pub entries_read : {s : List ℕ} {k entries count : ℕ} → ViewsInside s k → Read (entry_place s (first_buffer s k + 0)) 40 entries → Read (buffer_count s k) 16 count → Entries s k entries count
entries_read r p q = record { inside = r; start = rw add-zero at p; number = q }

-- where the place and the length of buffer j stand in the entries
module _ {s : List ℕ} {k entries count : ℕ} (r : Entries s k entries count) (j : ℕ) where
  pub place_at : buffer_place s k j ≡ number_at 4 s (entries + j * entry_size)
  unfolding buffer_place
  place_at = rw (entry_from_lem s k j r.start.value)

  pub length_at : buffer_length s k j ≡ number_at 4 s (entries + j * entry_size + 4)
  unfolding buffer_length
  length_at = rw (entry_from_lem s k j r.start.value)

  -- they lie inside
  pub entry_inside : j < count → entries + j * entry_size + entry_size ≤ length s
  entry_inside lt = omega (arith, r.inside.entries, r.start.value, r.number.value)

  -- the first bytes of a long view's data lie inside
  pub data_inside : (at len : ℕ) {place size : ℕ} → j < count → 12 < len → place ≡ number_at 4 s (entries + j * entry_size) → size ≡ number_at 4 s (entries + j * entry_size + 4) → at + len ≤ size → place + at + 4 ≤ length s
  data_inside at len {place} {size} lt long ep es le =
      let p : place ≡ buffer_place s k j = rw place_at ep in
      let z : size ≡ buffer_length s k j = rw length_at es in
      omega (arith, r.inside.buffers j (omega (arith, r.number.value)))

pub null_row : (s : List ℕ) (k i : ℕ) → valid s k i ≡ false → view_row_fault s k i ≡ false
unfolding view_row_fault
null_row s k i e = rw e

-- the view of row i, 16 bytes after the one before it
module _ {s : List ℕ} {k place entries count : ℕ} (r : Entries s k entries count) (p : place ≡ buffer_place s k 0 + offset_of s k * 16) (i : ℕ) where
  -- a row that is not null is its view's
  pub view_row_lem : {b : Bool} → valid s k i ≡ true → b ≡ view_fault s k (place + i * 16) → b ≡ view_row_fault s k i
  unfolding view_row_fault element_place
  view_row_lem full e =
      let at : buffer_place s k 0 + (offset_of s k + i) * 16 ≡ place + i * 16 = omega (arith, p) in
      rw (full, r.inside.wide, at) e

  pub view_at : i < length_of s k → ViewAt s k (place + i * 16) entries count
  unfolding elements_of
  view_at lt = record {
    known = r;
    fits = omega (arith, p, r.inside.views);
  }
