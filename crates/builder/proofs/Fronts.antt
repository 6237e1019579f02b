-- What stands before the parts, put field by field and piece by piece.
-- Each list of fields is as long as its widths add up to; header, records, entries and names follow each other.
use mathlib.Core.Path.{◌≡◌, refl}
use mathlib.Core.Bool.{true}
use mathlib.Core.List.{List, [], ◌++◌}
use Prim.Native.Nat.{ℕ, ◌+◌, ◌≤◌, ◌<◌}
use native.Mathlib.Omega.{arith}
use lib.ListN.{length, length-append}
use Rattle.image.specs.Ranges.{pieces}
use Rattle.image.specs.Bytes.{number_bytes, bytes_at}
use Rattle.image.specs.Record.{node_count, buffer_total, code_of, name_length, name_place, buffer_count}
use Rattle.image.specs.TypeCode.{layout_of}
use Rattle.image.specs.Types.{name_of}
use Rattle.image.specs.Row.{none}
use Rattle.image.specs.Parse.{readable_code, readable}
use Rattle.laws.specs.Accepted.{AcceptedImage}
use Rattle.laws.proofs.Lengths.{number_length, bytes_length}
use Rattle.built.proofs.TypedColumns.{coded_at}
use Rattle.built.proofs.Accepts.{two_buffers}
use Rattle.rows.specs.Output.{over, Fits}
use Rattle.rows.proofs.Over.{ToPut, put_start, put_as, put_fits, put_more, put_last, put_place, put_done}
use Rattle.builder.specs.Front.{type_fields, row_fields, table_fields, record_from, entry_from, entries_from, front_from}
use Rattle.builder.proofs.Fields.{number_put}

-- Fields.

pub type_length : (s : List ℕ) (k : ℕ) → length (type_fields s k) ≡ 12
unfolding type_fields
type_length s k = simp (length-append, number_length)

pub row_length : (s lengths places : List ℕ) (k : ℕ) → length (row_fields s lengths places k) ≡ 24
unfolding row_fields
row_length s lengths places k = simp (length-append, number_length)

pub table_length : (s : List ℕ) (k : ℕ) → length (table_fields s k) ≡ 8
unfolding table_fields
table_length s k = simp (length-append, number_length)

pub entry_length : (places : List ℕ) (q : ℕ) → length (entry_from places q) ≡ 8
unfolding entry_from
entry_length places q = simp (length-append, number_length)

-- A record: its three parts.
module _ (s lengths places : List ℕ) (k : ℕ) {out : List ℕ} {at : ℕ} (fits : Fits out at (record_from s lengths places k)) where
  record_start : ToPut out at (record_from s lengths places k) out at (type_fields s k ++ (row_fields s lengths places k ++ table_fields s k))
  unfolding record_from
  record_start = put_start fits

  pub type_fits : Fits out at (type_fields s k)
  type_fits = put_fits _ _ record_start

  module _ {a : ℕ} {o : List ℕ} (first : (a ≡ at + length (type_fields s k)) × (o ≡ over out at (type_fields s k))) where
    type_put : ToPut out at (record_from s lengths places k) o a (row_fields s lengths places k ++ table_fields s k)
    type_put = put_more _ _ record_start first.1 first.0

    pub rows_fit : Fits o a (row_fields s lengths places k)
    rows_fit = put_fits _ _ type_put

    module _ {b : ℕ} {p : List ℕ} (second : (b ≡ a + length (row_fields s lengths places k)) × (p ≡ over o a (row_fields s lengths places k))) where
      rows_put : ToPut out at (record_from s lengths places k) p b (table_fields s k)
      rows_put = put_more _ _ type_put second.1 second.0

      pub tables_fit : Fits p b (table_fields s k)
      tables_fit = record { within = rows_put.fits }

      pub record_put : {c : ℕ} {q : List ℕ} → (c ≡ b + length (table_fields s k)) × (q ≡ over p b (table_fields s k)) → (c ≡ at + length (record_from s lengths places k)) × (q ≡ over out at (record_from s lengths places k))
      record_put third = put_last rows_put third.1 third.0

-- Entries: a node of a type that can be read has at most two buffers.
pub few_buffers : (s : List ℕ) → AcceptedImage s → readable s ≡ true → (k : ℕ) → k < node_count s → buffer_count s k ≤ 2
unfolding readable_code
few_buffers s image coded k node =
    two_buffers (layout_of (code_of s k)) (buffer_count s k) (code_of s k) refl (coded_at s image coded none k node) (image.node k node).buffers.exactly

-- Names.

module _ (s : List ℕ) (k : ℕ) {out : List ℕ} {at : ℕ} (fits : Fits out at (name_of s k)) where
  pub name_none : {n : ℕ} → n ≡ name_length s k → n ≡ 0 → (at ≡ at + length (name_of s k)) × (out ≡ over out at (name_of s k))
  unfolding name_of bytes_at
  name_none e empty =
      let zero-long : name_length s k ≡ 0 = omega arith in
      let t : ToPut out at (name_of s k) out at [] = put_as (put_start fits) (rw zero-long) in
      (put_place t, put_done t)

  pub name_fits : {n : ℕ} → n ≡ name_length s k → at + n ≤ length out
  unfolding name_of
  name_fits e = omega (arith, e, fits.within, bytes_length s (name_place s k) (name_length s k))

  pub name_put : {n place end : ℕ} {after : List ℕ} → n ≡ name_length s k → place ≡ name_place s k → (end ≡ at + length (bytes_at s place n)) × (after ≡ over out at (bytes_at s place n)) → (end ≡ at + length (name_of s k)) × (after ≡ over out at (name_of s k))
  unfolding name_of
  name_put e f put = (rw (← e, ← f) put.0, rw (← e, ← f) put.1)

-- Header, records, entries and names.
module _ (s lengths places : List ℕ) where
  abbrev records : List ℕ
  records = pieces (record_from s lengths places) 0 (node_count s)

  abbrev tables : List ℕ
  tables = pieces (entries_from s places) 0 (node_count s)

  abbrev names : List ℕ
  names = pieces (name_of s) 0 (node_count s)

  abbrev Rest : List ℕ → List ℕ → ℕ → List ℕ → Type 0
  Rest out o next rest = ToPut out 0 (front_from s lengths places) o next rest

  module _ {out : List ℕ} (fits : Fits out 0 (front_from s lengths places)) where
    front_start : Rest out out 0 (number_bytes 2 (node_count s) ++ (number_bytes 2 (buffer_total s) ++ (records ++ (tables ++ names))))
    unfolding front_from
    front_start = put_start fits

    pub header_fits : 4 ≤ length out
    header_fits =
        let rest : List ℕ = records ++ (tables ++ names) in
        omega (arith, front_start.fits, length-append (number_bytes 2 (node_count s)) (number_bytes 2 (buffer_total s) ++ rest), length-append (number_bytes 2 (buffer_total s)) rest, number_length 2 (node_count s), number_length 2 (buffer_total s))

    module _ {n a m b : ℕ} {o₁ o₂ : List ℕ} (nodes : n ≡ node_count s) (first : (a ≡ 0 + length (number_bytes 2 n)) × (o₁ ≡ over out 0 (number_bytes 2 n))) (buffers : m ≡ buffer_total s) (second : (b ≡ a + length (number_bytes 2 m)) × (o₂ ≡ over o₁ a (number_bytes 2 m))) where
      header_put : Rest out o₂ b (records ++ (tables ++ names))
      header_put = number_put 2 m (buffer_total s) buffers second (number_put 2 n (node_count s) nodes first front_start)

      pub records_fit : Fits o₂ b records
      records_fit = put_fits _ _ header_put

      module _ {c : ℕ} {o₃ : List ℕ} (third : (c ≡ b + length records) × (o₃ ≡ over o₂ b records)) where
        records_put : Rest out o₃ c (tables ++ names)
        records_put = put_more _ _ header_put third.1 third.0

        pub entries_fit : Fits o₃ c tables
        entries_fit = put_fits _ _ records_put

        module _ {d : ℕ} {o₄ : List ℕ} (fourth : (d ≡ c + length tables) × (o₄ ≡ over o₃ c tables)) where
          entries_put : Rest out o₄ d names
          entries_put = put_more _ _ records_put fourth.1 fourth.0

          pub names_fit : Fits o₄ d names
          names_fit = record { within = entries_put.fits }

          pub front_put : {e : ℕ} {o₅ : List ℕ} → (e ≡ d + length names) × (o₅ ≡ over o₄ d names) → (e ≡ length (front_from s lengths places)) × (o₅ ≡ over out 0 (front_from s lengths places))
          front_put fifth =
              let done = put_last entries_put fifth.1 fifth.0 in
              (omega (arith, done.0), done.1)
