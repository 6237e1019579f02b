-- A stretch of rows, one after another, those of one run at once: they are the same row.
-- So the first of them, put or measured, tells the bytes of the others, which are the next pieces of the whole.
use mathlib.Core.Path.{◌≡◌, sym, ap, ◌∙◌}
use mathlib.Core.List.{List, [], ◌++◌, append_assoc}
use Prim.Native.Nat.{ℕ, zero, suc, ◌+◌, ◌*◌, ◌-◌, ◌<◌, ◌≤◌, ◌^◌}
use native.Mathlib.Omega.{arith}
use lib.ListN.{length, length-append}
use Rattle.std.specs.Prelude.{Option, Some, None}
use Rattle.image.specs.Record.{offset_of}
use Rattle.image.specs.Ranges.{pieces}
use Rattle.image.specs.Bytes.{bytes_at}
use Rattle.image.specs.Row.{row_at, range}
use Rattle.image.specs.RowBytes.{row_bytes, rows_bytes}
use Rattle.accepted.specs.declared.column.Column.{Column}
use Rattle.accepted.specs.declared.column.Cursor.{Cursor}
use Rattle.accepted.specs.declared.column.Stay.{Stay}
use Rattle.accepted.specs.declared.column.KeptRun.{KeptRun}
use Rattle.accepted.specs.Parts.{Side}
use Rattle.accepted.specs.Runs.{Stays, Remembered, remembering, kept_run}
use Rattle.accepted.proofs.Columns.{behind_kept, node_few, remembered_now, same_row_lem}
use Rattle.rows.proofs.RowParts.{side_few}
use Rattle.rows.specs.Output.{over, repeated, room_after, Fits}
use Rattle.rows.proofs.Joined.{joined_start, joined_first, rows_joined}
use Rattle.rows.proofs.Over.{ToPut, put_start, put_place, put_done, PiecesToPut, pieces_start, pieces_fit, pieces_more, pieces_place, pieces_done, put_as, put_fits, put_more}
use Rattle.rows.proofs.Repeats.{repeated_length, Stands, stands_put}
use Rattle.rows.proofs.Rooms.{PiecesToMeasure, measuring_more, measuring_short, measuring_done, measure_more, measure_short, left_told, fits_left}

-- the bytes of row j
abbrev pub bytes_of : ℕ → List ℕ → ℕ → ℕ → List ℕ
bytes_of depth s k j = row_bytes (row_at depth s k j)

-- those of n rows from row i on
abbrev pub stretch_of : ℕ → List ℕ → ℕ → ℕ → ℕ → List ℕ
stretch_of depth s k i n = rows_bytes (range (row_at depth s k) i n)

-- pieces of which the first m are the same bytes
joined_same : (p : ℕ → List ℕ) (i n m : ℕ) (b : List ℕ) → m ≤ n → ((h : ℕ) → h < m → p (i + h) ≡ b) → pieces p i n ≡ repeated m b ++ pieces p (i + m) (n - m)
unfolding repeated
joined_same p i n zero b le same = sym (joined_start p i n)
joined_same p i n (suc m) b le same =
    let here : i + 0 ≡ i = omega arith in
    let place : i + 1 + m ≡ i + suc m = omega arith in
    let count : n - 1 - m ≡ n - suc m = omega arith in
    let first : p i ≡ b = rw here at (same 0 (omega arith)) in
    let rest : pieces p (i + 1) (n - 1) ≡ repeated m b ++ pieces p (i + 1 + m) (n - 1 - m) = joined_same p (i + 1) (n - 1) m b (omega arith) (λ h lt.
    let e : i + 1 + h ≡ i + suc h = omega arith in
    rw e (same (suc h) (omega arith))) in
    joined_first p i n (omega arith) ∙ rw (first, rest, place, count) (sym (append_assoc b (repeated m b) (pieces p (i + suc m) (n - suc m))))

-- no rows
module _ (depth : ℕ) (s : List ℕ) (k : ℕ) (i n : ℕ) (none : n ≡ 0) where
  none_bytes : stretch_of depth s k i n ≡ []
  unfolding range rows_bytes
  none_bytes = rw none

  pub none_written : {at : ℕ} {out : List ℕ} → Fits out at (stretch_of depth s k i n) → (at ≡ at + length (stretch_of depth s k i n)) × (out ≡ over out at (stretch_of depth s k i n))
  none_written {at} {out} fits =
      let all : ToPut out at (stretch_of depth s k i n) out at [] = put_as (put_start fits) none_bytes in
      (put_place all, put_done all)

  pub none_measured : (room : ℕ) → Some room ≡ room_after room (length (stretch_of depth s k i n))
  none_measured room =
      let e : room ≡ room - length (stretch_of depth s k i n) = omega (arith, ap length none_bytes) in
      ap Some e ∙ fits_left room (length (stretch_of depth s k i n)) (omega (arith, ap length none_bytes))

-- the run that is kept at a row that is there
pub row_kept : (c : Cursor) → Side c.column.now.node.image.now c.column.now.node.number c.row 1 → c.run ≡ kept_run c.column.now.node.image.now c.column.now.node.number (c.column.now.offset + c.row)
row_kept c r =
    let place = c.column.now.read.offset.value in
    rw place (behind_kept r (omega arith) c.behind).same

-- Of n rows from row i on, those before a cursor's row are done.
pub record Walking (s : List ℕ) (k : ℕ) (i n : ℕ) (c : Cursor) : Type 0 where
  pub image : c.column.now.node.image.now ≡ s
  pub number : c.column.now.node.number ≡ k
  pub from : i ≤ c.row
  pub few : c.row ≤ i + n

module _ {s : List ℕ} {k : ℕ} {i n : ℕ} (c : Cursor) (w : Walking s k i n c) where
  -- the row as the next of the stretch
  here : i + (c.row - i) ≡ c.row
  here = omega (arith, w.from)

  -- what the row asks for, and what remembering its run does
  module _ (r : Side s k i n) where
    pub row_asks : c.row < i + n → Side c.column.now.node.image.now c.column.now.node.number c.row 1
    row_asks lt = rw (w.image, w.number) (record { image = r.image; node = r.node; rows = omega (arith, r.rows) })

    pub remember_asks : (c.column.now.node.number < 256) × (c.column.now.offset + c.row < 2 ^ 34)
    remember_asks =
        let few : offset_of c.column.now.node.image.now c.column.now.node.number + i + n ≤ 1073741824 = rw (w.image, w.number) (side_few r) in
        (rw w.number (node_few r), omega (arith, c.column.now.read.offset.value, few, w.few))

    pub remembered_behind : {runs after : List (Option KeptRun)} → after ≡ remembering runs c → Remembered s runs → Remembered s after
    remembered_behind e t = rw w.image at (remembered_now c e (rw w.image t) remember_asks.0)

  -- the rows of its run
  module _ (stay : Stay) (st : Stays c (i + n - c.row) stay) where
    pub walking_more : Walking s k i n stay.next
    walking_more = record { image = ap (λ x. x.now.node.image.now) st.column ∙ w.image; number = ap (λ x. x.now.node.number) st.column ∙ w.number; from = omega (arith, st.row, w.from); few = omega (arith, st.row, st.within, w.few) }

    behind : stay.next.row - i ≡ c.row - i + 1 + (stay.rows - 1)
    behind = omega (arith, st.row, st.some, w.from)

    -- behind the row they are the same row
    module _ (depth : ℕ) (r : Side s k i n) where
      rows_same : (q : ℕ) → q < stay.rows - 1 → bytes_of depth s k (i + (c.row - i + 1) + q) ≡ bytes_of depth s k c.row
      rows_same q lt =
          let e : c.row + 0 ≡ c.row = omega arith in
          let f : c.row + (1 + q) ≡ i + (c.row - i + 1) + q = omega (arith, w.from) in
          ap row_bytes (rw (e, f) at (sym (same_row_lem r.image r.node (rw (w.image, w.number) at (st.same 0 st.some)) (rw (w.image, w.number) at (st.same (1 + q) (omega arith))) depth)))

      others_same : pieces (bytes_of depth s k) (i + (c.row - i + 1)) (n - (c.row - i + 1)) ≡ repeated (stay.rows - 1) (bytes_of depth s k c.row) ++ pieces (bytes_of depth s k) (i + (stay.next.row - i)) (n - (stay.next.row - i))
      others_same =
          let place : i + (c.row - i + 1) + (stay.rows - 1) ≡ i + (stay.next.row - i) = omega (arith, behind) in
          let count : n - (c.row - i + 1) - (stay.rows - 1) ≡ n - (stay.next.row - i) = omega (arith, behind) in
          rw (place, count) at (joined_same (bytes_of depth s k) (i + (c.row - i + 1)) (n - (c.row - i + 1)) (stay.rows - 1) (bytes_of depth s k c.row) (omega (arith, w.from, st.within, st.some)) rows_same)

-- They are put.
pub record Writing (depth : ℕ) (s : List ℕ) (k : ℕ) (i n : ℕ) (out₀ : List ℕ) (at : ℕ) (out : List ℕ) (next : ℕ) (c : Cursor) : Type 0 where
  pub walk : Walking s k i n c
  pub put : PiecesToPut (bytes_of depth s k) i n out₀ at out next (c.row - i)

pub writing_start : (depth : ℕ) {s : List ℕ} {k : ℕ} {i n : ℕ} {column : Column} (c : Cursor) {out : List ℕ} {at : ℕ} → Fits out at (stretch_of depth s k i n) → c.column.now ≡ column → column.node.image.now ≡ s → column.node.number ≡ k → c.row ≡ i → Writing depth s k i n out at out at c
writing_start depth {s} {k} {i} {n} c fits e f h g =
    let none : c.row - i ≡ 0 = omega (arith, g) in
    record {
      walk = record { image = ap (λ (x : Column). x.node.image.now) e ∙ f; number = ap (λ (x : Column). x.node.number) e ∙ h; from = omega (arith, g); few = omega (arith, g) };
      put = rw none (pieces_start (bytes_of depth s k) i n (rw (rows_joined (row_at depth s k) i n) at fits));
    }

module _ {depth : ℕ} {s : List ℕ} {k : ℕ} {i n : ℕ} {out₀ : List ℕ} {at : ℕ} {out : List ℕ} {next : ℕ} (c : Cursor) (w : Writing depth s k i n out₀ at out next c) where
  -- the rows of a run: the first is put, and then the others
  module _ (lt : c.row < i + n) where
    pub row_fits : Fits out next (bytes_of depth c.column.now.node.image.now c.column.now.node.number c.row)
    row_fits = rw (w.walk.image, w.walk.number) (rw (here c w.walk) at (pieces_fit w.put (omega (arith, w.walk.from))))

    module _ (r : Side s k i n) (stay : Stay) (st : Stays c (i + n - c.row) stay) {end : ℕ} {one : List ℕ}
        (f : (end ≡ next + length (bytes_of depth c.column.now.node.image.now c.column.now.node.number c.row)) × (one ≡ over out next (bytes_of depth c.column.now.node.image.now c.column.now.node.number c.row))) where
      row_put : (end ≡ next + length (bytes_of depth s k c.row)) × (one ≡ over out next (bytes_of depth s k c.row))
      row_put = rw (w.walk.image, w.walk.number) at f

      one_put : PiecesToPut (bytes_of depth s k) i n out₀ at one end (c.row - i + 1)
      one_put = pieces_more w.put (omega (arith, w.walk.from)) (rw (here c w.walk) row_put.1) (rw (here c w.walk) row_put.0)

      row_stands : Stands one next end (bytes_of depth s k c.row)
      row_stands = stands_put (rw (w.walk.image, w.walk.number) at row_fits) row_put.1 row_put.0

      row_size : end - next ≡ length (bytes_of depth s k c.row)
      row_size = omega (arith, row_put.0)

      others_size : length (repeated (stay.rows - 1) (bytes_of depth s k c.row)) ≡ (stay.rows - 1) * (end - next)
      others_size = repeated_length (stay.rows - 1) (bytes_of depth s k c.row) ∙ ap (λ (x : ℕ). (stay.rows - 1) * x) (sym row_size)

      others_left : ToPut out₀ at (pieces (bytes_of depth s k) i n) one end (repeated (stay.rows - 1) (bytes_of depth s k c.row) ++ pieces (bytes_of depth s k) (i + (stay.next.row - i)) (n - (stay.next.row - i)))
      others_left = put_as one_put.put (others_same c w.walk stay st depth r)

      pub others_fit : (end - next ≤ end) × (end + (stay.rows - 1) * (end - next) ≤ length one)
      others_fit = (omega arith, omega (arith, others_size, (put_fits (repeated (stay.rows - 1) (bytes_of depth s k c.row)) (pieces (bytes_of depth s k) (i + (stay.next.row - i)) (n - (stay.next.row - i))) others_left).within))

      pub writing_more : {stop : ℕ} {all : List ℕ} → (stop ≡ end + length (repeated (stay.rows - 1) (bytes_at one (end - (end - next)) (end - next)))) × (all ≡ over one end (repeated (stay.rows - 1) (bytes_at one (end - (end - next)) (end - next))))
          → Writing depth s k i n out₀ at all stop stay.next
      writing_more {stop} {all} g =
          let from : end - (end - next) ≡ next = omega (arith, row_put.0) in
          let bytes : bytes_at one (end - (end - next)) (end - next) ≡ bytes_of depth s k c.row = rw (from, row_size) row_stands.same in
          record {
            walk = walking_more c w.walk stay st;
            put = record { put = put_more _ _ others_left (rw bytes at g.1) (rw bytes at g.0) };
          }

  pub writing_done : i + n ≤ c.row → (next ≡ at + length (stretch_of depth s k i n)) × (out ≡ over out₀ at (stretch_of depth s k i n))
  writing_done le = rw (rows_joined (row_at depth s k) i n) (pieces_place w.put (omega arith), pieces_done w.put (omega arith))

-- They are measured.
pub record Measuring (depth : ℕ) (s : List ℕ) (k : ℕ) (i n room left : ℕ) (c : Cursor) : Type 0 where
  pub walk : Walking s k i n c
  pub measure : PiecesToMeasure (bytes_of depth s k) i n room left (c.row - i)

module _ {depth : ℕ} {s : List ℕ} {k : ℕ} {i n room left : ℕ} (c : Cursor) (m : Measuring depth s k i n room left c) where
  as_rows : room_after room (length (pieces (bytes_of depth s k) i n)) ≡ room_after room (length (stretch_of depth s k i n))
  as_rows = ap (λ (b : List ℕ). room_after room (length b)) (sym (rows_joined (row_at depth s k) i n))

  -- the rows of a run: the first is measured, and then the others
  module _ (lt : c.row < i + n) where
    less : c.row - i < n
    less = omega (arith, m.walk.from)

    row_is : bytes_of depth c.column.now.node.image.now c.column.now.node.number c.row ≡ bytes_of depth s k (i + (c.row - i))
    row_is = rw (m.walk.image, m.walk.number, here c m.walk)

    pub row_short : None ≡ room_after left (length (bytes_of depth c.column.now.node.image.now c.column.now.node.number c.row)) → None ≡ room_after room (length (stretch_of depth s k i n))
    row_short f = measuring_short m.measure less (rw row_is at f) ∙ as_rows

    module _ {one : ℕ} (f : Some one ≡ room_after left (length (bytes_of depth c.column.now.node.image.now c.column.now.node.number c.row))) where
      pub row_took : left ≡ one + length (bytes_of depth c.column.now.node.image.now c.column.now.node.number c.row)
      row_took = left_told left (length (bytes_of depth c.column.now.node.image.now c.column.now.node.number c.row)) one f

      one_left : PiecesToMeasure (bytes_of depth s k) i n room one (c.row - i + 1)
      one_left = measuring_more m.measure less (rw row_is at f)

      module _ (r : Side s k i n) (stay : Stay) (st : Stays c (i + n - c.row) stay) where
        others_measured : length (pieces (bytes_of depth s k) (i + (c.row - i + 1)) (n - (c.row - i + 1))) ≡ (stay.rows - 1) * (left - one) + length (pieces (bytes_of depth s k) (i + (stay.next.row - i)) (n - (stay.next.row - i)))
        others_measured =
            let size : length (bytes_of depth s k c.row) ≡ left - one = omega (arith, rw (m.walk.image, m.walk.number) at row_took) in
            ap length (others_same c m.walk stay st depth r)
            ∙ length-append (repeated (stay.rows - 1) (bytes_of depth s k c.row)) (pieces (bytes_of depth s k) (i + (stay.next.row - i)) (n - (stay.next.row - i)))
            ∙ rw (repeated_length (stay.rows - 1) (bytes_of depth s k c.row), size)

        pub others_short : None ≡ room_after one ((stay.rows - 1) * (left - one)) → None ≡ room_after room (length (stretch_of depth s k i n))
        others_short g = measure_short one_left.measure _ _ others_measured g ∙ as_rows

        pub measured_more : {all : ℕ} → Some all ≡ room_after one ((stay.rows - 1) * (left - one)) → Measuring depth s k i n room all stay.next
        measured_more g = record {
          walk = walking_more c m.walk stay st;
          measure = record { measure = measure_more one_left.measure _ _ others_measured g };
        }

  pub measured_done : i + n ≤ c.row → Some left ≡ room_after room (length (stretch_of depth s k i n))
  measured_done le = measuring_done m.measure (omega arith) ∙ as_rows
