-- Tables built from written rows: a string is read exactly where it is the bytes of rows, the built table is accepted, has the
-- given type and these rows, and is written as the string again; a written range is always read, and its table equals it.
-- Each theorem of a call takes the answer apart, and is then said of the image of the rows.
use mathlib.Core.Path.{◌≡◌, refl, sym, ap, subst, ◌∙◌}
use mathlib.Core.Bool.{Bool, true, false, cond, ◌||◌}
use mathlib.Core.List.{List, [], ◌∷◌, ◌++◌, append-nil}
use mathlib.Core.Logic.{◌↔◌}
use Prim.Native.Nat.{ℕ, ◌+◌, ◌≤◌}
use native.Mathlib.Omega.{arith}
use lib.ListN.{length, drop}
use lib.Seq.{drop_at}
use lib.Dec.{ltb}
use borrow.Author.Tests.{le-ltb}
use Rattle.std.proofs.Common.{Ok, Err}
use Rattle.image.specs.Bytes.{AllBytes}
use Rattle.image.specs.Ranges.{any}
use Rattle.image.specs.Record.{longest_image, max_depth, node_count, length_of}
use Rattle.image.specs.Row.{Rows, table_rows}
use Rattle.image.specs.RowBytes.{count, rows_bytes, range_bytes}
use Rattle.image.specs.Faults.{check_image}
use Rattle.image.specs.Parse.{Parsed, failed, parsed, readable, rows_in}
use Rattle.image.specs.Built.{built_image}
use Rattle.laws.proofs.Lengths.{table_count}
use Rattle.laws.proofs.TypeLaws.{types_sym, types_trans}
use Rattle.answers.specs.declared.BuildRefusal.TheVariants.{NotRows, TooLong}
use Rattle.answers.specs.Answers.{exceeds, paired_of, bounds_of, compare_range_answer, write_range, write_answer, write_output, too_many_rows, image_answer, rows_answer, build_answer, build_output}
use Rattle.built.specs.Typed.{all_rows, is_row}
use Rattle.built.specs.Theorems.{BytesOf, built_in, TableOf, ReadRange}
use Rattle.built.proofs.Parsed.{rows_in_back}
use Rattle.built.proofs.Typed.{rows_typed, rows_read_back}
use Rattle.built.proofs.Columns.{column_root}
use Rattle.built.proofs.Fields.{nodes_kept}
use Rattle.built.proofs.Back.{Fitting, table_back}
use Rattle.built.proofs.Sizes.{length_is}
use Rattle.built.proofs.Again.{range_typed, range_read, range_again}
use Rattle.built.proofs.Kept.{node_kept, types_kept}
use Rattle.built.proofs.Accepts.{built_accepted}
use Rattle.built.proofs.Calls.{told, fitting, image_in}

-- A string is n rows exactly where it is the bytes of n rows of the type, and of no others.
pub read_exactly : (s : List ℕ) (n : ℕ) (b : List ℕ) → AllBytes b → (rs : Rows) → (rows_in s n b ≡ parsed rs []) ↔ BytesOf s n b rs
read_exactly s n b all rs = (forth, back)
  where
    forth : rows_in s n b ≡ parsed rs [] → BytesOf s n b rs
    forth e =
        let there = rows_in_back s n b all rs [] e in
        record { typed = rows_typed s n b all rs [] e; many = there.1; bytes = sym (append-nil (rows_bytes rs)) ∙ there.0 }

    back : BytesOf s n b rs → rows_in s n b ≡ parsed rs []
    back of = rw (append-nil (rows_bytes rs), of.many, of.bytes) at (rows_read_back s rs [] of.typed)

-- 43 or a length is not 24
fits_or_not : (s : List ℕ) (rs : Rows) (out : List ℕ) → image_answer s rs out ≡ Err NotRows → ⊥
unfolding image_answer
fits_or_not s rs out e = cases (ltb (length out) (length (built_image s rs)) || ltb longest_image (length (built_image s rs)) || any (too_many_rows s rs) 0 (node_count s)) e
  where
    cases : (b : Bool) → cond b (Err TooLong) (Ok (length (built_image s rs))) ≡ Err NotRows → ⊥
    cases true e =
        let z : ◌≡◌ {A = ℕ} 0 1 = cc in
        absurd (omega arith)
    cases false e =
        let z : ◌≡◌ {A = ℕ} 0 1 = cc in
        absurd (omega arith)

-- 24 exactly where it is not
pub not_rows_lem : (s : List ℕ) (n : ℕ) (b out : List ℕ) → AllBytes b → check_image s ≡ Ok tt → readable s ≡ true
    → (build_answer s n b out ≡ Err NotRows) ↔ ((rs : Rows) → BytesOf s n b rs → ⊥)
unfolding build_answer
not_rows_lem s n b out all image coded = (forth, back)
  where
    answer : (p : Parsed Rows) → ((rs : Rows) → p ≡ parsed rs [] → ⊥) → rows_answer s p out ≡ Err NotRows
    answer failed never = refl
    answer (parsed rs []) never = absurd (never rs refl)
    answer (parsed rs (x ∷ b)) never = refl

    forth : build_answer s n b out ≡ Err NotRows → (rs : Rows) → BytesOf s n b rs → ⊥
    forth e rs of = fits_or_not s rs out (rw (image, coded, (read_exactly s n b all rs).1 of) at e)

    back : ((rs : Rows) → BytesOf s n b rs → ⊥) → build_answer s n b out ≡ Err NotRows
    back never = rw (image, coded) (answer (rows_in s n b) (λ rs e. never rs ((read_exactly s n b all rs).0 e)))

-- The image of rows of the type.
module _ (s : List ℕ) (rs : Rows) (fit : Fitting s rs) (typed : all_rows (is_row max_depth s 0) rs ≡ true) where
  has_length : length_of (built_image s rs) 0 ≡ count rs
  has_length = length_is s rs fit typed 0 (omega (arith, fit.image.tables.some_nodes)) ∙ ap count (column_root s rs)

  within_length : exceeds (built_image s rs) 0 (count rs) ≡ false
  unfolding exceeds
  within_length = le-ltb (length_of (built_image s rs) 0) (0 + count rs) (omega (arith, has_length))

  rows_written : range_bytes (built_image s rs) 0 (count rs) ≡ rows_bytes rs
  unfolding range_bytes
  rows_written = ap rows_bytes (table_back s rs fit typed)

  module _ (out : List ℕ) (room : length (rows_bytes rs) ≤ length out) where
    fits : ltb (length out) (length (range_bytes (built_image s rs) 0 (count rs))) ≡ false
    fits = rw rows_written (le-ltb (length out) (length (rows_bytes rs)) room)

    write_answer_lem : write_answer (built_image s rs) 0 (count rs) out ≡ Ok (length (rows_bytes rs))
    unfolding write_answer write_range
    write_answer_lem = rw (built_accepted s rs fit typed, within_length, fits) (ap (λ (x : List ℕ). Ok (length x)) rows_written)

    write_output_lem : write_output (built_image s rs) 0 (count rs) out ≡ rows_bytes rs ++ drop (length (rows_bytes rs)) out
    unfolding write_output
    write_output_lem = rw (write_answer_lem, rows_written)

  image_table : TableOf s (count rs) (rows_bytes rs) (built_image s rs)
  image_table =
      record {
        accepted = built_accepted s rs fit typed;
        nodes = nodes_kept s rs fit.image fit.bytes fit.short;
        node = node_kept s rs fit;
        types = types_kept s rs fit;
        many = has_length;
        rows = rw (table_back s rs fit typed) (rw (append-nil (rows_bytes rs)) at (rows_read_back s rs [] typed));
        written = rows_written;
        write = write_answer_lem;
        put = write_output_lem;
      }

-- The table that a call builds.
pub built_table : (s : List ℕ) (n : ℕ) (b out : List ℕ) (m : ℕ) → AllBytes s → AllBytes b → build_answer s n b out ≡ Ok m → TableOf s n b (built_in s n b out m)
built_table s n b out m small string answer =
    let k = told s n b out m answer in
    let of = (read_exactly s n b string k.rows).0 k.read in
    rw (of.many, of.bytes, ← image_in s n b out m small answer) at (image_table s k.rows (fitting s n b out m small answer) of.typed)

-- behind the image the buffer holds what it held
pub behind_kept : (s : List ℕ) (n : ℕ) (b out : List ℕ) (m : ℕ) → build_answer s n b out ≡ Ok m → drop m (build_output s n b out) ≡ drop m out
unfolding build_output
behind_kept s n b out m answer =
    let k = told s n b out m answer in
    rw (answer, k.read) (drop_at (built_image s k.rows) (drop m out) m k.size)

-- A written range, read by an image of its type.
module _ (s t : List ℕ) (i n : ℕ) (range : ReadRange s t i n) where
  -- only its length can refuse it
  range_answer : (out : List ℕ) → build_answer s n (range_bytes t i n) out ≡ image_answer s (table_rows t i n) out
  unfolding build_answer
  range_answer out = rw (range.given, range.coded, range_read s t i n range)

  -- it is never 24
  pub range_is_rows : (out : List ℕ) → build_answer s n (range_bytes t i n) out ≡ Err NotRows → ⊥
  range_is_rows out e = fits_or_not s (table_rows t i n) out (sym (range_answer out) ∙ e)

  -- where it fits, its table agrees with it row by row
  module _ (fit : Fitting s (table_rows t i n)) where
    paired : paired_of (built_image s (table_rows t i n)) t ≡ Ok tt
    unfolding paired_of
    paired =
        rw (
          built_accepted s (table_rows t i n) fit (range_typed s t i n range),
          range.table,
          types_trans (built_image s (table_rows t i n)) s t (types_sym s (built_image s (table_rows t i n)) (types_kept s (table_rows t i n) fit)) range.types,
        )

    bounds : bounds_of (built_image s (table_rows t i n)) t 0 i n ≡ Ok tt
    unfolding bounds_of exceeds
    bounds =
        let left : ltb (length_of (built_image s (table_rows t i n)) 0) (0 + n) ≡ false =
        le-ltb _ (0 + n) (omega (arith, has_length s (table_rows t i n) fit (range_typed s t i n range), table_count t i n)) in
        rw (left, le-ltb (length_of t 0) (i + n) range.within)

    compared : compare_range_answer (built_image s (table_rows t i n)) t 0 i n ≡ Ok true
    unfolding compare_range_answer
    compared = rw (paired, bounds, range_again s t i n range fit)

  -- "Reading a written range with an image of its type, unless refused, builds a table equal to that range."
  pub range_equal_lem : (out : List ℕ) (m : ℕ) → AllBytes s → build_answer s n (range_bytes t i n) out ≡ Ok m
      → compare_range_answer (built_in s n (range_bytes t i n) out m) t 0 i n ≡ Ok true
  range_equal_lem out m small answer =
      let k = told s n (range_bytes t i n) out m answer in
      let both = sym k.read ∙ range_read s t i n range in
      let rows : k.rows ≡ table_rows t i n = cc in
      let fit : Fitting s (table_rows t i n) = subst (Fitting s) rows (fitting s n (range_bytes t i n) out m small answer) in
      rw (image_in s n (range_bytes t i n) out m small answer ∙ ap (built_image s) rows) (compared fit)
