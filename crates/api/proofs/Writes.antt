-- Steps of the answer of a write, and of what its buffer holds afterwards: what callees gave, put into the definitions.
-- By rewriting with the callees' equations; the room that measuring leaves says whether the range's bytes fit.
use mathlib.Core.Path.{◌≡◌, sym, ap, ◌∙◌}
use mathlib.Core.Bool.{true, false}
use mathlib.Core.List.{List, ◌++◌}
use Prim.Native.Nat.{ℕ, ◌+◌}
use native.Mathlib.Omega.{arith}
use lib.ListN.{length, drop}
use lib.Dec.{ltb}
use borrow.Author.Tests.{lt-ltb, le-ltb}
use Rattle.image.specs.Record.{max_depth}
use Rattle.std.proofs.Common.{Ok, Err, Some, None}
use Rattle.image.specs.declared.answer.Fault.{Fault}
use Rattle.answers.specs.declared.WriteRefusal.TheVariants.{Image, OutOfRange, TooLong}
use Rattle.image.specs.Faults.{check_image}
use Rattle.image.specs.Row.{row_at, range, table_rows}
use Rattle.image.specs.RowBytes.{rows_bytes, range_bytes}
use Rattle.answers.specs.Answers.{exceeds, write_range, write_answer, write_output}
use Rattle.rows.specs.Output.{over, room_after, Fits}
use Rattle.rows.proofs.Rooms.{left_told, short_told}
use Rattle.accepted.specs.Parts.{Side}
use Rattle.laws.proofs.Accepted.{accepted}
use Rattle.api.proofs.Answers.{within}

-- the rows that are measured and written
pub table_side : (s : List ℕ) (i n : ℕ) → check_image s ≡ Ok tt → exceeds s i n ≡ false → Side s 0 i n
table_side s i n is inside =
    let image = accepted s is in
    record { image = image; node = omega (arith, image.tables.some_nodes); rows = within s i n inside }

module _ (s : List ℕ) (i n : ℕ) (out : List ℕ) where
  abbrev bytes : List ℕ
  bytes = rows_bytes (range (row_at max_depth s 0) i n)

  -- a refusal leaves the buffer as it was
  pub write_refused : {f : Fault} → check_image s ≡ Err f → (Err (Image f) ≡ write_answer s i n out) × (out ≡ write_output s i n out)
  unfolding write_answer write_output
  write_refused is = (rw is, rw is)

  module _ (image : check_image s ≡ Ok tt) where
    pub write_out_of_range : exceeds s i n ≡ true → (Err OutOfRange ≡ write_answer s i n out) × (out ≡ write_output s i n out)
    unfolding write_answer write_output
    write_out_of_range beyond = (rw (image, beyond), rw (image, beyond))

    pub write_too_long : exceeds s i n ≡ false → room_after (length out) (length bytes) ≡ None → (Err TooLong ≡ write_answer s i n out) × (out ≡ write_output s i n out)
    unfolding write_answer write_output write_range range_bytes table_rows
    write_too_long inside e =
        let long : ltb (length out) (length bytes) ≡ true = lt-ltb _ _ (short_told _ _ (sym e)) in
        (rw (image, inside, long), rw (image, inside, long))

    pub write_fits : {rest : ℕ} → room_after (length out) (length bytes) ≡ Some rest → Fits out 0 bytes
    write_fits e =
        record { within = omega (arith, left_told _ _ _ (sym e)) }

    pub write_bytes : {rest k : ℕ} {after : List ℕ} → exceeds s i n ≡ false → room_after (length out) (length bytes) ≡ Some rest → k ≡ 0 + length bytes → after ≡ over out 0 bytes
        → (Ok k ≡ write_answer s i n out) × (after ≡ write_output s i n out)
    unfolding write_answer write_output write_range range_bytes table_rows over
    write_bytes {rest} inside e ek eo =
        let room : length out ≡ rest + length bytes = left_told (length out) (length bytes) rest (sym e) in
        let fits : ltb (length out) (length bytes) ≡ false = le-ltb (length out) (length bytes) (omega arith) in
        let z : 0 + length bytes ≡ length bytes = omega arith in
        (rw (image, inside, fits) (ap Ok (ek ∙ z)), rw (image, inside, fits) (eo ∙ ap (λ (m : ℕ). bytes ++ drop m out) z))
