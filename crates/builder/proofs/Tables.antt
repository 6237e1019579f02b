-- What a table's image is put together of, and what the call that builds it answers.
-- The front goes over the buffer, zeros behind it, and the parts over the zeros; the answer is the plan's where the string is rows.
use mathlib.Core.Path.{◌≡◌, refl, sym, ap, ◌∙◌}
use mathlib.Core.Bool.{true, false, false≢true}
use mathlib.Core.List.{List, [], ◌∷◌, ◌++◌}
use Prim.Native.Nat.{ℕ, ◌+◌, ◌*◌, ◌-◌, ◌≤◌, ◌<◌}
use native.Mathlib.Nat.{zero-add}
use native.Mathlib.Omega.{arith}
use lib.ListN.{length, take, drop, replicate, length-append, length-replicate, get_or-replicate, get_or-append}
use lib.Seq.{length-take-le, take_at, drop_at, drop-drop, get_or-append-add}
use Rattle.std.proofs.Common.{Ok, Err}
use Rattle.image.specs.Ranges.{pieces, sum_to}
use Rattle.image.specs.Bytes.{AllBytes, byte_at}
use Rattle.image.specs.Record.{node_count}
use Rattle.image.specs.Faults.{check_image}
use Rattle.image.specs.Row.{Rows}
use Rattle.image.specs.Parse.{Parsed, failed, parsed, readable, rows_in}
use Rattle.image.specs.Built.{part_at, part_length, part_start}
use Rattle.image.proofs.Ranges.{sum_grows}
use Rattle.answers.specs.declared.BuildRefusal.TheVariants.{NotRows, TooLong}
use Rattle.answers.specs.Answers.{rows_answer, build_answer, image_of, written_over}
use Rattle.laws.proofs.Accepted.{accepted}
use Rattle.built.specs.Walk.{the_rows}
use Rattle.built.proofs.Parsed.{rows_in_back}
use Rattle.built.proofs.Typed.{rows_typed}
use Rattle.built.proofs.Regions.{pieces_length}
use Rattle.built.proofs.Fields.{whole_length}
use Rattle.built.proofs.Calls.{Told, told}
use Rattle.parse.specs.Answer.{are_rows, Spanned}
use Rattle.rows.specs.Output.{over, Fits}
use Rattle.rows.proofs.Over.{over_length, over_over}
use Rattle.fill.specs.Filling.{ToFill}
use Rattle.std.specs.Prelude.{None, Some}
use Rattle.builder.specs.Plan.{Lengths, Places, plan_answer, built_of}
use Rattle.builder.specs.Front.{front_from}
use Rattle.builder.specs.Table.{Laid}
use Rattle.builder.proofs.FromRows.{Scanned, answer_is, places_are, front_is}

-- Bytes over zeros.

-- what is put over bytes of the same number leaves nothing of them
over_again : (out : List ℕ) (at : ℕ) (x y : List ℕ) → length x ≡ length y → at + length x ≤ length out → over (over out at x) at y ≡ over out at y
unfolding over
over_again out at x y same fits =
    let front : length (take at out) ≡ at = length-take-le at out (omega arith) in
    let kept : take at (over out at x) ≡ take at out = take_at (take at out) (x ++ drop (at + length x) out) at front in
    let rest : drop (at + length y) (over out at x) ≡ drop (at + length y) out =
    sym (drop-drop (length y) at (over out at x))
    ∙ ap (drop (length y)) (drop_at (take at out) (x ++ drop (at + length x) out) at front)
    ∙ drop_at x (drop (at + length x) out) (length y) same
    ∙ ap (λ (n : ℕ). drop (at + n) out) same
    in
    rw (kept, rest)

-- a byte of those that were put
over_within : (out : List ℕ) (at : ℕ) (x : List ℕ) → at + length x ≤ length out → (i : ℕ) → i < length x → byte_at (over out at x) (at + i) ≡ byte_at x i
unfolding over
over_within out at x fits i lt =
    let front : length (take at out) ≡ at = length-take-le at out (omega arith) in
    ap (λ (n : ℕ). byte_at (over out at x) (n + i)) (sym front) ∙ get_or-append-add (take at out) (x ++ drop (at + length x) out) i 0 ∙ get_or-append x (drop (at + length x) out) 0 i lt

zeros_stand : (out : List ℕ) (from to : ℕ) → from ≤ to → to ≤ length out → (p : ℕ) → from ≤ p → p < to → byte_at (over out from (replicate (to - from) 0)) p ≡ 0
zeros_stand out from to le fits p low high =
    let long : length (replicate {A = ℕ} (to - from) 0) ≡ to - from = length-replicate {A = ℕ} (to - from) 0 in
    let is : from + (p - from) ≡ p = omega arith in
    ap (byte_at (over out from (replicate (to - from) 0))) (sym is)
    ∙ over_within out from (replicate (to - from) 0) (omega arith) (p - from) (omega arith)
    ∙ get_or-replicate {A = ℕ} (to - from) (p - from) 0 0 (omega arith)

-- Putting a table's image.
module _ {s : List ℕ} {n : ℕ} {b lengths places : List ℕ} {size : ℕ} {out : List ℕ} (l : Laid s n b lengths places size out) where
  abbrev the_rows_lem : Rows
  the_rows_lem = the_rows (rows_in s n b)

  abbrev front : List ℕ
  front = front_from s lengths places

  abbrev parts : List ℕ
  parts = pieces (part_at s the_rows_lem) 0 (3 * node_count s)

  places_grow : (q r : ℕ) → q ≤ r → part_start s the_rows_lem q ≤ part_start s the_rows_lem r
  unfolding part_start
  places_grow q r le = omega (arith, sum_grows (part_length s the_rows_lem) q r le)

  end_is : size ≡ part_start s the_rows_lem (3 * node_count s)
  end_is = l.long ∙ whole_length s the_rows_lem (accepted s l.accepted)

  parts_length : length parts ≡ sum_to (part_length s the_rows_lem) (3 * node_count s)
  unfolding part_length
  parts_length = pieces_length (part_at s the_rows_lem) (part_length s the_rows_lem) (λ q. refl) (3 * node_count s)

  whole : length front + length parts ≡ size
  whole = sym (length-append front parts) ∙ ap length l.front ∙ sym l.long

  -- the parts begin where the front ends
  front_end : length front ≡ part_start s the_rows_lem 0
  unfolding part_start sum_to
  front_end = omega (arith, whole, end_is, parts_length)

  pub laid_front : Fits out 0 front
  laid_front = record { within = omega (arith, whole, l.fits) }

  module _ {at : ℕ} {first : List ℕ} (put : (at ≡ length front) × (first ≡ over out 0 front)) where
    first_long : length first ≡ length out
    first_long = ap length put.1 ∙ over_length out 0 front laid_front.within

    pub laid_clear : (at ≤ size) × (size ≤ length first)
    laid_clear = (omega (arith, put.0, whole), omega (arith, first_long, l.fits))

    module _ {second : List ℕ} (cleared : second ≡ over first at (replicate (size - at) 0)) where
      zeros_length : length (replicate {A = ℕ} (size - at) 0) ≡ length parts
      zeros_length = length-replicate {A = ℕ} (size - at) 0 ∙ omega (arith, put.0, whole)

      second_long : length second ≡ length first
      second_long = ap length cleared ∙ over_length first at (replicate (size - at) 0) (omega (arith, zeros_length, put.0, whole, laid_clear.1))

      pub laid_fill : ToFill s n b places second
      laid_fill =
          record {
            accepted = l.accepted;
            coded = l.coded;
            read = l.read;
            few = l.few;
            place = l.place;
            inside = omega (arith, second_long, end_is, laid_clear.1);
            short = omega (arith, l.short, end_is);
            blank = λ p low high. rw cleared (zeros_stand first at size laid_clear.0 laid_clear.1 p (omega (arith, put.0, front_end)) (omega (arith, end_is)));
          }

      pub laid_put : {third : List ℕ} → third ≡ over second (part_start s the_rows_lem 0) parts → third ≡ over out 0 (image_of s (rows_in s n b))
      laid_put filled =
          let start : part_start s the_rows_lem 0 ≡ at = omega (arith, put.0, front_end) in
          let zeros : over second at parts ≡ over first at parts = rw cleared (over_again first at (replicate (size - at) 0) parts zeros_length (omega (arith, zeros_length, put.0, whole, laid_clear.1))) in
          let behind : over first at parts ≡ over out 0 (front ++ parts) = rw (put.1, put.0, ← zero-add (length front)) (over_over out 0 front laid_front.within parts) in
          filled ∙ ap (λ (m : ℕ). over second m parts) start ∙ zeros ∙ behind ∙ ap (over out 0) (l.front ∙ sym (ap (image_of s) l.read))

-- The call.

-- a string that is no rows
refused : (s : List ℕ) (p : Parsed Rows) (out : List ℕ) → are_rows p ≡ false → (Err NotRows ≡ rows_answer s p out) × (out ≡ written_over (rows_answer s p out) (image_of s p) out)
refused s failed out e = (refl, refl)
refused s (parsed rs []) out e = absurd (false≢true (sym e))
refused s (parsed rs (x ∷ rest)) out e = (refl, refl)

pub build_not_rows : (s : List ℕ) (n : ℕ) (b out : List ℕ) → are_rows (rows_in s n b) ≡ false → (Err NotRows ≡ rows_answer s (rows_in s n b) out) × (out ≡ written_over (rows_answer s (rows_in s n b) out) (image_of s (rows_in s n b)) out)
build_not_rows s n b out e = refused s (rows_in s n b) out e

-- and one that is
all_read : (p : Parsed Rows) → are_rows p ≡ true → p ≡ parsed (the_rows p) []
all_read failed e = absurd (false≢true e)
all_read (parsed rs []) e = refl
all_read (parsed rs (x ∷ rest)) e = absurd (false≢true e)

module _ (s : List ℕ) (n : ℕ) (b out : List ℕ) {spans lengths : List ℕ} (given : (check_image s ≡ Ok tt) × (readable s ≡ true)) (small : AllBytes b) (are : are_rows (rows_in s n b) ≡ true) (spanned : Spanned s (rows_in s n b) spans) (l : Lengths s n spans lengths) where
  read : rows_in s n b ≡ parsed (the_rows (rows_in s n b)) []
  read = all_read (rows_in s n b) are

  scanned : Scanned s n (the_rows (rows_in s n b)) spans
  scanned =
      record {
        image = accepted s given.0;
        coded = given.1;
        typed = rows_typed s n b small (the_rows (rows_in s n b)) [] read;
        counted = (rows_in_back s n b small (the_rows (rows_in s n b)) [] read).1;
        spanned = spanned.spans (the_rows (rows_in s n b)) read;
      }

  planned : rows_answer s (rows_in s n b) out ≡ built_of (plan_answer s lengths spans (length out))
  planned = ap (λ (p : Parsed Rows). rows_answer s p out) read ∙ answer_is scanned l out

  pub build_too_long : None ≡ plan_answer s lengths spans (length out) → (Err TooLong ≡ rows_answer s (rows_in s n b) out) × (out ≡ written_over (rows_answer s (rows_in s n b) out) (image_of s (rows_in s n b)) out)
  build_too_long e =
      let is : rows_answer s (rows_in s n b) out ≡ Err TooLong = planned ∙ sym (ap built_of e) in
      (sym is, rw is)

  module _ {size : ℕ} (e : Some size ≡ plan_answer s lengths spans (length out)) where
    bytes : rows_answer s (rows_in s n b) out ≡ Ok size
    bytes = planned ∙ sym (ap built_of e)

    fit : Told s n b out size
    unfolding build_answer
    fit = told s n b out size (rw (given.0, given.1) bytes)

    pub build_laid : {places : List ℕ} → Places s lengths spans places → Laid s n b lengths places size out
    build_laid t =
        let same : fit.rows ≡ the_rows (rows_in s n b) = sym (ap the_rows fit.read) in
        record {
          accepted = given.0;
          coded = given.1;
          read = read;
          few = rw same at fit.few;
          place = places_are scanned l t;
          front = front_is scanned l t;
          long = rw same at (sym fit.size);
          short = fit.short;
          fits = fit.room;
        }

    pub build_bytes : {after : List ℕ} → after ≡ over out 0 (image_of s (rows_in s n b)) → (Ok size ≡ rows_answer s (rows_in s n b) out) × (after ≡ written_over (rows_answer s (rows_in s n b) out) (image_of s (rows_in s n b)) out)
    unfolding over
    build_bytes put =
        let long : 0 + length (image_of s (rows_in s n b)) ≡ size = omega (arith, fit.size, ap (λ (p : Parsed Rows). length (image_of s p)) fit.read) in
        (sym bytes, rw bytes (put ∙ ap (λ (m : ℕ). image_of s (rows_in s n b) ++ drop m out) long))
