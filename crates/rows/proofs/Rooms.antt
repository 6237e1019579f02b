-- Bytes measured piece by piece: what is still to be measured, in the room that is left, leaves what the whole leaves.
-- A piece that fits leaves the rest for the room after it; where a piece does not fit, the whole does not.
use mathlib.Core.Path.{◌≡◌, refl, sym, ap, ◌∙◌}
use mathlib.Core.Bool.{Bool, true, false, cond}
use mathlib.Core.List.{List, [], ◌∷◌}
use Prim.Native.Nat.{ℕ, ◌+◌, ◌-◌, ◌≤◌, ◌<◌}
use native.Mathlib.Omega.{arith}
use lib.Dec.{ltb}
use lib.ListN.{length, length-append}
use borrow.Author.Tests.{lt-ltb, le-ltb, ltb-true, ltb-false}
use Rattle.std.specs.Prelude.{Option}
use Rattle.std.specs.Option.{SomeIff}
use Rattle.std.proofs.Common.{Some, None}
use Rattle.image.specs.Ranges.{pieces}
use Rattle.image.specs.Row.{row_at}
use Rattle.image.specs.RowBytes.{row_bytes}
use Rattle.rows.specs.declared.value.ChildRows.{ChildRows}
use Rattle.rows.specs.Value.{Content}
use Rattle.rows.specs.Output.{room_after}
use Rattle.rows.proofs.Joined.{joined_start, joined_next, joined_end}
use Rattle.rows.proofs.RowParts.{RowValue, nested_bytes, children_bytes, value_length}

-- bytes that fit, and bytes that do not
pub fits_left : (room n : ℕ) → n ≤ room → Some (room - n) ≡ room_after room n
unfolding room_after
fits_left room n le = rw (le-ltb room n le)

pub past_short : (room n : ℕ) → room < n → None ≡ room_after room n
unfolding room_after
past_short room n lt = rw (lt-ltb room n lt)

-- what an answer tells
pub left_told : (room n left : ℕ) → Some left ≡ room_after room n → room ≡ left + n
unfolding room_after
left_told room n left e = cases (ltb room n) refl e
  where
    cases : (b : Bool) → ltb room n ≡ b → Some left ≡ cond b None (Some (room - n)) → room ≡ left + n
    cases true t e = cc
    cases false t e =
        let le : n ≤ room = ltb-false room n t in
        let same : left ≡ room - n = cc in
        omega arith

pub short_told : (room n : ℕ) → None ≡ room_after room n → room < n
unfolding room_after
short_told room n e = cases (ltb room n) refl e
  where
    cases : (b : Bool) → ltb room n ≡ b → None ≡ cond b None (Some (room - n)) → room < n
    cases true t e = ltb-true room n t
    cases false t e =
        let differ : ◌≡◌ {A = ℕ} 0 1 = cc in
        omega arith

-- bytes that fit are taken off both
room_moved : (room n x : ℕ) → room_after room n ≡ room_after (room + x) (x + n)
room_moved room n x = cases (ltb room n) refl
  where
    cases : (b : Bool) → ltb room n ≡ b → room_after room n ≡ room_after (room + x) (x + n)
    cases true t =
        let lt : room < n = ltb-true room n t in
        sym (past_short room n lt) ∙ past_short (room + x) (x + n) (omega arith)
    cases false t =
        let le : n ≤ room = ltb-false room n t in
        let same : room - n ≡ room + x - (x + n) = omega arith in
        sym (fits_left room n le) ∙ ap Some same ∙ fits_left (room + x) (x + n) (omega arith)

-- what is left of a room, as the library takes bytes off it
pub room_checked : (room n : ℕ) (left : Option ℕ) → SomeIff left (n ≤ room) (room - n) → left ≡ room_after room n
room_checked room n None past = past_short room n (omega arith)
room_checked room n (Some x) told = ap Some told.1 ∙ fits_left room n told.0

-- n bytes are still to be measured where left is left, of all bytes where there was room.
pub record ToMeasure (room all left n : ℕ) : Type 0 where
  pub same : room_after left n ≡ room_after room all

module _ {room all left n : ℕ} (t : ToMeasure room all left n) (x rest : ℕ) (e : n ≡ x + rest) where
  -- x of them fit
  pub measure_fit : {next : ℕ} → left ≡ next + x → ToMeasure room all next rest
  measure_fit {next} f = record { same = room_moved next rest x ∙ rw (← f, ← e) t.same }

  pub measure_more : {next : ℕ} → Some next ≡ room_after left x → ToMeasure room all next rest
  measure_more {next} g = measure_fit (left_told left x next g)

  -- x of them do not
  pub measure_past : left < x → None ≡ room_after room all
  measure_past lt = past_short left n (omega arith) ∙ t.same

  pub measure_short : None ≡ room_after left x → None ≡ room_after room all
  measure_short g = measure_past (short_told left x g)

pub measure_done : {room all left n : ℕ} → ToMeasure room all left n → n ≡ 0 → Some left ≡ room_after room all
measure_done {left = left} {n} t e =
    let same : left ≡ left - n = omega arith in
    ap Some same ∙ fits_left left n (omega arith) ∙ t.same

-- Of n pieces from piece i on, those from piece k on are still to be measured.
pub record PiecesToMeasure (p : ℕ → List ℕ) (i n room left k : ℕ) : Type 0 where
  pub measure : ToMeasure room (length (pieces p i n)) left (length (pieces p (i + k) (n - k)))

pub measuring_start : (p : ℕ → List ℕ) (i n : ℕ) {room : ℕ} → PiecesToMeasure p i n room room 0
measuring_start p i n {room} = record { measure = record { same = ap (λ (b : List ℕ). room_after room (length b)) (joined_start p i n) } }

module _ {p : ℕ → List ℕ} {i n room left k : ℕ} (t : PiecesToMeasure p i n room left k) where
  module _ (lt : k < n) where
    next_length : length (pieces p (i + k) (n - k)) ≡ length (p (i + k)) + length (pieces p (i + (k + 1)) (n - (k + 1)))
    next_length = ap length (joined_next p i n k lt) ∙ length-append (p (i + k)) (pieces p (i + (k + 1)) (n - (k + 1)))

    pub measuring_more : {next : ℕ} → Some next ≡ room_after left (length (p (i + k))) → PiecesToMeasure p i n room next (k + 1)
    measuring_more e = record { measure = measure_more t.measure _ _ next_length e }

    pub measuring_short : None ≡ room_after left (length (p (i + k))) → None ≡ room_after room (length (pieces p i n))
    measuring_short e = measure_short t.measure _ _ next_length e

  pub measuring_done : n ≤ k → Some left ≡ room_after room (length (pieces p i n))
  measuring_done le = measure_done t.measure (ap length (joined_end p i n k le))

-- a null
pub null_left : (room : ℕ) {bytes : List ℕ} {left : Option ℕ} → bytes ≡ 0 ∷ [] → SomeIff left (1 ≤ room) (room - 1) → left ≡ room_after room (length bytes)
null_left room e told = rw (ap length e) (room_checked room 1 _ told)

-- a value: its own bytes, then its child rows
module _ {depth : ℕ} {s : List ℕ} {k i : ℕ} {v : Content} (r : RowValue depth s k i v) (room : ℕ) where
  pub value_short : (1 + v.width + length v.bytes ≤ room → ⊥) → None ≡ room_after room (length (row_bytes (row_at depth s k i)))
  value_short past = past_short room _ (omega (arith, value_length r))

  module _ {left : ℕ} (told : (1 + v.width + length v.bytes ≤ room) × (left ≡ room - (1 + v.width + length v.bytes))) where
    value_left : room_after left (length (children_bytes depth s v.rows)) ≡ room_after room (length (row_bytes (row_at depth s k i)))
    value_left =
        let own : ℕ = 1 + v.width + length v.bytes in
        let e : left + own ≡ room = omega (arith, told) in
        room_moved left (length (children_bytes depth s v.rows)) own ∙ rw (e, ← value_length r)

    -- where it has none, and where it has some
    pub leaf_left : v.rows ≡ None → Some left ≡ room_after room (length (row_bytes (row_at depth s k i)))
    leaf_left none =
        let same : left ≡ left - 0 = omega arith in
        ap Some same ∙ fits_left left 0 (omega arith) ∙ rw none at value_left

    pub nested_left : {c : ChildRows} → v.rows ≡ Some c → room_after left (length (nested_bytes depth s c)) ≡ room_after room (length (row_bytes (row_at depth s k i)))
    nested_left some = rw some at value_left
