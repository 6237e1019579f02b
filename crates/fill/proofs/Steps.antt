-- State step by step: what rows fill, and then what more rows fill, is what all of them fill.
-- Each fact of a filling is a sum or a chain of those of its steps; the room that is left is what the rest needs.
use mathlib.Core.Path.{◌≡◌, refl, ◌∙◌}
use mathlib.Core.List.{List}
use Prim.Native.Nat.{ℕ, suc, ◌+◌, ◌≤◌, ◌<◌}
use native.Mathlib.Nat.{add-zero, mul-le-mul_right}
use native.Mathlib.Omega.{arith}
use Rattle.image.specs.Record.{node_count}
use Rattle.image.specs.Element.{element_width}
use Rattle.image.specs.Row.{Rows, none, more, rows_then}
use Rattle.image.specs.RowBytes.{count}
use Rattle.built.specs.Walk.{total}
use Rattle.built.proofs.Columns.{count_join}
use Rattle.built.proofs.Walk.{then_none, then_assoc}
use Rattle.fill.specs.declared.put.Filling.{Filling}
use Rattle.fill.specs.Filling.{SameLent, State, Room, Rooms, Ready, Filled}

-- how far the offsets of rows go on, and of more rows
pub total_then : (rs qs : Rows) → total (rows_then rs qs) ≡ total rs + total qs
unfolding total rows_then
total_then none qs = omega arith
total_then (more r rs) qs = rw (total_then rs qs) (omega arith)

-- a filling is over the same after two steps
pub same_then : {x y z : Filling} → SameLent x y → SameLent y z → SameLent x z
same_then a b = record { places = b.places ∙ a.places; out = b.out ∙ a.out }

module _ {s places : List ℕ} where
  -- less room is enough for less
  pub room_less : {k n x m y : ℕ} → Room s places k n x → m ≤ n → y ≤ x → Room s places k m y
  room_less {k} {n} {x} {m} {y} room le near =
      let more : suc m ≤ suc n = omega arith in
      record {
        few = omega (arith, room.few);
        near = λ e. omega (arith, room.near e);
        bitmap = λ e. omega (arith, room.bitmap e);
        bits = λ e. omega (arith, room.bits e);
        values = λ e. omega (arith, room.values e, mul-le-mul_right (element_width s k) le);
        text_offsets = λ e. omega (arith, room.text_offsets e, mul-le-mul_right (element_width s k) more);
        list_offsets = λ e. omega (arith, room.list_offsets e, mul-le-mul_right (element_width s k) more);
        text = λ e. omega (arith, room.text e);
      }

  -- nothing is filled
  pub filled_none : {g : ℕ → Rows} {f : State} → ((j : ℕ) → j < node_count s → g j ≡ none) → Filled s places g f f
  unfolding count total
  filled_none {g} {f} nothing =
      record {
        rows = λ j lt. rw (nothing j lt, add-zero);
        spans = λ j lt. rw (nothing j lt, add-zero);
        holds = λ j rs lt h. rw (nothing j lt, then_none rs) h;
        outside = λ p e. refl;
        long = refl;
      }

  -- the same rows, said in another way
  pub filled_as : {g h : ℕ → Rows} {f₀ f : State} → Filled s places g f₀ f → ((j : ℕ) → j < node_count s → g j ≡ h j) → Filled s places h f₀ f
  filled_as {g} {h} {f₀} {f} t same =
      record {
        rows = λ j lt. rw (← same j lt) (t.rows j lt);
        spans = λ j lt. rw (← same j lt) (t.spans j lt);
        holds = λ j rs lt e. rw (← same j lt) (t.holds j rs lt e);
        outside = t.outside;
        long = t.long;
      }

  pub rooms_as : {g h : ℕ → Rows} {f : State} → Rooms s places g f → ((j : ℕ) → j < node_count s → g j ≡ h j) → Rooms s places h f
  rooms_as rooms same = record { room = λ j lt. rw (← same j lt) (rooms.room j lt) }

  -- some rows, and then more
  pub filled_then : {g h : ℕ → Rows} {f₀ f₁ f₂ : State} → Filled s places g f₀ f₁ → Filled s places h f₁ f₂ → Filled s places (λ j. rows_then (g j) (h j)) f₀ f₂
  filled_then {g} {h} {f₀} {f₁} {f₂} a b =
      record {
        rows = λ j lt. omega (arith, a.rows j lt, b.rows j lt, count_join (g j) (h j));
        spans = λ j lt. omega (arith, a.spans j lt, b.spans j lt, total_then (g j) (h j));
        holds = λ j rs lt e. rw (← then_assoc rs (g j) (h j)) (b.holds j (rows_then rs (g j)) lt (a.holds j rs lt e));
        outside = λ p e. b.outside p e ∙ a.outside p e;
        long = b.long ∙ a.long;
      }

  pub rooms_first : (g h : ℕ → Rows) {f : State} → Rooms s places (λ j. rows_then (g j) (h j)) f → Rooms s places g f
  rooms_first g h {f} rooms =
      record { room = λ j lt. room_less (rooms.room j lt) (omega (arith, count_join (g j) (h j))) (omega (arith, total_then (g j) (h j))) }

  pub rooms_rest : {g h : ℕ → Rows} {f₀ f : State} → Rooms s places (λ j. rows_then (g j) (h j)) f₀ → Filled s places g f₀ f → Rooms s places h f
  rooms_rest {g} {h} {f₀} {f} rooms t =
      record { room = λ j lt. room_less (rooms.room j lt) (omega (arith, count_join (g j) (h j), t.rows j lt)) (omega (arith, total_then (g j) (h j), t.spans j lt)) }

  pub ready_after : {g : ℕ → Rows} {f₀ f : State} → Ready s places f₀ → Filled s places g f₀ f → Ready s places f
  ready_after {g} {f₀} {f} r t =
      record {
        accepted = r.accepted;
        coded = r.coded;
        rise = r.rise;
        inside = omega (arith, r.inside, t.long);
        short = r.short;
        held = λ k lt. record { rows = rows_then (r.held k lt).rows (g k); holds = t.holds k (r.held k lt).rows lt (r.held k lt).holds };
      }
