-- The places of the parts, one after the other, and what the plan answers.
-- A place is the sum of all sizes before it; sums grow, so that the first that is too long decides.
use mathlib.Core.Path.{◌≡◌, refl, sym, ◌∙◌}
use mathlib.Core.Bool.{Bool, true, false, cond, ◌||◌}
use mathlib.Core.List.{List}
use mathlib.Core.Logic.{◌⊎◌, inl, inr}
use Prim.Native.Nat.{ℕ, zero, suc, ◌+◌, ◌*◌, ◌-◌, ◌/◌, ◌≤◌, ◌<◌}
use native.Mathlib.Nat.{eq-or-lt_of_le, add-zero}
use native.Mathlib.Omega.{arith}
use lib.ListN.{length, get_or, take, drop, set, replicate, get_or-replicate, length-set}
use lib.Seq.{get_or-set_same, get_or-set_other, drop-cons}
use Rattle.std.specs.List.{list_any}
use lib.Dec.{ltb}
use borrow.Author.Tests.{lt-ltb, le-ltb, ltb-false}
use Rattle.image.specs.Ranges.{any, sum_to}
use Rattle.image.specs.Record.{longest_image, most_elements, node_count, name_length, entry_place, record_place, tables_end}
use Rattle.image.specs.Reads.{Read}
use Rattle.image.specs.Built.{name_start}
use Rattle.image.proofs.Ranges.{any_below, sum_grows}
use Rattle.laws.specs.Accepted.{Tables}
use Rattle.std.specs.Prelude.{None, Some}
use Rattle.builder.specs.Plan.{part_size, place_of, PlacesTo, Places, too_many, plan_answer, PlanOf}
use Rattle.builder.specs.Front.{Rise}

-- The names, one after the other.

-- of the names before node k's: where the next stands, and that it is near
pub record Names (s : List ℕ) (end k : ℕ) : Type 0 where
  pub start : end ≡ name_start s k
  pub near : end ≤ 19460 + 256 * k

pub names_start : (s : List ℕ) {end : ℕ} → Tables s → end ≡ tables_end s → Names s end 0
unfolding name_start sum_to tables_end entry_place record_place
names_start s t e = record { start = e ∙ sym (add-zero (tables_end s)); near = omega (arith, e, t.few_nodes, t.few_buffers) }

pub names_more : {s : List ℕ} {end k n : ℕ} → Names s end k → Read (name_length s k) 8 n → Names s (end + n) (k + 1)
unfolding name_start sum_to
names_more {s} {end} {k} {n} t r =
    let e : k + 1 ≡ suc k = omega arith in
    record { start = rw e (omega (arith, t.start, r.value)); near = omega (arith, t.near, r.small) }

pub names_done : {s : List ℕ} {end k n : ℕ} → Names s end k → Tables s → n ≡ node_count s → k ≤ n → n ≤ k → Read (name_start s (node_count s)) 17 end
names_done {s} {end} {k} t tables e le ge =
    let same : k ≡ node_count s = omega arith in
    record { value = rw (← same) t.start; small = omega (arith, t.near, tables.few_nodes) }

-- a test of numbers of a list, from one on
pub any_listed : (p : ℕ → Bool) (xs : List ℕ) (i n : ℕ) → i + n ≤ length xs → list_any p (take n (drop i xs)) ≡ any (λ k. p (get_or xs k 0)) i n
unfolding any
any_listed p xs i zero le = refl
any_listed p xs i (suc n) le = rw (drop-cons xs i 0 (omega arith), any_listed p xs (suc i) n (omega arith))

-- no node has too many rows
pub few_rows : (s lengths : List ℕ) → any (too_many lengths) 0 (node_count s) ≡ false → (q : ℕ) → q < 3 * node_count s → get_or lengths (q / 3) 0 ≤ most_elements
unfolding too_many
few_rows s lengths e q lt = ltb-false _ _ (any_below (too_many lengths) (node_count s) e (q / 3) (omega arith))

module _ (s lengths spans : List ℕ) where
  -- the next place
  place_next : (q : ℕ) → place_of s lengths spans (suc q) ≡ place_of s lengths spans q + part_size s lengths spans q
  unfolding place_of sum_to
  place_next q = omega arith

  place_grows : (a b : ℕ) → a ≤ b → place_of s lengths spans a ≤ place_of s lengths spans b
  unfolding place_of
  place_grows a b le = omega (arith, sum_grows (part_size s lengths spans) a b le)

  -- The answer.

  too_many_lem : any (too_many lengths) 0 (node_count s) ≡ true → (room : ℕ) → None ≡ plan_answer s lengths spans room
  unfolding plan_answer
  too_many_lem e room = rw e (cases (ltb room (place_of s lengths spans (3 * node_count s)) || ltb longest_image (place_of s lengths spans (3 * node_count s))))
    where
      cases : (b : Bool) → None ≡ cond (b || true) None (Some (place_of s lengths spans (3 * node_count s)))
      cases true = refl
      cases false = refl

  too_long_lem : longest_image < place_of s lengths spans (3 * node_count s) → (room : ℕ) → None ≡ plan_answer s lengths spans room
  unfolding plan_answer
  too_long_lem lt room = rw (lt-ltb longest_image (place_of s lengths spans (3 * node_count s)) lt) (cases (ltb room (place_of s lengths spans (3 * node_count s))))
    where
      cases : (b : Bool) → None ≡ cond (b || true || any (too_many lengths) 0 (node_count s)) None (Some (place_of s lengths spans (3 * node_count s)))
      cases true = refl
      cases false = refl

  no_room : (room : ℕ) → room < place_of s lengths spans (3 * node_count s) → None ≡ plan_answer s lengths spans room
  unfolding plan_answer
  no_room room lt = rw (lt-ltb room (place_of s lengths spans (3 * node_count s)) lt)

  fitting : (room : ℕ) → any (too_many lengths) 0 (node_count s) ≡ false → place_of s lengths spans (3 * node_count s) ≤ longest_image → place_of s lengths spans (3 * node_count s) ≤ room
      → Some (place_of s lengths spans (3 * node_count s)) ≡ plan_answer s lengths spans room
  unfolding plan_answer
  fitting room few short fits = rw (le-ltb room (place_of s lengths spans (3 * node_count s)) fits, le-ltb longest_image (place_of s lengths spans (3 * node_count s)) short, few)

  -- where the answer is a size, it is that of the image, which fits
  pub size_fits : (room size : ℕ) → plan_answer s lengths spans room ≡ Some size → (size ≡ place_of s lengths spans (3 * node_count s)) × (size ≤ room) × (size ≤ longest_image)
  unfolding plan_answer
  size_fits room size e = cases (ltb room (place_of s lengths spans (3 * node_count s))) (ltb longest_image (place_of s lengths spans (3 * node_count s))) (any (too_many lengths) 0 (node_count s)) refl refl e
    where
      cases : (a b c : Bool) → ltb room (place_of s lengths spans (3 * node_count s)) ≡ a → ltb longest_image (place_of s lengths spans (3 * node_count s)) ≡ b → cond (a || b || c) None (Some (place_of s lengths spans (3 * node_count s))) ≡ Some size
          → (size ≡ place_of s lengths spans (3 * node_count s)) × (size ≤ room) × (size ≤ longest_image)
      cases false false false p q e =
          let is : size ≡ place_of s lengths spans (3 * node_count s) = cc in
          (is, omega (arith, is, ltb-false room (place_of s lengths spans (3 * node_count s)) p), omega (arith, is, ltb-false longest_image (place_of s lengths spans (3 * node_count s)) q))
      cases true b c p q e =
          let differ : ◌≡◌ {A = ℕ} 0 1 = cc in
          absurd (omega arith)
      cases false true c p q e =
          let differ : ◌≡◌ {A = ℕ} 0 1 = cc in
          absurd (omega arith)
      cases false false true p q e =
          let differ : ◌≡◌ {A = ℕ} 0 1 = cc in
          absurd (omega arith)

  -- a refusal says nothing of the table
  refused : {places : List ℕ} {room : ℕ} → None ≡ plan_answer s lengths spans room → PlanOf s lengths spans room places None
  refused e = record {
    answer = e;
    table = λ n q.
        let differ : ◌≡◌ {A = ℕ} 0 1 = cc in
        absurd (omega arith);
  }

  pub many_refused : {places : List ℕ} {room : ℕ} → any (too_many lengths) 0 (node_count s) ≡ true → PlanOf s lengths spans room places None
  many_refused {room = room} e = refused (too_many_lem e room)

-- The places rise: those that are planned, and those before, which are all 0.
pub none_rise : (s : List ℕ) → node_count s ≤ 256 → Rise s (replicate 769 0)
none_rise s few = record {
  rise = λ q lt. omega (arith, get_or-replicate {A = ℕ} 769 q 0 0 (omega arith));
}

pub places_rise : {s lengths spans places : List ℕ} → Places s lengths spans places → Rise s places
places_rise {s} {lengths} {spans} t = record {
  rise = λ q lt. omega (arith, t.place q (omega arith), t.place (suc q) lt, place_grows s lengths spans q (suc q) (omega arith));
}

-- What the loop keeps: the table of places up to part q, and the place of part q.
pub record Planning (s lengths spans places : List ℕ) (place q : ℕ) : Type 0 where
  pub table : PlacesTo s lengths spans places q
  pub within : q ≤ 3 * node_count s
  pub here : place ≡ place_of s lengths spans q
  pub short : place ≤ longest_image
  pub sized : length places ≡ 769

pub planning_start : (s lengths spans places : List ℕ) (place : ℕ) → length places ≡ 769 → Read (name_start s (node_count s)) 17 place → Planning s lengths spans (set places 0 place) place 0
unfolding place_of sum_to
planning_start s lengths spans places place sized r =
    let here : place ≡ name_start s (node_count s) + 0 = omega (arith, r.value) in
    record {
      table = record {
        place = λ i le.
            let none : i ≡ 0 = omega arith in
            rw none (get_or-set_same places 0 place 0 (omega (arith, sized)) ∙ here);
      };
      within = omega arith;
      here = here;
      short = omega (arith, r.small);
      sized = length-set places 0 place ∙ sized;
    }

module _ {s lengths spans places : List ℕ} where
  module _ {place q : ℕ} (p : Planning s lengths spans places place q) where
    module _ (lt : q < 3 * node_count s) {size : ℕ} (is : size ≡ part_size s lengths spans q) where
      next_here : place + size ≡ place_of s lengths spans (q + 1)
      next_here =
          let e : q + 1 ≡ suc q = omega arith in
          rw e (omega (arith, place_next s lengths spans q, p.here, is))

      pub planning_more : node_count s ≤ 256 → size ≤ longest_image - place → Planning s lengths spans (set places (q + 1) (place + size)) (place + size) (q + 1)
      planning_more few fits = record {
        table = record {
          place = λ i le. cases i (eq-or-lt_of_le le);
        };
        within = omega arith;
        here = next_here;
        short = omega (arith, p.short);
        sized = length-set places (q + 1) (place + size) ∙ p.sized;
      }
        where
          cases : (i : ℕ) → (i ≡ q + 1) ⊎ (i < q + 1) → get_or (set places (q + 1) (place + size)) i 0 ≡ place_of s lengths spans i
          cases i (inl e) = rw e (get_or-set_same places (q + 1) (place + size) 0 (omega (arith, p.sized)) ∙ next_here)
          cases i (inr less) = get_or-set_other places (q + 1) i (place + size) 0 (λ e. omega arith) ∙ p.table.place i (omega arith)

      -- a part that is too long
      pub planning_long : {room : ℕ} {before : List ℕ} → longest_image - place < size → PlanOf s lengths spans room before None
      planning_long {room} long =
          let grows = place_grows s lengths spans (q + 1) (3 * node_count s) (omega arith) in
          refused s lengths spans (too_long_lem s lengths spans (omega (arith, next_here, p.short)) room)

    -- all parts have their places
    module _ (le : 3 * node_count s ≤ q) where
      all_placed : q ≡ 3 * node_count s
      all_placed = omega (arith, p.within)

      end_here : place ≡ place_of s lengths spans (3 * node_count s)
      end_here = rw (← all_placed) p.here

      pub planning_room : {room : ℕ} {before : List ℕ} → room < place → PlanOf s lengths spans room before None
      planning_room {room} lt = refused s lengths spans (no_room s lengths spans room (omega (arith, end_here)))

      pub planning_rise : Rise s places
      planning_rise = places_rise {s = s} {lengths = lengths} {spans = spans} (rw (← all_placed) p.table)

      pub planning_done : {room : ℕ} → any (too_many lengths) 0 (node_count s) ≡ false → place ≤ room → PlanOf s lengths spans room places (Some place)
      planning_done {room} few fits = record {
        answer = rw end_here (fitting s lengths spans room few (omega (arith, end_here, p.short)) (omega (arith, end_here)));
        table = λ n e. rw (← all_placed) p.table;
      }
