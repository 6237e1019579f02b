-- The run of an element, found by bisection.
-- The run ends rise, so an element's run is the first whose end lies above it.
use mathlib.Core.Path.{◌≡◌, ap, ◌∙◌}
use mathlib.Core.Bool.{true, false}
use mathlib.Core.List.{List}
use mathlib.Core.Logic.{◌⊎◌, inl, inr}
use Prim.Native.Nat.{ℕ, suc, ◌+◌, ◌-◌, ◌*◌, ◌/◌, ◌<◌, ◌≤◌, ◌^◌}
use native.Mathlib.Omega.{arith}
use native.Mathlib.Nat.{add-mul, le_refl, le_antisymm, lt_of_not-le, le_of_suc-le-suc, eq-or-lt_of_le}
use borrow.Author.Tests.{ltb-false, lt-ltb}
use Rattle.image.specs.Bytes.{number_at}
use Rattle.image.specs.Record.{code_of, length_of, offset_of, first_child, child_count, elements_of, buffer_place}
use Rattle.image.specs.TypeCode.{layout_of}
use Rattle.image.specs.declared.type_code.Layout.TheVariants.{Runs}
use Rattle.image.specs.Element.{run_end_at, ends_above, run_at}
use Rattle.image.specs.declared.bytes.Numbers.{Numbers}
use Rattle.image.specs.Reads.{Read, Nth, EndsOf}
use Rattle.image.proofs.Ranges.{first_before, first_at_most}
use Rattle.laws.specs.Accepted.{RunsCover}
use Rattle.accepted.specs.Parts.{Part, RunPart}
use Rattle.accepted.proofs.Nodes.{length_small, first_child_node}

-- element j lies below the end of run r, or not
above : (s : List ℕ) (k j r : ℕ) → j < run_end_at s k r → ends_above s k j r ≡ true
unfolding ends_above
above s k j r lt = lt-ltb _ _ lt

not_above : (s : List ℕ) (k j r : ℕ) → ends_above s k j r ≡ false → run_end_at s k r ≤ j
unfolding ends_above
not_above s k j r e = ltb-false _ _ e

-- the run of element j ends above it, and all runs before it end at or before it
pub ends_before : (s : List ℕ) (k j r : ℕ) → r < run_at s k j → run_end_at s k r ≤ j
unfolding run_at
ends_before s k j r lt = not_above s k j r (first_before (ends_above s k j) 0 (length_of s (first_child s k)) r (omega arith) lt)

run_at_most : (s : List ℕ) (k j r : ℕ) → j < run_end_at s k r → run_at s k j ≤ r
unfolding run_at
run_at_most s k j r lt = first_at_most (ends_above s k j) 0 (length_of s (first_child s k)) r (omega arith) (above s k j r lt)

module _ {s : List ℕ} {k : ℕ} (cover : RunsCover s k) where
  -- a run is that of element j if it ends above it and those before it do not
  pub run_is : (j r : ℕ) → j < elements_of s k → ((q : ℕ) → q < r → run_end_at s k q ≤ j) → j < run_end_at s k r → r ≡ run_at s k j
  run_is j r lt before after =
      le_antisymm (le_of_suc-le-suc (lt_of_not-le (λ (past : suc (run_at s k j) ≤ r). omega (arith, before (run_at s k j) past, cover.above j lt)))) (run_at_most s k j r after)

  -- run ends do not fall
  pub ends_rise : (q r : ℕ) → q ≤ r → r < length_of s (first_child s k) → run_end_at s k q ≤ run_end_at s k r
  ends_rise q r le lt = cases (eq-or-lt_of_le le)
    where
      cases : (q ≡ r) ⊎ (q < r) → run_end_at s k q ≤ run_end_at s k r
      cases (inl e) = rw e (le_refl (run_end_at s k r))
      cases (inr l) = omega (arith, cover.rise q r l lt)

-- the first element of a part of a run node
pub run_first : {s : List ℕ} {k j n : ℕ} → Part s k j n → layout_of (code_of s k) ≡ Runs → 0 < n → RunPart s k j
run_first r runs lt = record { image = r.image; node = r.node; runs = runs; element = omega (arith, r.high) }

-- the ends of a run node, read by number
module _ {s : List ℕ} {k : ℕ} {v : Numbers} (f : EndsOf s k v) where
  pub end_nth : {r : ℕ} → r < 2 ^ 33 → Nth v.place v.width r
  end_nth lt = record { near = f.near; narrow = f.narrow; few = omega arith }

  pub end_is : (r : ℕ) {x : ℕ} → Read (number_at v.width v.bytes.now (v.place + r * v.width)) (8 * v.width) x → x ≡ run_end_at s k r
  unfolding run_end_at
  end_is r e =
      let d : (offset_of s (first_child s k) + r) * v.width ≡ offset_of s (first_child s k) * v.width + r * v.width = add-mul (offset_of s (first_child s k)) r v.width in
      let at : buffer_place s (first_child s k) 0 + (offset_of s (first_child s k) + r) * v.width ≡ v.place + r * v.width = omega (arith, f.place) in
      e.value ∙ rw (f.bytes, ← f.width, at)

-- The bisection: the runs below low end at or before element j, and those from high on end above it.
pub record Bisect (s : List ℕ) (k j low high : ℕ) : Type 0 where
  pub order : low ≤ high
  pub within : high ≤ length_of s (first_child s k)
  pub before : (q : ℕ) → q < low → run_end_at s k q ≤ j
  pub after : (q : ℕ) → high ≤ q → q < length_of s (first_child s k) → j < run_end_at s k q

module _ {s : List ℕ} {k j : ℕ} (r : RunPart s k j) where
  pub runs_cover : RunsCover s k
  runs_cover = (r.image.node k r.node).rows.runs r.runs

  -- there are few runs
  pub runs_few : length_of s (first_child s k) ≤ 1073741824
  runs_few =
      let two : child_count s k ≡ 2 = (r.image.node k r.node).tree.exactly 2 (rw r.runs) in
      length_small s (first_child s k) r.image (first_child_node s k r.image r.node (omega arith))

  pub bisect_start : {e n : ℕ} → e ≡ first_child s k + 0 → Read (length_of s e) 32 n → Bisect s k j 0 n
  bisect_start {e} {n} ee en =
      let first : e ≡ first_child s k = omega (arith, ee) in
      let whole : n ≡ length_of s (first_child s k) = en.value ∙ ap (length_of s) first in
      record { order = omega arith; within = omega arith; before = λ q lt. absurd (omega arith); after = λ q le lt. absurd (omega arith) }

  module _ {low high : ℕ} (b : Bisect s k j low high) where
    pub bisect_small : high ≤ 1073741824
    bisect_small = omega (arith, b.within, runs_few)

    -- the run in the middle
    module _ {m : ℕ} (em : m ≡ low + (high - low) / 2) (lt : low < high) where
      pub bisect_up : {x : ℕ} → x ≡ run_end_at s k m → x ≤ j → Bisect s k j (m + 1) high
      bisect_up ex le = record {
        order = omega arith;
        within = b.within;
        before = λ q l. omega (arith, ends_rise runs_cover q m (omega arith) (omega (arith, b.within)));
        after = b.after;
      }

      pub bisect_down : {x : ℕ} → x ≡ run_end_at s k m → j < x → Bisect s k j low m
      bisect_down ex above = record {
        order = omega arith;
        within = omega (arith, b.within);
        before = b.before;
        after = λ q le l. omega (arith, ends_rise runs_cover m q le l);
      }

    pub bisect_done : high ≤ low → low ≡ run_at s k j
    bisect_done le =
        let run : run_at s k j < length_of s (first_child s k) = runs_cover.run j r.element in
        let above : j < run_end_at s k (run_at s k j) = runs_cover.above j r.element in
        let from : low ≤ run_at s k j = le_of_suc-le-suc (lt_of_not-le (λ (past : suc (run_at s k j) ≤ low). omega (arith, b.before (run_at s k j) past))) in
        run_is runs_cover j low r.element b.before (b.after low le (omega arith))
