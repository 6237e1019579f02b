-- The run of an element, from that of the element before it.
-- The run ends rise, so an element's run stays the same up to its end, where the next begins: the current run's end decides,
-- and no other is asked.
use mathlib.Core.Path.{◌≡◌, refl, sym, ap₂, ◌∙◌}
use mathlib.Core.Bool.{Bool, true, false, cond}
use mathlib.Core.List.{List}
use Prim.Native.Nat.{ℕ, ◌+◌, ◌<◌, ◌≤◌}
use native.Mathlib.Omega.{arith}
use native.Mathlib.Nat.{lt_of_not-le, le_antisymm}
use lib.Dec.{ltb}
use borrow.Author.Tests.{lt-ltb, le-ltb, ltb-true, ltb-false}
use Rattle.image.specs.Record.{elements_of}
use Rattle.image.specs.Element.{run_end_at, run_at}
use Rattle.laws.specs.Accepted.{RunsCover}
use Rattle.accepted.specs.Parts.{RunPart}
use Rattle.accepted.specs.Runs.{next_run}
use Rattle.accepted.proofs.RunEnds.{ends_before, run_is, ends_rise, runs_cover}

module _ {s : List ℕ} {k : ℕ} (cover : RunsCover s k) where
  -- up to the end of its run an element's run is the same
  pub run_stays : (x y : ℕ) → x ≤ y → y < run_end_at s k (run_at s k x) → y < elements_of s k → run_at s k x ≡ run_at s k y
  run_stays x y le below lt = run_is cover y (run_at s k x) lt (λ q l. omega (arith, ends_before s k x q l)) below

  -- at the end of a run the next begins
  pub run_turns : (x y : ℕ) → x < elements_of s k → y ≡ run_end_at s k (run_at s k x) → y < elements_of s k → run_at s k x + 1 ≡ run_at s k y
  run_turns x y lx e ly =
      let past : run_at s k x < run_at s k y = lt_of_not-le (λ (le : run_at s k y ≤ run_at s k x). omega (arith, ends_rise cover (run_at s k y) (run_at s k x) le (cover.run x lx), cover.above y ly)) in
      run_is cover y (run_at s k x + 1) ly (λ q l. omega (arith, ends_rise cover q (run_at s k x) (omega arith) (cover.run x lx)))
      (omega (arith, cover.rise (run_at s k x) (run_at s k x + 1) (omega arith) (omega (arith, cover.run y ly))))

-- the step, where the next element lies below the run's end, and where it does not
pub step_stays : (j run end : ℕ) → j + 1 < end → run ≡ next_run j run end
unfolding next_run
step_stays j run end lt = rw (lt-ltb (j + 1) end lt)

pub step_leaves : (j run end : ℕ) → end ≤ j + 1 → run + 1 ≡ next_run j run end
unfolding next_run
step_leaves j run end le = rw (le-ltb (j + 1) end le)

-- From an element to the next: the run of the next is `next_run` of the run and of that run's end.
pub run_next : {s : List ℕ} {k : ℕ} (j : ℕ) → RunPart s k (j + 1) → run_at s k (j + 1) ≡ next_run j (run_at s k j) (run_end_at s k (run_at s k j))
unfolding next_run
run_next {s} {k} j r = cases (ltb (j + 1) (run_end_at s k (run_at s k j))) refl
  where
    here : j < elements_of s k
    here = omega (arith, r.element)

    above : j < run_end_at s k (run_at s k j)
    above = (runs_cover r).above j here

    cases : (b : Bool) → ltb (j + 1) (run_end_at s k (run_at s k j)) ≡ b → run_at s k (j + 1) ≡ cond b (run_at s k j) (run_at s k j + 1)
    cases true t = sym (run_stays (runs_cover r) j (j + 1) (omega arith) (ltb-true _ _ t) r.element)
    cases false t = sym (run_turns (runs_cover r) j (j + 1) here (le_antisymm (omega (arith, above)) (ltb-false _ _ t)) r.element)

-- No run end but the current run's is asked: where two images have an element in the same run, and that run ends at the
-- same place in both, their next elements are in the same run, whatever their other run ends are.
pub run_alike : {s t : List ℕ} {k l : ℕ} (j : ℕ) → RunPart s k (j + 1) → RunPart t l (j + 1) → run_at s k j ≡ run_at t l j → run_end_at s k (run_at s k j) ≡ run_end_at t l (run_at t l j)
    → run_at s k (j + 1) ≡ run_at t l (j + 1)
run_alike j r q run end = run_next j r ∙ ap₂ (next_run j) run end ∙ sym (run_next j q)
