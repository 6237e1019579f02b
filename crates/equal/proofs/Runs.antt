-- Runs: the run of an element, found by stepping from run to run, and rows of two run nodes compared run by run.
-- The run ends rise, so an element's run stays the same up to its end, where the next begins. Runs that end together are
-- compared as one range of values, by induction over the runs.
use mathlib.Core.Path.{◌≡◌, refl, sym, ap, ap₂, ◌∙◌}
use mathlib.Core.Bool.{Bool, true, false, ◌&&◌}
use mathlib.Core.List.{List}
use Prim.Native.Nat.{ℕ, zero, suc, ◌+◌, ◌-◌, ◌<◌, ◌≤◌, min}
use native.Mathlib.Omega.{arith}
use Rattle.image.specs.declared.type_code.Layout.TheVariants.{Runs}
use Rattle.image.specs.Record.{code_of, length_of, first_child, child_count}
use Rattle.image.specs.TypeCode.{layout_of}
use Rattle.image.specs.Element.{run_end_at, run_at}
use Rattle.image.specs.Row.{Row, range, run_row, row_at}
use Rattle.image.specs.Equality.{row_equal}
use Rattle.laws.specs.Accepted.{RunsCover}
use Rattle.values.specs.Pairs.{all, same_row, range_equal}
use Rattle.accepted.specs.Parts.{Part, Side, RunPart}
use Rattle.accepted.specs.Runs.{next_run}
use Rattle.values.specs.Parts.{Sides, Parts, RunParts, Together}
use Rattle.accepted.proofs.Nodes.{part_node, part_at_lem}
use Rattle.accepted.proofs.RunEnds.{ends_before, run_first, runs_few}
use Rattle.accepted.proofs.RunSteps.{run_stays, run_turns, run_next}
use Rattle.values.proofs.Steps.{left_none, left_fails, all_split, by_rows, all_by}
use Rattle.equal.proofs.Rows.{one_row, RowsLeft, rows_jump, rows_fail}
use Rattle.equal.proofs.Child.{layout_right, count_left, child_sides}

-- The element at place h of a part of a run node, whose run is i and ends at e.
module _ {s : List ℕ} {k j n : ℕ} (r : Part s k j n) (runs : layout_of (code_of s k) ≡ Runs) where
  cover : RunsCover s k
  cover = (part_node r).rows.runs runs

  run_part : (h : ℕ) → h < n → RunPart s k (j + h)
  run_part h lt = run_first (part_at_lem r h lt) runs (omega arith)

  module _ {h i : ℕ} (lt : h < n) (ei : i ≡ run_at s k (j + h)) where
    pub run_small : i < 1073741824
    run_small = omega (arith, cover.run (j + h) (run_part h lt).element, runs_few (run_part h lt))

    pub run_value : i < length_of s (first_child s k + 1)
    run_value = rw ei (cover.value (j + h) (run_part h lt).element)

    module _ {e : ℕ} (ee : e ≡ run_end_at s k i) where
      end_is : e ≡ run_end_at s k (run_at s k (j + h))
      end_is = ee ∙ ap (run_end_at s k) ei

      pub run_above : j + h < e
      run_above = omega (arith, end_is, cover.above (j + h) (run_part h lt).element)

      -- up to that end the run is the same
      run_kept : (g : ℕ) → h ≤ g → j + g < e → g < n → i ≡ run_at s k (j + g)
      run_kept g from below l = ei ∙ run_stays cover (j + h) (j + g) (omega arith) (omega (arith, end_is)) (run_part g l).element

      -- there the next begins
      run_after : (g : ℕ) → j + g ≡ e → g < n → i + 1 ≡ run_at s k (j + g)
      run_after g is l = ap (λ (x : ℕ). x + 1) ei ∙ run_turns cover (j + h) (j + g) (run_part h lt).element (is ∙ end_is) (run_part g l).element

      -- at a place up to that end, by one step from the element before it
      run_stepped : (g : ℕ) → h < g → j + g ≤ e → g < n → next_run (j + (g - 1)) i e ≡ run_at s k (j + g)
      run_stepped g past to l =
          let same : i ≡ run_at s k (j + (g - 1)) = run_kept (g - 1) (omega arith) (omega arith) (omega arith) in
          let more : j + (g - 1) + 1 ≡ j + g = omega arith in
          ap₂ (next_run (j + (g - 1))) same (ee ∙ ap (run_end_at s k) same) ∙ sym (run_next (j + (g - 1)) (rw more (run_part g l))) ∙ ap (run_at s k) more

-- the values children of two run nodes, as they are read
pub run_nodes : {a b : List ℕ} {k l s t n d ca cb : ℕ} → Parts a b k l s t n d → layout_of (code_of a k) ≡ Runs → ca ≡ first_child a k → cb ≡ first_child b l → Side a (ca + 1) 0 0 × Side b (cb + 1) 0 0
run_nodes {a} {b} {k} {l} {s} {t} {n} {d} r runs fa fb =
    let two : child_count a k ≡ 2 = count_left r 2 (rw runs) in
    let sides : Sides a b (first_child a k + 1) (first_child b l + 1) 0 0 0 d = child_sides r 1 0 0 0 (omega arith) (omega arith) (omega arith) in
    rw (fa, fb) (sides.left, sides.right)

-- rows of two run nodes are those of the values of their runs
pub run_row_lem : (A B : ℕ → ℕ → Row) (a b : List ℕ) (k l x y : ℕ)
    → range_equal (A (first_child a k + 1)) (B (first_child b l + 1)) (run_at a k x) (run_at b l y) 1 ≡ same_row (run_row A a k) (run_row B b l) x y
unfolding same_row run_row row_equal range
run_row_lem A B a b k l x y = refl

-- What the stepping over runs keeps: before the end of the range, i and j are the runs of the elements at place h.
pub record Stepping (a b : List ℕ) (k l s t n h i j : ℕ) : Type 0 where
  pub left : h < n → i ≡ run_at a k (s + h)
  pub right : h < n → j ≡ run_at b l (t + h)

pub stepping_start : (a b : List ℕ) (k l s t n : ℕ) {i j : ℕ} → i ≡ run_at a k s → j ≡ run_at b l t → Stepping a b k l s t n 0 i j
stepping_start a b k l s t n ei ej =
    let u : s + 0 ≡ s = omega arith in
    let v : t + 0 ≡ t = omega arith in
    record { left = λ lt. rw u ei; right = λ lt. rw v ej }

module _ {a b : List ℕ} {k l s t n d h i j : ℕ} (r : Parts a b k l s t n d) (runs : layout_of (code_of a k) ≡ Runs) (at : Stepping a b k l s t n h i j) (lt : h < n) where
  -- the values of the two runs
  module _ {ca cb : ℕ} (fa : ca ≡ first_child a k) (fb : cb ≡ first_child b l) where
    pub step_requires : Sides a b (ca + 1) (cb + 1) i j 1 d
    step_requires =
        let two : child_count a k ≡ 2 = count_left r 2 (rw runs) in
        let left : i < length_of a (first_child a k + 1) = run_value r.left runs lt (at.left lt) in
        let right : j < length_of b (first_child b l + 1) = run_value r.right (layout_right r runs) lt (at.right lt) in
        rw (fa, fb) (child_sides r 1 i j 1 (omega arith) (omega arith) (omega arith))

    step_answer : (x y : ℕ) → i ≡ run_at a k x → j ≡ run_at b l y → range_equal (row_at d a (ca + 1)) (row_at d b (cb + 1)) i j 1 ≡ same_row (run_row (row_at d a) a k) (run_row (row_at d b) b l) x y
    step_answer x y ei ej = rw (fa, fb, ei, ej) (run_row_lem (row_at d a) (row_at d b) a b k l x y)

    pub step_fail : RowsLeft (run_row (row_at d a) a k) (run_row (row_at d b) b l) s t n h → range_equal (row_at d a (ca + 1)) (row_at d b (cb + 1)) i j 1 ≡ false
        → false ≡ range_equal (run_row (row_at d a) a k) (run_row (row_at d b) b l) s t n
    step_fail kept e = rows_fail kept lt (sym (step_answer (s + h) (t + h) (at.left lt) (at.right lt)) ∙ e)

  -- m elements up to the end of the shorter run, or of the range
  module _ {e f u m : ℕ} (ee : e ≡ run_end_at a k i) (ef : f ≡ run_end_at b l j) (eu : u ≡ min (e - (s + h)) (f - (t + h))) (em : m ≡ min u (n - h)) where
    pub step_some : 0 < m
    step_some = omega (arith, run_above r.left runs lt (at.left lt) ee, run_above r.right (layout_right r runs) lt (at.right lt) ef)

    -- their rows are equal
    step_more : {ca cb : ℕ} → ca ≡ first_child a k → cb ≡ first_child b l → RowsLeft (run_row (row_at d a) a k) (run_row (row_at d b) b l) s t n h → range_equal (row_at d a (ca + 1)) (row_at d b (cb + 1)) i j 1 ≡ true
        → RowsLeft (run_row (row_at d a) a k) (run_row (row_at d b) b l) s t n (h + m)
    step_more fa fb kept is =
        rows_jump kept m (omega arith)
        (sym (by_rows (run_row (row_at d a) a k) (run_row (row_at d b) b l) (s + h) (t + h) m)
        ∙ all_by (same_row (run_row (row_at d a) a k) (run_row (row_at d b) b l)) (s + h) (t + h) m (λ g below.
        let v : s + h + g ≡ s + (h + g) = omega arith in
        let w : t + h + g ≡ t + (h + g) = omega arith in
        rw (v, w)
        (sym (step_answer fa fb (s + (h + g)) (t + (h + g))
        (run_kept r.left runs lt (at.left lt) ee (h + g) (omega arith) (omega arith) (omega arith))
        (run_kept r.right (layout_right r runs) lt (at.right lt) ef (h + g) (omega arith) (omega arith) (omega arith))) ∙ is)))

    -- the runs of the next element
    pub step_again : {ca cb inext jnext : ℕ} → ca ≡ first_child a k → cb ≡ first_child b l → RowsLeft (run_row (row_at d a) a k) (run_row (row_at d b) b l) s t n h → range_equal (row_at d a (ca + 1)) (row_at d b (cb + 1)) i j 1 ≡ true
        → inext ≡ next_run (s + (h + m - 1)) i e → jnext ≡ next_run (t + (h + m - 1)) j f
        → Stepping a b k l s t n (h + m) inext jnext × RowsLeft (run_row (row_at d a) a k) (run_row (row_at d b) b l) s t n (h + m)
    step_again fa fb kept is ei ej =
        let some : 0 < m = step_some in (
          record {
            left = λ less. ei ∙ run_stepped r.left runs lt (at.left lt) ee (h + m) (omega arith) (omega arith) less;
            right = λ less. ej ∙ run_stepped r.right (layout_right r runs) lt (at.right lt) ef (h + m) (omega arith) (omega arith) less;
          },
          step_more fa fb kept is,
        )

-- n equal tests, and some
all_constant : (p : ℕ → ℕ → Bool) (i j n : ℕ) (x : Bool) → 0 < n → ((h : ℕ) → h < n → p (i + h) (j + h) ≡ x) → x ≡ all p i j n
all_constant p i j n true some e = sym (all_by p i j n e)
all_constant p i j n false some e = left_fails p i j n 0 some (left_none p i j n) (e 0 some)

-- What the first runs ask for: elements of both sides, from the runs of the first on.
pub run_parts : {a b : List ℕ} {k l s t n d i j : ℕ} → Parts a b k l s t n d → layout_of (code_of a k) ≡ Runs → 0 < n → i ≡ run_at a k s → j ≡ run_at b l t → RunParts a b k l s t n i j
run_parts r runs some ei ej = record {
  some = some;
  left = run_part r.left runs _ (omega arith);
  right = run_part r.right (layout_right r runs) _ (omega arith);
  left_first = ei;
  right_first = ej;
}

-- Runs that end together.
module _ {a b : List ℕ} {k l s t n d : ℕ} (r : Parts a b k l s t n d) (runs : layout_of (code_of a k) ≡ Runs) where
  abbrev values : ℕ → ℕ → Bool
  values = same_row (row_at d a (first_child a k + 1)) (row_at d b (first_child b l + 1))

  abbrev elements : ℕ → ℕ → Bool
  elements = same_row (run_row (row_at d a) a k) (run_row (row_at d b) b l)

  value_element : (i j x y : ℕ) → i ≡ run_at a k x → j ≡ run_at b l y → elements x y ≡ values i j
  value_element i j x y ei ej = sym (run_row_lem (row_at d a) (row_at d b) a b k l x y) ∙ rw (← ei, ← ej) (one_row (row_at d a (first_child a k + 1)) (row_at d b (first_child b l + 1)) i j)

  one_value : (i j : ℕ) → all values i j 1 ≡ values i j
  one_value i j = by_rows (row_at d a (first_child a k + 1)) (row_at d b (first_child b l + 1)) i j 1 ∙ one_row (row_at d a (first_child a k + 1)) (row_at d b (first_child b l + 1)) i j

  -- c elements from place h on in one run of each side
  one_run : (c h i j : ℕ) → 0 < c → h + c ≤ n → i ≡ run_at a k (s + h) → j ≡ run_at b l (t + h) → s + h + c ≤ run_end_at a k i → t + h + c ≤ run_end_at b l j → values i j ≡ all elements (s + h) (t + h) c
  one_run c h i j some le ei ej left right =
      let lt : h < n = omega arith in
      all_constant elements (s + h) (t + h) c (values i j) some (λ g below.
      let u : s + h + g ≡ s + (h + g) = omega arith in
      let v : t + h + g ≡ t + (h + g) = omega arith in
      rw (u, v)
      (value_element i j (s + (h + g)) (t + (h + g))
      (run_kept r.left runs lt ei refl (h + g) (omega arith) (omega arith) (omega arith))
      (run_kept r.right (layout_right r runs) lt ej refl (h + g) (omega arith) (omega arith) (omega arith))))

  -- the m + 1 runs from i and j on, of the elements from place h on
  runs_block : (m h i j : ℕ) → h < n → i ≡ run_at a k (s + h) → j ≡ run_at b l (t + h) → i + m ≡ run_at a k (s + (n - 1)) → j + m ≡ run_at b l (t + (n - 1))
      → ((q : ℕ) → q < m → run_end_at a k (i + q) + t ≡ run_end_at b l (j + q) + s) → all values i j (m + 1) ≡ all elements (s + h) (t + h) (n - h)
  runs_block zero h i j lt ei ej la lb ends =
      let u : i + 0 ≡ i = omega arith in
      let v : j + 0 ≡ j = omega arith in
      let left : s + (n - 1) < run_end_at a k i = rw (← u, la) ((cover r.left runs).above (s + (n - 1)) (run_part r.left runs (n - 1) (omega arith)).element) in
      let right : t + (n - 1) < run_end_at b l j = rw (← v, lb) ((cover r.right (layout_right r runs)).above (t + (n - 1)) (run_part r.right (layout_right r runs) (n - 1) (omega arith)).element) in
      one_value i j ∙ one_run (n - h) h i j (omega arith) (omega arith) ei ej (omega arith) (omega arith)
  runs_block (suc m) h i j lt ei ej la lb ends =
      let u : i + 0 ≡ i = omega arith in
      let v : j + 0 ≡ j = omega arith in
      let end : run_end_at a k i + t ≡ run_end_at b l j + s = rw (u, v) at (ends 0 (omega arith)) in
      let above : s + h < run_end_at a k i = run_above r.left runs lt ei refl in
      let below : run_end_at a k i ≤ s + (n - 1) = ends_before a k (s + (n - 1)) i (omega arith) in
      let cut : n - h ≡ run_end_at a k i - (s + h) + (n - (h + (run_end_at a k i - (s + h)))) = omega arith in
      let more : suc m + 1 ≡ 1 + (m + 1) = omega arith in
      let x : s + (h + (run_end_at a k i - (s + h))) ≡ s + h + (run_end_at a k i - (s + h)) = omega arith in
      let y : t + (h + (run_end_at a k i - (s + h))) ≡ t + h + (run_end_at a k i - (s + h)) = omega arith in
      let rest : all values (i + 1) (j + 1) (m + 1) ≡ all elements (s + (h + (run_end_at a k i - (s + h)))) (t + (h + (run_end_at a k i - (s + h)))) (n - (h + (run_end_at a k i - (s + h)))) =
      runs_block m (h + (run_end_at a k i - (s + h))) (i + 1) (j + 1) (omega arith)
      (run_after r.left runs lt ei refl (h + (run_end_at a k i - (s + h))) (omega arith) (omega arith))
      (run_after r.right (layout_right r runs) lt ej refl (h + (run_end_at a k i - (s + h))) (omega arith) (omega arith))
      (omega arith) (omega arith)
      (λ q l.
      let p : i + 1 + q ≡ i + suc q = omega arith in
      let o : j + 1 + q ≡ j + suc q = omega arith in
      rw (p, o) (ends (suc q) (omega arith))) in
      ap (all values i j) more ∙ all_split values i j 1 (m + 1)
      ∙ ap₂ ◌&&◌ (one_value i j ∙ one_run (run_end_at a k i - (s + h)) h i j (omega arith) (omega arith) ei ej (omega arith) (omega arith)) (rw (← x, ← y) rest)
      ∙ sym (ap (all elements (s + h) (t + h)) cut ∙ all_split elements (s + h) (t + h) (run_end_at a k i - (s + h)) (n - (h + (run_end_at a k i - (s + h)))))

  module _ {i j m : ℕ} (ei : i ≡ run_at a k s) (ej : j ≡ run_at b l t) (lt : 0 < n) (some : 0 < m) (e : Together a b k l s t n i j (m - 1)) {ca cb : ℕ} (fa : ca ≡ first_child a k) (fb : cb ≡ first_child b l) where
    pub together_requires : Sides a b (ca + 1) (cb + 1) i j m d
    together_requires =
        let two : child_count a k ≡ 2 = count_left r 2 (rw runs) in
        let left : i + (m - 1) < length_of a (first_child a k + 1) = run_value r.left runs {h = n - 1} (omega arith) e.left_last in
        let right : j + (m - 1) < length_of b (first_child b l + 1) = run_value r.right (layout_right r runs) {h = n - 1} (omega arith) e.right_last in
        rw (fa, fb) (child_sides r 1 i j m (omega arith) (omega arith) (omega arith))

    pub together_answer : range_equal (row_at d a (ca + 1)) (row_at d b (cb + 1)) i j m ≡ range_equal (run_row (row_at d a) a k) (run_row (row_at d b) b l) s t n
    together_answer =
        let u : s + 0 ≡ s = omega arith in
        let v : t + 0 ≡ t = omega arith in
        let w : n - 0 ≡ n = omega arith in
        let x : m - 1 + 1 ≡ m = omega arith in
        let block : all values i j m ≡ all elements s t n = rw (u, v, w, x) at (runs_block (m - 1) 0 i j lt (rw u ei) (rw v ej) e.left_last e.right_last e.ends) in
        rw (fa, fb)
        (sym (by_rows (row_at d a (first_child a k + 1)) (row_at d b (first_child b l + 1)) i j m) ∙ block ∙ by_rows (run_row (row_at d a) a k) (run_row (row_at d b) b l) s t n)
