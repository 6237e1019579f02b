-- The run that is kept beside the rows of a node, from the first of them on.
-- Where the rows are in runs it stays up to the current run's end; else each element is one. Rows beside which the same run
-- is kept are the same row: a row of runs is that of its run's value, and is never null.
use mathlib.Core.Path.{◌≡◌, refl, sym, ap, ◌∙◌, subst}
use mathlib.Core.Bool.{Bool, true, false, true≢false}
use mathlib.Core.List.{List, replicate}
use Prim.Native.Nat.{ℕ, zero, suc, ◌+◌, ◌*◌, ◌-◌, ◌<◌, ◌≤◌, min}
use native.Mathlib.Omega.{arith}
use lib.Dec.{eqb}
use lib.ListN.{get_or, set, length-set, length-replicate, get_or-replicate}
use lib.Seq.{get_or-set_same, get_or-set_other}
use borrow.Author.Tests.{eqb-true, eqb-false, eq-eqb}
use Rattle.std.specs.Prelude.{Option, None, Some}
use Rattle.std.specs.Option.{is_some}
use Rattle.image.specs.declared.type_code.Layout.TheVariants.{Runs}
use Rattle.image.specs.Record.{node_count, code_of, offset_of, elements_of}
use Rattle.image.specs.TypeCode.{layout_of, entry_of, entries}
use Rattle.image.specs.Element.{valid, run_end_at, run_at}
use Rattle.image.specs.Row.{run_row, row_at}
use Rattle.laws.specs.Accepted.{AcceptedImage, RunsCover}
use Rattle.laws.proofs.Codes.{runs_code}
use Rattle.image.specs.declared.bytes.Numbers.{Numbers}
use Rattle.image.specs.Bytes.{number_at}
use Rattle.image.specs.Reads.{Read, Nth, EndsOf}
use Rattle.accepted.specs.declared.column.Cursor.{Cursor}
use Rattle.accepted.specs.declared.column.KeptRun.{KeptRun}
use Rattle.accepted.specs.Parts.{Side, RunPart}
use Rattle.accepted.specs.Columns.{in_runs, EndsRead, ColumnRead, Behind}
use Rattle.accepted.specs.Runs.{next_run, kept_run, Kept, RememberedOf, Remembered, remembering_by, remembering}
use Rattle.accepted.proofs.Nodes.{side_small}
use Rattle.accepted.proofs.RunEnds.{end_nth, end_is, runs_cover, runs_few}
use Rattle.accepted.proofs.RunSteps.{run_stays, run_next}

-- whether the rows are in runs is a matter of the layout
pub runs_layout : (s : List ℕ) (k : ℕ) → in_runs s k ≡ true → layout_of (code_of s k) ≡ Runs
unfolding in_runs layout_of entry_of entries
runs_layout s k e = rw (eqb-true (code_of s k) 43 e)

pub layout_runs : (s : List ℕ) (k : ℕ) → layout_of (code_of s k) ≡ Runs → in_runs s k ≡ true
unfolding in_runs
layout_runs s k e = eq-eqb (code_of s k) 43 (runs_code (code_of s k) e)

-- what is kept, with runs and without
pub kept_run_lem : (s : List ℕ) (k j : ℕ) → in_runs s k ≡ true → kept_run s k j ≡ run_at s k j
unfolding kept_run
kept_run_lem s k j e = rw e

pub kept_alone : (s : List ℕ) (k j : ℕ) → in_runs s k ≡ false → kept_run s k j ≡ j
unfolding kept_run
kept_alone s k j e = rw e

-- a row of a node that is in runs, as an element
row_runs : {s : List ℕ} {k i n : ℕ} → Side s k i n → in_runs s k ≡ true → (h : ℕ) → h < n → RunPart s k (offset_of s k + i + h)
unfolding elements_of
row_runs {s} {k} r e h lt = record { image = r.image; node = r.node; runs = runs_layout s k e; element = omega (arith, r.rows) }

-- a node's number
pub node_few : {s : List ℕ} {k i n : ℕ} → Side s k i n → k < 256
node_few r = omega (arith, r.node, r.image.tables.few_nodes)

-- what was read of the ends, where the rows are in runs and where they are not
pub ends_alone : {s : List ℕ} {k : ℕ} → in_runs s k ≡ false → EndsRead s k None
ends_alone isnt = record { alone = λ _. isnt; runs = λ v e. cc }

abbrev ends_or : Numbers → Option Numbers → Numbers
ends_or v None = v
ends_or v (Some w) = w

pub ends_there : {s : List ℕ} {k : ℕ} {v : Numbers} → in_runs s k ≡ true → EndsOf s k v → EndsRead s k (Some v)
ends_there {s} {k} {v} is f = record { alone = λ e. cc; runs = λ w e. (is, subst (EndsOf s k) (ap (ends_or v) e) f) }

-- where the ends were read the rows are in runs, and where there are none they are not
module _ {s : List ℕ} {k first : ℕ} {o : Option Numbers} (read : ColumnRead s k first o) where
  pub read_told : {b : Bool} → is_some o ≡ b → in_runs s k ≡ b
  read_told {b} told = cases o refl ∙ told
    where
      cases : (ends : Option Numbers) → o ≡ ends → in_runs s k ≡ is_some o
      cases None e = rw e (read.ends.alone e)
      cases (Some v) e = rw e (read.ends.runs v e).0

  pub read_runs : {v : Numbers} → o ≡ Some v → (in_runs s k ≡ true) × EndsOf s k v
  read_runs e = read.ends.runs _ e

  -- an element that is counted from the offset as it was read
  read_from : (i : ℕ) → first + i ≡ offset_of s k + i
  read_from i = rw read.offset.value

  -- the first of the rows that are asked
  module _ {i : ℕ} (r : Side s k i 1) where
    pub first_small : first + i < 1073741824
    first_small = omega (arith, side_small s k i 1 r, read.offset.value)

    pub first_part : in_runs s k ≡ true → RunPart s k (first + i)
    first_part e =
        let at : offset_of s k + i + 0 ≡ first + i = omega (arith, read.offset.value) in
        rw at at (row_runs r e 0 (omega arith))

    pub first_alone : in_runs s k ≡ false → Kept s k i (first + i)
    first_alone none = record { same = read_from i ∙ sym (kept_alone s k (offset_of s k + i) none) }

    pub first_kept : {run : ℕ} → in_runs s k ≡ true → run ≡ run_at s k (first + i) → Kept s k i run
    first_kept e same = record { same = same ∙ ap (run_at s k) (read_from i) ∙ sym (kept_run_lem s k (offset_of s k + i) e) }

    pub first_remembered : {runs : List (Option KeptRun)} {kept : KeptRun} → Remembered s runs → in_runs s k ≡ true → get_or runs k None ≡ Some kept → kept.element ≡ first + i → Kept s k i kept.run
    first_remembered t e there at =
        let told : RememberedOf s k (Some _) = rw there at (t.of k (node_few r)) in
        first_kept e (told (rw (sym at) at (first_part e)) ∙ ap (run_at s k) at)

-- a row that is there, beside which a run is kept if it is there
pub behind_kept : {s : List ℕ} {k i n run : ℕ} → Side s k i n → 0 < n → Behind s k i run → Kept s k i run
behind_kept {s} {k} {i} {n} {run} r some b = record { same = cases (in_runs s k) refl }
  where
    cases : (is : Bool) → in_runs s k ≡ is → run ≡ kept_run s k (offset_of s k + i)
    cases true e =
        let place : offset_of s k + i + 0 ≡ offset_of s k + i = omega arith in
        b.held e (rw place at (row_runs r e 0 some)) ∙ sym (kept_run_lem s k (offset_of s k + i) e)
    cases false e = b.alone e ∙ sym (kept_alone s k (offset_of s k + i) e)

pub kept_behind : {s : List ℕ} {k i run : ℕ} → Kept s k i run → Behind s k i run
kept_behind {s} {k} {i} {run} at = record {
  alone = λ e. at.same ∙ kept_alone s k (offset_of s k + i) e;
  held = λ e part. at.same ∙ kept_run_lem s k (offset_of s k + i) e;
}

-- the rows from a row on
module _ {s : List ℕ} {k first : ℕ} {o : Option Numbers} (read : ColumnRead s k first o) {i n run : ℕ} (q : Side s k i n × (0 < n)) (b : Behind s k i run) where
  at_row : Kept s k i run
  at_row = behind_kept q.0 q.1 b

  pub stay_small : first + i + n ≤ 1073741824
  stay_small = omega (arith, side_small s k i n q.0, read.offset.value)

  -- where the rows are not in runs, each row is one
  module _ (none : o ≡ None) where
    pub alone_same : (h : ℕ) → h < 1 → Kept s k (i + h) run
    alone_same h lt =
        let e : i + h ≡ i = omega arith in
        rw e at_row

  -- where they are, by the end of the run
  module _ {v : Numbers} (there : o ≡ Some v) where
    e : in_runs s k ≡ true
    e = (read_runs read there).0

    element : (h : ℕ) → h < n → RunPart s k (offset_of s k + (i + h))
    element h lt =
        let place : offset_of s k + i + h ≡ offset_of s k + (i + h) = omega arith in
        rw place at (row_runs q.0 e h lt)

    cover : RunsCover s k
    cover = runs_cover (element 0 q.1)

    run_held : run ≡ run_at s k (offset_of s k + i)
    run_held = at_row.same ∙ kept_run_lem s k (offset_of s k + i) e

    pub stay_few : run < 1073741824
    stay_few =
        let here : offset_of s k + i < elements_of s k = omega (arith, (element 0 q.1).element) in
        omega (arith, run_held, cover.run (offset_of s k + i) here, runs_few (element 0 q.1))

    pub stay_nth : Nth v.place v.width run
    stay_nth = end_nth (read_runs read there).1 (omega (arith, stay_few))

    module _ {end : ℕ} (re : Read (number_at v.width v.bytes.now (v.place + run * v.width)) (8 * v.width) end) where
      ee : end ≡ run_end_at s k run
      ee = end_is (read_runs read there).1 run re

      end_held : end ≡ run_end_at s k (run_at s k (offset_of s k + i))
      end_held = ee ∙ ap (run_end_at s k) run_held

      pub stay_above : first + i < end
      stay_above = omega (arith, read.offset.value, end_held, cover.above (offset_of s k + i) (omega (arith, (element 0 q.1).element)))

      -- a row below the run's end
      stays : (h : ℕ) → h < n → offset_of s k + (i + h) < end → run ≡ run_at s k (offset_of s k + (i + h))
      stays h lt below = run_held ∙ run_stays cover (offset_of s k + i) (offset_of s k + (i + h)) (omega arith) (omega (arith, end_held)) (element h lt).element

      module _ {rows : ℕ} (er : rows ≡ min n (end - (first + i))) where
        pub stay_some : 0 < rows
        stay_some = omega (arith, stay_above)

        pub stay_same : (h : ℕ) → h < rows → Kept s k (i + h) run
        stay_same h lt = record { same = stays h (omega arith) (omega (arith, read.offset.value)) ∙ sym (kept_run_lem s k (offset_of s k + (i + h)) e) }

        pub stay_next : {next : ℕ} → next ≡ next_run (first + i + (rows - 1)) run end → Behind s k (i + rows) next
        stay_next en = record {
          alone = λ none. absurd (true≢false (sym e ∙ none));
          held = λ _ part.
              let last : first + i + (rows - 1) ≡ offset_of s k + (i + (rows - 1)) = omega (arith, read.offset.value) in
              let behind : offset_of s k + (i + (rows - 1)) + 1 ≡ offset_of s k + (i + rows) = omega (arith, stay_above) in
              let run-last : run ≡ run_at s k (offset_of s k + (i + (rows - 1))) = stays (rows - 1) (omega arith) (omega (arith, read.offset.value, stay_above)) in
              en ∙ ap (λ (x : ℕ). next_run x run end) last ∙ rw (ee, run-last) (sym (run_next (offset_of s k + (i + (rows - 1))) (rw behind part))) ∙ ap (run_at s k) behind;
        }

-- the runs that are remembered: none at first, then the one behind some rows
pub none_remembered : (s : List ℕ) → Remembered s (replicate 256 None)
none_remembered s = record {
  sized = length-replicate {A = Option KeptRun} 256 None;
  of = λ k lt. rw (get_or-replicate {A = Option KeptRun} 256 k None None lt) tt;
}

-- once a run is remembered, whatever is kept behind the row
remembered_more : {s : List ℕ} {runs : List (Option KeptRun)} {k first i run : ℕ} {o : Option Numbers} → Remembered s runs → k < 256 → ColumnRead s k first o → Behind s k i run → Remembered s (remembering_by o runs k (first + i) run)
remembered_more {s} {runs} {k} {first} {i} {run} {o} t few read b = cases o refl
  where
    kept : KeptRun
    kept = record { element = first + i; run = run }

    more : in_runs s k ≡ true → Remembered s (set runs k (Some kept))
    more e = record {
      sized = length-set runs k (Some kept) ∙ t.sized;
      of = λ l lt. by l lt (eqb l k) refl;
    }
      where
        by : (l : ℕ) → l < 256 → (is : Bool) → eqb l k ≡ is → RememberedOf s l (get_or (set runs k (Some kept)) l None)
        by l lt true q =
            let x : l ≡ k = eqb-true l k q in
            rw (x, get_or-set_same runs k (Some kept) None (omega (arith, t.sized)), read.offset.value) (b.held e)
        by l lt false q = rw (get_or-set_other runs k l (Some kept) None (eqb-false l k q)) (t.of l lt)

    cases : (ends : Option Numbers) → o ≡ ends → Remembered s (remembering_by ends runs k (first + i) run)
    cases None e = t
    cases (Some v) e = more (read_runs read e).0

pub remembered_now : (c : Cursor) {runs after : List (Option KeptRun)} → after ≡ remembering runs c → Remembered c.column.now.node.image.now runs → c.column.now.node.number < 256 → Remembered c.column.now.node.image.now after
remembered_now c e t few = rw e (remembered_more t few c.column.now.read c.behind)

-- rows beside which the same run is kept are the same row
module _ {s : List ℕ} {k x y run : ℕ} (accepted : AcceptedImage s) (node : k < node_count s) (at : Kept s k x run) (to : Kept s k y run) where
  same_alone : in_runs s k ≡ false → x ≡ y
  same_alone none = omega (arith, at.same, to.same, kept_alone s k (offset_of s k + x) none, kept_alone s k (offset_of s k + y) none)

  module _ (e : in_runs s k ≡ true) where
    same_run : run_at s k (offset_of s k + x) ≡ run_at s k (offset_of s k + y)
    same_run = sym (kept_run_lem s k (offset_of s k + x) e) ∙ sym at.same ∙ to.same ∙ kept_run_lem s k (offset_of s k + y) e

    never_null : (i : ℕ) → valid s k i ≡ true
    never_null i = (accepted.node k node).known.all_valid (rw (runs_layout s k e)) i

    same_value : (depth : ℕ) → row_at depth s k x ≡ row_at depth s k y
    unfolding row_at run_row
    same_value zero = refl
    same_value (suc depth) = rw (never_null x, never_null y, runs_layout s k e, same_run)

  pub same_row_lem : (depth : ℕ) → row_at depth s k x ≡ row_at depth s k y
  same_row_lem depth = cases (in_runs s k) refl
    where
      cases : (b : Bool) → in_runs s k ≡ b → row_at depth s k x ≡ row_at depth s k y
      cases true e = same_value e depth
      cases false none = ap (row_at depth s k) (same_alone none)
