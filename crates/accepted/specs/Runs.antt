-- The run that is kept beside an element, for rows that are asked one after another.
use Rattle.std.specs.Prelude.{◌≡◌, cond, Option, None, Some, List, ℕ, ◌+◌, ◌≤◌, ◌<◌, ltb, length, get_or}
use Rattle.image.specs.Record.{offset_of}
use Rattle.image.specs.Element.{run_at}
use Rattle.accepted.specs.Parts.{RunPart}
use Rattle.accepted.specs.Columns.{in_runs}
pub use Rattle.accepted.specs.Columns.{remembering_by}
use Rattle.accepted.specs.declared.column.Cursor.{Cursor}
use Rattle.accepted.specs.declared.column.KeptRun.{KeptRun}
use Rattle.accepted.specs.declared.column.Stay.{Stay}

-- From element j to the next: the run stays while that one lies below the run's end, else it is the next. Nothing of an
-- image is asked but that end.
unfoldable pub next_run : ℕ → ℕ → ℕ → ℕ
next_run j run end = cond (ltb (j + 1) end) run (run + 1)

-- the run that is kept at element j of node k: the one that holds it; where the rows are not in runs, each element is one
unfoldable pub kept_run : List ℕ → ℕ → ℕ → ℕ
kept_run s k j = cond (in_runs s k) (run_at s k j) j

-- row i of node k, beside which a run is kept
pub record Kept (s : List ℕ) (k i run : ℕ) : Type 0 where
  pub same : run ≡ kept_run s k (offset_of s k + i)

-- how long the run is kept that is kept at a row: of n rows from there on so many are in it, and the next is kept behind them
pub record Stays (c : Cursor) (n : ℕ) (r : Stay) : Type 0 where
  pub some : 0 < r.rows
  pub within : r.rows ≤ n
  pub same : (h : ℕ) → h < r.rows → Kept c.column.now.node.image.now c.column.now.node.number (c.row + h) c.run
  pub column : r.next.column ≡ c.column
  pub row : r.next.row ≡ c.row + r.rows

-- what is remembered of node k: nothing, or an element and the run that holds it, if it is there
abbrev pub RememberedOf : List ℕ → ℕ → Option KeptRun → Type 0
RememberedOf s k None = Unit
RememberedOf s k (Some r) = RunPart s k r.element → r.run ≡ run_at s k r.element

-- the runs that are remembered, one for each node
pub record Remembered (s : List ℕ) (runs : List (Option KeptRun)) : Type 0 where
  pub sized : length runs ≡ 256
  pub of : (k : ℕ) → k < 256 → RememberedOf s k (get_or runs k None)

-- the runs that are remembered, and the one that is kept at a row, where the rows are in runs
abbrev pub remembering : List (Option KeptRun) → Cursor → List (Option KeptRun)
remembering runs c = remembering_by c.column.now.ends runs c.column.now.node.number (c.column.now.offset + c.row) c.run
