-- What is read once of a node whose rows are asked one after another, what a run is that is kept beside a row, and the runs that
-- are remembered.
use Rattle.std.specs.Prelude.{◌≡◌, Bool, true, false, Option, None, Some, List, ℕ, ◌+◌, eqb, set}
use Rattle.image.specs.Record.{code_of, offset_of}
use Rattle.image.specs.Element.{run_at}
use Rattle.image.specs.Reads.{Read, EndsOf}
use Rattle.image.specs.declared.bytes.Numbers.{Numbers}
use Rattle.accepted.specs.Parts.{RunPart}
use Rattle.accepted.specs.declared.column.KeptRun.{KeptRun}

-- the rows of node k are in runs
unfoldable pub in_runs : List ℕ → ℕ → Bool
in_runs s k = eqb (code_of s k) 43

-- the ends of node k's runs as they were read, where its rows are in runs
pub record EndsRead (s : List ℕ) (k : ℕ) (read : Option Numbers) : Type 0 where
  pub alone : read ≡ None → in_runs s k ≡ false
  pub runs : (ends : Numbers) → read ≡ Some ends → (in_runs s k ≡ true) × EndsOf s k ends

-- what is read once of node k
pub record ColumnRead (s : List ℕ) (k first : ℕ) (read : Option Numbers) : Type 0 where
  pub offset : Read (offset_of s k) 32 first
  pub ends : EndsRead s k read

-- row i of node k, which need not be there, beside which a run is kept if it is; where the rows are not in runs, each element
-- is one
pub record Behind (s : List ℕ) (k i run : ℕ) : Type 0 where
  pub alone : in_runs s k ≡ false → run ≡ offset_of s k + i
  pub held : in_runs s k ≡ true → RunPart s k (offset_of s k + i) → run ≡ run_at s k (offset_of s k + i)

-- the runs that are remembered, one for each node, and with them run `run` as that of element j of node k, where the node has runs
abbrev pub remembering_by : Option Numbers → List (Option KeptRun) → ℕ → ℕ → ℕ → List (Option KeptRun)
remembering_by None runs k j run = runs
remembering_by (Some ends) runs k j run = set runs k (Some (record { element = j; run = run }))
