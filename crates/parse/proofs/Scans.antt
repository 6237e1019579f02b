-- What scans tell, put together: of a value made of another, and of one row and then others.
-- A scan that stops stops the whole; one that goes on adds what it read to what follows.
use mathlib.Core.Path.{◌≡◌, ap, ◌∙◌}
use mathlib.Core.List.{List}
use Prim.Native.Nat.{ℕ, suc, ◌+◌, ◌≤◌}
use native.Mathlib.Omega.{arith}
use lib.ListN.{length}
use Rattle.std.proofs.Common.{Option, Some, None}
use Rattle.image.specs.Row.{Row, Rows, more}
use Rattle.image.specs.Parse.{Parsed, failed, made, row_then}
use Rattle.parse.specs.Scan.{Begun, Reached, Scans}

-- A scan may begin where less is left.
pub begun_at : {b spans : List ℕ} (rest : List ℕ) → Begun b spans → length rest ≤ length b → Begun rest spans
begun_at rest h less = record { sized = h.sized; room = λ j lt. omega (arith, h.room j lt) }

module _ {A : Type 0} {b : List ℕ} {m : ℕ} {p : Parsed A} {adds : A → ℕ → ℕ} {before after : List ℕ} where
  pub stopped : length after ≡ length before → p ≡ failed → Scans b m p adds before after None
  stopped sized e = record { sized = sized; tells = e }

  pub reached : {rest : List ℕ} → length after ≡ length before → Reached b m p adds before after rest → Scans b m p adds before after (Some rest)
  reached sized r = record { sized = sized; tells = r }

  -- a value that is made of what was read
  module _ {B : Type 0} (g : A → B) {adds-made : B → ℕ → ℕ} (same : (x : A) (j : ℕ) → adds-made (g x) j ≡ adds x j) where
    pub made_scans : {answer : Option (List ℕ)} → Scans b m p adds before after answer → Scans b m (made g p) adds-made before after answer
    made_scans {answer = None} h = record { sized = h.sized; tells = ap (made g) h.tells }
    made_scans {answer = Some rest} h = record {
      sized = h.sized;
      tells = record {
        what = g h.tells.what;
        is = ap (made g) h.tells.is;
        spans = λ j lt. omega (arith, h.tells.spans j lt, same h.tells.what j);
        took = λ j. omega (arith, h.tells.took j, same h.tells.what j);
      };
    }

-- a row, and then rows
module _ {b place : List ℕ} {m whole : ℕ} (p : Parsed Row) (f : List ℕ → Parsed Rows) {one : Row → ℕ → ℕ} {rest all : Rows → ℕ → ℕ} {before mid after : List ℕ} (sum : (r : Row) (rs : Rows) (j : ℕ) → all (more r rs) j ≡ one r j + rest rs j) where
  pub rows_scan : {answer : Option (List ℕ)} → whole ≤ suc m → Scans b 1 p one before mid (Some place) → Scans place m (f place) rest mid after answer → Scans b whole (row_then p f) all before after answer
  rows_scan {answer = None} few r h = stopped (h.sized ∙ r.sized) (rw r.tells.is (ap (made (more r.tells.what)) h.tells))
  rows_scan {answer = Some left} few r h =
      reached (h.sized ∙ r.sized) (record {
        what = more r.tells.what h.tells.what;
        is = rw r.tells.is (ap (made (more r.tells.what)) h.tells.is);
        spans = λ j lt. omega (arith, r.tells.spans j lt, h.tells.spans j lt, sum r.tells.what h.tells.what j);
        took = λ j. omega (arith, r.tells.took j, h.tells.took j, sum r.tells.what h.tells.what j);
      })
