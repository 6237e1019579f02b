-- The rows of each node in the order in which a walk over the string meets them: what a row of node k gives node j, itself and
-- through the rows below it.
use Rattle.std.specs.Prelude.{cond, List, ℕ, zero, suc, ◌+◌, eqb}
use Rattle.image.specs.Record.{code_of, first_child, child_count}
use Rattle.image.specs.Row.{Row, Rows, null, fixed, sized, joined, counted, tagged, none, more, one, rows_then}
use Rattle.image.specs.Parse.{Parsed, failed, parsed}
use Rattle.image.specs.Built.{from_each, gap_row, span}

-- the row itself, for its own node
abbrev pub own : Row → ℕ → ℕ → Rows
own r k j = cond (eqb k j) (one r) none

-- joined over nodes from c on, and over rows of nodes from c on
unfoldable pub over_nodes : (ℕ → Rows) → ℕ → ℕ → Rows
over_nodes f c zero = none
over_nodes f c (suc n) = rows_then (f c) (over_nodes f (suc c) n)

unfoldable pub over_each : (ℕ → Row → Rows) → ℕ → Rows → Rows
over_each f c none = none
over_each f c (more r rs) = rows_then (f c r) (over_each f (suc c) rs)

-- through the rows below a row of node k
abbrev pub deeper : (ℕ → Row → Rows) → List ℕ → ℕ → Row → Rows
deeper f s k null = cond (eqb (code_of s k) 38) (over_nodes (λ c. f c (gap_row s c)) (first_child s k) (child_count s k)) none
deeper f s k (fixed b) = none
deeper f s k (sized b) = none
deeper f s k (joined rs) = over_each f (first_child s k) rs
deeper f s k (counted rs) = from_each (f (first_child s k)) rs
deeper f s k (tagged id r) = none

-- what row r of node k gives node j
unfoldable pub gives : ℕ → List ℕ → ℕ → Row → ℕ → Rows
gives zero s k r j = none
gives (suc d) s k r j = rows_then (own r k j) (deeper (λ c q. gives d s c q j) s k r)

-- how far the offsets of rows go on, in all
unfoldable pub total : Rows → ℕ
total none = 0
total (more r rs) = span r + total rs

-- what was read of a string, and nothing where it could not be read
abbrev pub the_row : Parsed Row → Row
the_row failed = null
the_row (parsed r b) = r

abbrev pub the_rows : Parsed Rows → Rows
the_rows failed = none
the_rows (parsed rs b) = rs
