-- A loop over rows: those of one node, or one of each child.
-- It keeps that a scan of the rows that are left, of what is left of the string, tells what a scan of all rows tells.
use mathlib.Core.Path.{◌≡◌, refl, ◌∙◌}
use mathlib.Core.List.{List}
use Prim.Native.Nat.{ℕ, suc, ◌+◌, ◌-◌, ◌≤◌, ◌<◌}
use native.Mathlib.Omega.{arith}
use Rattle.std.proofs.Common.{Option, Some, None}
use Rattle.image.specs.Record.{first_child, child_count}
use Rattle.image.specs.Row.{Row, Rows, none, more}
use Rattle.image.specs.Parse.{Parsed, parsed, row_then, rows_of, row_of_each, row_in}
use Rattle.parse.specs.Scan.{struct_of, row_adds, rows_add, each_adds, joined_adds, Scans}
use Rattle.parse.proofs.Totals.{no_rows_add, more_rows_add, no_child_adds, more_children_add}
use Rattle.parse.proofs.Scans.{stopped, reached, rows_scan}

-- n rows, one after the other: how row i is read and what it adds, and how those from row i on are
pub record Turns : Type 0 where
  pub turns : ℕ
  pub row : ℕ → List ℕ → Parsed Row
  pub adds : ℕ → Row → ℕ → ℕ
  pub rest : ℕ → List ℕ → Parsed Rows
  pub rest_adds : ℕ → Rows → ℕ → ℕ
  pub least : ℕ → ℕ
  pub reads : (i : ℕ) → i < turns → (b : List ℕ) → rest i b ≡ row_then (row i b) (rest (i + 1))
  pub sums : (i : ℕ) (r : Row) (rs : Rows) (j : ℕ) → rest_adds i (more r rs) j ≡ adds i r j + rest_adds (i + 1) rs j
  pub fewer : (i : ℕ) → least i ≤ suc (least (i + 1))
  pub ends : (i : ℕ) → turns ≤ i → (b : List ℕ) → rest i b ≡ parsed none b
  pub ended : (i : ℕ) → turns ≤ i → least i ≡ 0
  pub no_sum : (i j : ℕ) → rest_adds i none j ≡ 0

-- What is left of them at row i, of a string whose rest stands there, tells what all tell, which p reads from b.
pub record Left (w : Turns) (b : List ℕ) (m : ℕ) (p : Parsed Rows) (adds : Rows → ℕ → ℕ) (before : List ℕ) (i : ℕ) (rest spans : List ℕ) : Type 0 where
  pub whole : (after : List ℕ) (answer : Option (List ℕ)) → Scans rest (w.least i) (w.rest i rest) (w.rest_adds i) spans after answer → Scans b m p adds before after answer

module _ {w : Turns} {b : List ℕ} {m : ℕ} {p : Parsed Rows} {adds : Rows → ℕ → ℕ} {before : List ℕ} {i : ℕ} {rest spans : List ℕ} (h : Left w b m p adds before i rest spans) where
  pub left_done : w.turns ≤ i → Scans b m p adds before spans (Some rest)
  left_done le =
      h.whole spans (Some rest)
      (reached refl (record {
        what = none;
        is = w.ends i le rest;
        spans = λ j lt. omega (arith, w.no_sum i j);
        took = λ j. omega (arith, w.no_sum i j, w.ended i le);
      }))

  -- the scan of row i
  module _ {mid : List ℕ} (lt : i < w.turns) where
    pub left_stop : Scans rest 1 (w.row i rest) (w.adds i) spans mid None → Scans b m p adds before mid None
    left_stop row = h.whole mid None (stopped row.sized (w.reads i lt rest ∙ rw row.tells))

    pub left_next : {place : List ℕ} → Scans rest 1 (w.row i rest) (w.adds i) spans mid (Some place) → Left w b m p adds before (i + 1) place mid
    left_next {place} row = record {
      whole = λ after answer later.
          h.whole after answer
          (rw (w.reads i lt rest) (rows_scan (w.row i rest) (w.rest (i + 1)) (w.sums i) (w.fewer i) row later));
    }

-- n rows of node k
pub rows_read : (d : ℕ) (s : List ℕ) (k n i : ℕ) → i < n → (b : List ℕ) → rows_of (row_in d s k) (n - i) b ≡ row_then (row_in d s k b) (rows_of (row_in d s k) (n - (i + 1)))
unfolding rows_of
rows_read d s k n i lt b =
    let e : n - i ≡ suc (n - (i + 1)) = omega arith in
    rw e

pub rows_end : (d : ℕ) (s : List ℕ) (k n i : ℕ) → n ≤ i → (b : List ℕ) → rows_of (row_in d s k) (n - i) b ≡ parsed none b
unfolding rows_of
rows_end d s k n i le b =
    let e : n - i ≡ 0 = omega arith in
    rw e

abbrev pub row_turns : ℕ → List ℕ → ℕ → ℕ → Turns
row_turns d s k n = record {
  turns = n;
  row = λ i. row_in d s k;
  adds = λ i. row_adds d s k;
  rest = λ i. rows_of (row_in d s k) (n - i);
  rest_adds = λ i. rows_add d s k;
  least = λ i. n - i;
  reads = rows_read d s k n;
  sums = λ i. more_rows_add d s k;
  fewer = λ i. omega arith;
  ends = rows_end d s k n;
  ended = λ i le. omega arith;
  no_sum = λ i. no_rows_add d s k;
}

pub rows_begin : (d : ℕ) (s : List ℕ) (k n : ℕ) (b spans : List ℕ) → Left (row_turns d s k n) b n (rows_of (row_in d s k) n b) (rows_add d s k) spans 0 b spans
rows_begin d s k n b spans =
    let e : n - 0 ≡ n = omega arith in
    record { whole = λ after answer h. rw e at h }

-- a row of each of the n nodes from node c on
pub children_read : (d : ℕ) (s : List ℕ) (c n i : ℕ) → i < n → (b : List ℕ) → row_of_each (row_in d s) (c + i) (n - i) b ≡ row_then (row_in d s (c + i) b) (row_of_each (row_in d s) (c + (i + 1)) (n - (i + 1)))
unfolding row_of_each
children_read d s c n i lt b =
    let e : n - i ≡ suc (n - (i + 1)) = omega arith in
    let f : c + (i + 1) ≡ suc (c + i) = omega arith in
    rw (e, f)

pub children_end : (d : ℕ) (s : List ℕ) (c n i : ℕ) → n ≤ i → (b : List ℕ) → row_of_each (row_in d s) (c + i) (n - i) b ≡ parsed none b
unfolding row_of_each
children_end d s c n i le b =
    let e : n - i ≡ 0 = omega arith in
    rw e

pub children_sum : (d : ℕ) (s : List ℕ) (c i : ℕ) (r : Row) (rs : Rows) (j : ℕ) → each_adds d s (c + i) (more r rs) j ≡ row_adds d s (c + i) r j + each_adds d s (c + (i + 1)) rs j
children_sum d s c i r rs j =
    let e : c + (i + 1) ≡ suc (c + i) = omega arith in
    rw e (more_children_add d s (c + i) r rs j)

abbrev pub child_turns : ℕ → List ℕ → ℕ → ℕ → Turns
child_turns d s c n = record {
  turns = n;
  row = λ i. row_in d s (c + i);
  adds = λ i. row_adds d s (c + i);
  rest = λ i. row_of_each (row_in d s) (c + i) (n - i);
  rest_adds = λ i. each_adds d s (c + i);
  least = λ i. 0;
  reads = children_read d s c n;
  sums = children_sum d s c;
  fewer = λ i. omega arith;
  ends = children_end d s c n;
  ended = λ i le. refl;
  no_sum = λ i. no_child_adds d s (c + i);
}

pub children_begin : (d : ℕ) (s : List ℕ) (k : ℕ) (b spans : List ℕ) → Left (child_turns d s (first_child s k) (child_count s k)) b 0 (struct_of d s k b) (joined_adds d s k) spans 0 b spans
children_begin d s k b spans =
    let e : child_count s k - 0 ≡ child_count s k = omega arith in
    let f : first_child s k + 0 ≡ first_child s k = omega arith in
    record { whole = λ after answer h. rw (e, f) at h }
