-- A scan of a whole string tells whether it is rows, and the spans of their columns.
-- The string is rows where nothing is left of it; what the rows of the root give a node is its column.
use mathlib.Core.Path.{◌≡◌, refl, sym, ◌∙◌}
use mathlib.Core.Bool.{true, false}
use mathlib.Core.List.{List, [], ◌∷◌}
use Prim.Native.Nat.{ℕ, ◌≤◌, ◌<◌}
use native.Mathlib.Omega.{arith}
use lib.Dec.{eqb}
use lib.ListN.{length, get_or, replicate, length-replicate, get_or-replicate}
use borrow.Author.Tests.{ne_eqb}
use Rattle.std.proofs.Common.{Ok, Option, Some, None}
use Rattle.image.specs.Faults.{check_image}
use Rattle.image.specs.Bytes.{AllBytes}
use Rattle.image.specs.Record.{node_count}
use Rattle.image.specs.Row.{Rows}
use Rattle.image.specs.Parse.{parsed, readable, rows_of, row_in, rows_in}
use Rattle.image.specs.Built.{column}
use Rattle.laws.proofs.Accepted.{accepted}
use Rattle.built.specs.Walk.{total}
use Rattle.built.proofs.Parsed.{failed_not}
use Rattle.built.proofs.Typed.{rows_typed}
use Rattle.built.proofs.Walk.{columns_given}
use Rattle.parse.specs.Answer.{are_rows, Spanned}
use Rattle.parse.specs.Scan.{rows_add, largest, Within, Begun, Scans}

pub root_within : (s : List ℕ) → check_image s ≡ Ok tt → Within s 0
root_within s e =
    let image = accepted s e in
    record { image = image; node = omega (arith, image.tables.some_nodes) }

-- all spans are 0 at first
pub begun_first : (b spans : List ℕ) → length b ≤ largest → spans ≡ replicate 256 0 → Begun b spans
begun_first b spans short zeros =
    rw zeros (record { sized = length-replicate {A = ℕ} 256 0; room = λ j lt. omega (arith, get_or-replicate {A = ℕ} 256 j 0 0 lt) })

-- two readings of one string
parsed_same : {rs qs : Rows} {x y : List ℕ} → parsed rs x ≡ parsed qs y → rs ≡ qs
parsed_same e = cc

-- so many rows of the root
module _ (s : List ℕ) (n : ℕ) (b : List ℕ) {before after : List ℕ} where
  pub none_answer : Scans b n (rows_of (row_in 16 s 0) n b) (rows_add 16 s 0) before after None → false ≡ are_rows (rows_in s n b)
  unfolding rows_in
  none_answer h = rw h.tells

  pub some_answer : {rest : List ℕ} → Scans b n (rows_of (row_in 16 s 0) n b) (rows_add 16 s 0) before after (Some rest) → eqb (length rest) 0 ≡ are_rows (rows_in s n b)
  unfolding rows_in
  some_answer {rest} h = rw h.tells.is (cases rest)
    where
      cases : (x : List ℕ) → eqb (length x) 0 ≡ are_rows (parsed h.tells.what x)
      cases [] = refl
      cases (y ∷ x) = ne_eqb _ 0 (λ e. omega (arith, e))

  pub whole_spans : {answer : Option (List ℕ)} → Scans b n (rows_of (row_in 16 s 0) n b) (rows_add 16 s 0) before after answer → check_image s ≡ Ok tt → readable s ≡ true → AllBytes b → before ≡ replicate 256 0 → Spanned s (rows_in s n b) after
  unfolding rows_in rows_add
  whole_spans {answer} h check codes all zeros = record { sized = h.sized ∙ rw zeros (length-replicate {A = ℕ} 256 0); spans = spans answer h }
    where
      spans : (answer : Option (List ℕ)) → Scans b n (rows_of (row_in 16 s 0) n b) (rows_add 16 s 0) before after answer → (rs : Rows) → rows_of (row_in 16 s 0) n b ≡ parsed rs [] → (j : ℕ) → j < node_count s → get_or after j 0 ≡ total (column s rs j)
      spans None h rs e j lt = absurd (failed_not (sym h.tells ∙ e))
      spans (Some rest) h rs e j lt =
          let image = accepted s check in
          let same : h.tells.what ≡ rs = parsed_same (sym h.tells.is ∙ e) in
          let few : j < 256 = omega (arith, image.tables.few_nodes) in
          let first : get_or before j 0 ≡ 0 = rw zeros (get_or-replicate {A = ℕ} 256 j 0 0 few) in
          let given = columns_given s image codes rs (rows_typed s n b all rs [] e) j lt in
          rw (given, ← same) (omega (arith, h.tells.spans j few, first))
