-- A row by its mark, and the rows of a list, scanned.
-- Behind the mark stands the value; behind the count of a list stand so many rows.
use mathlib.Core.Path.{◌≡◌, refl, ap, ◌∙◌}
use mathlib.Core.Bool.{Bool, true, false, cond}
use mathlib.Core.List.{List, [], ◌∷◌}
use Prim.Native.Nat.{ℕ, zero, suc, ◌+◌, ◌-◌, ◌≤◌, ◌<◌}
use native.Mathlib.Omega.{arith}
use lib.Dec.{eqb}
use lib.ListN.{length, get_or}
use Rattle.std.proofs.Common.{Option, Some, None}
use Rattle.std.specs.List.{IsFirstAndRest}
use Rattle.image.specs.Record.{code_of, first_child}
use Rattle.image.specs.TypeCode.{layout_of, takes_bitmap}
use Rattle.image.specs.Row.{Row, Rows, null, none, more}
use Rattle.image.specs.RowBytes.{count}
use Rattle.image.specs.Parse.{Parsed, failed, parsed, made, number_in, rows_of, marked, row_in}
use Rattle.built.proofs.Parsed.{then_back, made_back}
use Rattle.parse.specs.Scan.{value_of, list_of, row_adds, rows_add, counted_adds, largest, Counted, Begun, Scans, Grown}
use Rattle.parse.proofs.Totals.{null_adds}
use Rattle.parse.proofs.Scans.{stopped, reached}

length-zero : (b : List ℕ) → length b ≡ 0 → b ≡ []
length-zero [] e = refl
length-zero (x ∷ b) e = absurd (omega (arith, e))

-- a mark that is neither 00 nor 01
other_mark : (bitmap : Bool) (value : List ℕ → Parsed Row) (x : ℕ) (rest : List ℕ) → (x ≡ 0 → ⊥) → (x ≡ 1 → ⊥) → marked bitmap value (x ∷ rest) ≡ failed
other_mark bitmap value zero rest no-null no_value = absurd (no-null refl)
other_mark bitmap value (suc zero) rest no-null no_value = absurd (no_value refl)
other_mark bitmap value (suc (suc x)) rest no-null no_value = refl

-- a row of node k in front of b
module _ (d : ℕ) (s : List ℕ) (k : ℕ) (b : List ℕ) where
  pub row_too_deep : {before : List ℕ} → d ≡ 0 → Scans b 1 (row_in d s k b) (row_adds d s k) before before None
  unfolding row_in
  row_too_deep end = stopped refl (rw end)

  module _ (deep : d ≡ 0 → ⊥) where
    below : d ≡ suc (d - 1)
    below = omega (arith, deep)

    row_is : row_in d s k b ≡ marked (takes_bitmap (layout_of (code_of s k))) (value_of (d - 1) s k) b
    unfolding row_in
    row_is =
        let e : row_in d s k b ≡ row_in (suc (d - 1)) s k b = ap (λ (n : ℕ). row_in n s k b) below in
        e

    pub row_none : {before : List ℕ} → length b ≡ 0 → Scans b 1 (row_in d s k b) (row_adds d s k) before before None
    row_none e = stopped refl (row_is ∙ rw (length-zero b e))

    module _ {x : ℕ} {rest : List ℕ} (front : IsFirstAndRest b x rest) where
      pub row_other : {before : List ℕ} → (x ≡ 0 → ⊥) → (x ≡ 1 → ⊥) → Scans b 1 (row_in d s k b) (row_adds d s k) before before None
      row_other no-null no_value = stopped refl (row_is ∙ rw front.0 (other_mark _ _ x rest no-null no_value))

      pub row_no_null : {before : List ℕ} → x ≡ 0 → takes_bitmap (layout_of (code_of s k)) ≡ false → Scans b 1 (row_in d s k b) (row_adds d s k) before before None
      row_no_null mark bitmap = stopped refl (row_is ∙ rw (front.0, mark, bitmap))

      pub row_null : {before : List ℕ} → x ≡ 0 → takes_bitmap (layout_of (code_of s k)) ≡ true → Scans b 1 (row_in d s k b) (row_adds d s k) before before (Some rest)
      row_null mark bitmap =
          reached refl (record {
            what = null;
            is = row_is ∙ rw (front.0, mark, bitmap);
            spans = λ j lt. omega (arith, null_adds d s k j);
            took = λ j. omega (arith, null_adds d s k j, front.1);
          })

      pub row_value : {before after : List ℕ} {answer : Option (List ℕ)} → x ≡ 1 → Scans rest 0 (value_of (d - 1) s k rest) (row_adds (suc (d - 1)) s k) before after answer → Scans b 1 (row_in d s k b) (row_adds d s k) before after answer
      row_value {answer = None} mark h = stopped h.sized (row_is ∙ rw (front.0, mark) h.tells)
      row_value {answer = Some left} mark h =
          reached h.sized (record {
            what = h.tells.what;
            is = row_is ∙ rw (front.0, mark) h.tells.is;
            spans = λ j lt. omega (arith, h.tells.spans j lt, same h.tells.what j);
            took = λ j. omega (arith, h.tells.took j, same h.tells.what j, front.1);
          })
        where
          same : (r : Row) (j : ℕ) → row_adds d s k r j ≡ row_adds (suc (d - 1)) s k r j
          same r j = ap (λ (n : ℕ). row_adds n s k r j) below

-- there are as many rows as were asked for
rows_many : (row : List ℕ → Parsed Row) (n : ℕ) (x : List ℕ) (rs : Rows) (rest : List ℕ) → rows_of row n x ≡ parsed rs rest → count rs ≡ n
unfolding rows_of count
rows_many row zero x rs rest e =
    let is : rs ≡ none = cc in
    rw is
rows_many row (suc n) x rs rest e =
    let t = then_back (row x) (λ r rest. made (more r) (rows_of row n rest)) rs rest e in
    let m = made_back (more t.0) (rows_of row n t.1) rs rest t.3 in
    rw (← m.2) (ap suc (rows_many row n t.1 m.0 rest m.1))

-- the list of node k in front of b
module _ (d : ℕ) (s : List ℕ) (k : ℕ) (b : List ℕ) where
  pub list_none : {before : List ℕ} → number_in b ≡ failed → Scans b 0 (list_of d s k b) (counted_adds d s k) before before None
  unfolding list_of
  list_none e = stopped refl (rw e)

  module _ {n : ℕ} {bytes : List ℕ} (number : Counted b n bytes) where
    list_is : list_of d s k b ≡ rows_of (row_in d s (first_child s k)) n bytes
    unfolding list_of
    list_is = rw number.is

    pub list_stop : {before mid : List ℕ} → Scans bytes n (rows_of (row_in d s (first_child s k)) n bytes) (rows_add d s (first_child s k)) before mid None → Scans b 0 (list_of d s k b) (counted_adds d s k) before mid None
    list_stop h = stopped h.sized (list_is ∙ h.tells)

    module _ {before mid rest : List ℕ} (h : Scans bytes n (rows_of (row_in d s (first_child s k)) n bytes) (rows_add d s (first_child s k)) before mid (Some rest)) where
      -- the count can be added to the span of the node
      pub list_room : Begun b before → k < 256 → get_or mid k 0 + n + length rest ≤ largest
      list_room begun few = omega (arith, h.tells.spans k few, h.tells.took k, begun.room k few, number.took)

      pub list_go : {after : List ℕ} → Grown mid after k n → Scans b 0 (list_of d s k b) (counted_adds d s k) before after (Some rest)
      unfolding counted_adds
      list_go {after} grown =
          let many : count h.tells.what ≡ n = rows_many (row_in d s (first_child s k)) n bytes h.tells.what rest h.tells.is in
          reached (grown.sized ∙ h.sized) (record {
            what = h.tells.what;
            is = list_is ∙ h.tells.is;
            spans = λ j lt. rw many (omega (arith, grown.spans j, h.tells.spans j lt));
            took = λ j. rw many (few (eqb k j) (rows_add d s (first_child s k) h.tells.what j) (h.tells.took j));
          })
        where
          few : (t : Bool) (x : ℕ) → length rest + n + x ≤ length bytes → length rest + 0 + (cond t n 0 + x) ≤ length b
          few true x le = omega (arith, number.took)
          few false x le = omega (arith, number.took)
