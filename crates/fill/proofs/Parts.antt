-- A row that node k gets: its three parts are put over, its numbers grow, and nothing else changes.
-- Parts stand one after the other, so that bytes put inside one leave the others as they are.
use mathlib.Core.Path.{◌≡◌, refl, sym, ap, ◌∙◌}
use mathlib.Core.Bool.{Bool, true, false, cond, false≢true}
use mathlib.Core.List.{List}
use mathlib.Core.Logic.{◌⊎◌, inl, inr}
use Prim.Native.Nat.{ℕ, zero, suc, ◌+◌, ◌*◌, ◌≤◌, ◌<◌, ◌^◌}
use native.Mathlib.Nat.{add-mul}
use native.Mathlib.Omega.{arith}
use lib.ListN.{length, get_or, set, length-append}
use Rattle.std.proofs.lemmas.List.{length-map}
use lib.Seq.{get_or-set_same, get_or-set_other}
use lib.Dec.{eqb}
use borrow.Author.Tests.{eqb-true, eq-eqb}
use lib.Pow.{pow-add}
use Rattle.image.specs.declared.type_code.Layout.TheVariants.{Boolean, FixedWidth, VariableSize}
use Rattle.image.specs.Bytes.{byte_at}
use Rattle.image.specs.Record.{node_count, code_of}
use Rattle.image.specs.TypeCode.{layout_of}
use Rattle.image.specs.Element.{element_width}
use Rattle.image.specs.Row.{Row, Rows, none, one, rows_then}
use Rattle.image.specs.RowBytes.{count}
use Rattle.image.specs.Built.{each_number, each_bytes, bits_number, value_bit, value_bytes, text_bytes, span, node_part}
use Rattle.laws.proofs.Accepted.{accepted}
use Rattle.rows.specs.Output.{over}
use Rattle.rows.proofs.Over.{over_length, over_before}
use Rattle.built.specs.Walk.{own, total}
use Rattle.built.proofs.Columns.{count_join}
use Rattle.built.proofs.Bits.{each_length}
use Rattle.built.proofs.Walk.{then_none}
use Rattle.fill.specs.declared.put.Filling.{Filling}
use Rattle.fill.specs.Filling.{State, filling, state, part_len, part_bytes, padded, Holds, Ready, Filled}
use Rattle.fill.proofs.Bytes.{lt_or_ge, over_behind, over_elsewhere, over_within}
use Rattle.fill.proofs.BitsSet.{bits_more, number_more, bytes_more}
use Rattle.fill.proofs.Steps.{total_then}

-- part q is y now, and nothing else has changed
pub record PartPut (s places : List ℕ) (q : ℕ) (y out after : List ℕ) : Type 0 where
  pub mine : part_bytes places after q ≡ y
  pub other : (p : ℕ) → p < 3 * node_count s → (p ≡ q → ⊥) → part_bytes places after p ≡ part_bytes places out p
  pub outside : (p : ℕ) → (p < get_or places 0 0) ⊎ (get_or places (3 * node_count s) 0 ≤ p) → byte_at after p ≡ byte_at out p
  pub long : length after ≡ length out

module _ {s places : List ℕ} {f : State} (ready : Ready s places f) where
  pub part_inside : (q : ℕ) → q < 3 * node_count s → get_or places q 0 + part_len places q ≤ length f.out
  part_inside q lt = omega (arith, ready.rise q (suc q) (omega arith) (omega arith), ready.rise (suc q) (3 * node_count s) (omega arith) (omega arith), ready.inside)

  pub part_near : (q : ℕ) → q < 3 * node_count s → get_or places q 0 + part_len places q ≤ 16777216
  part_near q lt = omega (arith, ready.rise q (suc q) (omega arith) (omega arith), ready.rise (suc q) (3 * node_count s) (omega arith) (omega arith), ready.short)

  pub put_part : (out : List ℕ) → length out ≡ length f.out → (q : ℕ) → q < 3 * node_count s → (o : ℕ) (x : List ℕ) → o + length x ≤ part_len places q
      → PartPut s places q (over (part_bytes places out q) o x) out (over out (get_or places q 0 + o) x)
  put_part out long q lt o x fits =
      let place : ℕ = get_or places q 0 in
      let inside = part_inside q lt in
      let first = ready.rise 0 q (omega arith) (omega arith) in
      let last = ready.rise (suc q) (3 * node_count s) (omega arith) (omega arith) in
      let step = ready.rise q (suc q) (omega arith) (omega arith) in
      let room : get_or places q 0 + o + length x ≤ length out = omega arith in
      record {
        mine = over_within out x (get_or places q 0) (part_len places q) o (omega arith) fits;
        other = λ p few differ. elsewhere p few differ room (lt_or_ge p q);
        outside = λ p e. beyond p room first last step e;
        long = over_length out (get_or places q 0 + o) x room;
      }
    where
      elsewhere : (p : ℕ) → p < 3 * node_count s → (p ≡ q → ⊥) → get_or places q 0 + o + length x ≤ length out → (p < q) ⊎ (q ≤ p) → part_bytes places (over out (get_or places q 0 + o) x) p ≡ part_bytes places out p
      elsewhere p few differ room (inl before) =
          let apart : get_or places p 0 + part_len places p ≤ get_or places q 0 + o = omega (arith, ready.rise p (suc p) (omega arith) (omega arith), ready.rise (suc p) q (omega arith) (omega arith)) in
          over_elsewhere out (get_or places q 0 + o) x room (get_or places p 0) (part_len places p) (inl apart)
      elsewhere p few differ room (inr behind) =
          let next : suc q ≤ p = after (lt_or_ge q p) in
          let apart : get_or places q 0 + o + length x ≤ get_or places p 0 = omega (arith, ready.rise q (suc q) (omega arith) (omega arith), ready.rise (suc q) p next (omega arith)) in
          over_elsewhere out (get_or places q 0 + o) x room (get_or places p 0) (part_len places p) (inr apart)
        where
          after : (q < p) ⊎ (p ≤ q) → suc q ≤ p
          after (inl e) = omega arith
          after (inr e) = absurd (differ (omega arith))

      beyond : (p : ℕ) → get_or places q 0 + o + length x ≤ length out → get_or places 0 0 ≤ get_or places q 0 → get_or places (suc q) 0 ≤ get_or places (3 * node_count s) 0 → get_or places q 0 ≤ get_or places (suc q) 0
          → (p < get_or places 0 0) ⊎ (get_or places (3 * node_count s) 0 ≤ p) → byte_at (over out (get_or places q 0 + o) x) p ≡ byte_at out p
      beyond p room first last step (inl e) = over_before out (get_or places q 0 + o) x room p (omega arith)
      beyond p room first last step (inr e) = over_behind out (get_or places q 0 + o) x room p (omega arith)

-- part i of node k, put over by x from o on, goes on by row r
pub record Grows (s places : List ℕ) (f : State) (k : ℕ) (r : Row) (i o : ℕ) (x : List ℕ) : Type 0 where
  pub fits : o + length x ≤ part_len places (3 * k + i)
  pub step : (rs : Rows) → Holds s places f k rs → over (padded (part_len places (3 * k + i)) (node_part s k rs i)) o x ≡ padded (part_len places (3 * k + i)) (node_part s k (rows_then rs (one r)) i)

-- a row whose bytes are as long as node k's values are
pub record Shaped (s : List ℕ) (k : ℕ) (r : Row) : Type 0 where
  pub even : layout_of (code_of s k) ≡ FixedWidth → length (value_bytes (element_width s k) r) ≡ element_width s k
  pub text : layout_of (code_of s k) ≡ VariableSize → length (text_bytes r) ≡ span r
  pub bit : layout_of (code_of s k) ≡ Boolean → value_bit r ≤ 1

pub count_more : (rs : Rows) (r : Row) → count (rows_then rs (one r)) ≡ count rs + 1
unfolding count
count_more rs r = count_join rs (one r)

pub total_more : (rs : Rows) (r : Row) → total (rows_then rs (one r)) ≡ total rs + span r
unfolding total
total_more rs r = total_then rs (one r) ∙ omega arith

-- a number for each node, as the table of a filling has an entry for each
pub state_sized : (x : Filling) → length x.tallies ≡ 256 → (length (state x).rows ≡ 256) × (length (state x).spans ≡ 256)
state_sized x e = (length-map x.tallies (λ t. t.rows) ∙ e, length-map x.tallies (λ t. t.span) ∙ e)

module _ {s places : List ℕ} {f : State} (ready : Ready s places f) (sized : (length f.rows ≡ 256) × (length f.spans ≡ 256)) (k : ℕ) (node : k < node_count s) (r : Row) (shaped : Shaped s k r)
    (o₀ : ℕ) (x₀ : List ℕ) (first : Grows s places f k r 0 o₀ x₀) (o₁ : ℕ) (x₁ : List ℕ) (second : Grows s places f k r 1 o₁ x₁) (o₂ : ℕ) (x₂ : List ℕ) (third : Grows s places f k r 2 o₂ x₂) where
  abbrev one_put : List ℕ
  one_put = over f.out (get_or places (3 * k + 0) 0 + o₀) x₀

  abbrev two_put : List ℕ
  two_put = over one_put (get_or places (3 * k + 1) 0 + o₁) x₁

  abbrev all_put : List ℕ
  all_put = over two_put (get_or places (3 * k + 2) 0 + o₂) x₂

  abbrev after : State
  after = filling all_put (set f.rows k (get_or f.rows k 0 + 1)) (set f.spans k (get_or f.spans k 0 + span r))

  put₀ : PartPut s places (3 * k + 0) (over (part_bytes places f.out (3 * k + 0)) o₀ x₀) f.out one_put
  put₀ = put_part ready f.out refl (3 * k + 0) (omega arith) o₀ x₀ first.fits

  put₁ : PartPut s places (3 * k + 1) (over (part_bytes places one_put (3 * k + 1)) o₁ x₁) one_put two_put
  put₁ = put_part ready one_put put₀.long (3 * k + 1) (omega arith) o₁ x₁ second.fits

  put₂ : PartPut s places (3 * k + 2) (over (part_bytes places two_put (3 * k + 2)) o₂ x₂) two_put all_put
  put₂ = put_part ready two_put (put₁.long ∙ put₀.long) (3 * k + 2) (omega arith) o₂ x₂ third.fits

  small : k < 256
  small = omega (arith, (accepted s ready.accepted).tables.few_nodes)

  -- the parts of node k
  parts : (rs : Rows) → Holds s places f k rs → (i : ℕ) → i < 3 → part_bytes places all_put (3 * k + i) ≡ padded (part_len places (3 * k + i)) (node_part s k (rows_then rs (one r)) i)
  parts rs h zero lt =
      put₂.other (3 * k + 0) (omega arith) (λ e. omega arith) ∙ put₁.other (3 * k + 0) (omega arith) (λ e. omega arith) ∙ put₀.mine
      ∙ ap (λ (y : List ℕ). over y o₀ x₀) (h.part 0 (omega arith)) ∙ first.step rs h
  parts rs h (suc zero) lt =
      put₂.other (3 * k + 1) (omega arith) (λ e. omega arith) ∙ put₁.mine
      ∙ ap (λ (y : List ℕ). over y o₁ x₁) (put₀.other (3 * k + 1) (omega arith) (λ e. omega arith) ∙ h.part 1 (omega arith)) ∙ second.step rs h
  parts rs h (suc (suc zero)) lt =
      put₂.mine
      ∙ ap (λ (y : List ℕ). over y o₂ x₂) (put₁.other (3 * k + 2) (omega arith) (λ e. omega arith) ∙ put₀.other (3 * k + 2) (omega arith) (λ e. omega arith) ∙ h.part 2 (omega arith))
      ∙ third.step rs h
  parts rs h (suc (suc (suc i))) lt = absurd (omega arith)

  bits_grow : (rs : Rows) → value_bit r ≤ 1 → bits_number (each_number value_bit rs) < 2 ^ count rs → bits_number (each_number value_bit (rows_then rs (one r))) < 2 ^ count (rows_then rs (one r))
  bits_grow rs bit lt =
      let p : 2 ^ (count rs + 1) ≡ 2 ^ count rs * 2 = pow-add 2 (count rs) 1 in
      let e = bits_more (each_number value_bit rs) (value_bit r) in
      let n = each_length value_bit rs in
      rw (number_more value_bit rs r, e, n, count_more rs r, p) (cases (value_bit r) bit)
    where
      cases : (v : ℕ) → v ≤ 1 → bits_number (each_number value_bit rs) + v * 2 ^ count rs < 2 ^ count rs * 2
      cases zero le = omega arith
      cases (suc zero) le = omega arith
      cases (suc (suc v)) le = absurd (omega arith)

  holds_own : (rs : Rows) → Holds s places f k rs → Holds s places after k (rows_then rs (one r))
  holds_own rs h =
      record {
        rows = get_or-set_same f.rows k _ 0 (omega (arith, sized.0, small)) ∙ omega (arith, h.rows, count_more rs r);
        spans = get_or-set_same f.spans k _ 0 (omega (arith, sized.1, small)) ∙ omega (arith, h.spans, total_more rs r);
        part = parts rs h;
        even = λ e. ap length (bytes_more (value_bytes (element_width s k)) rs r) ∙ length-append (each_bytes (value_bytes (element_width s k)) rs) (value_bytes (element_width s k) r)
            ∙ rw (h.even e, shaped.even e, count_more rs r, add-mul) (omega arith);
        texts = λ e. ap length (bytes_more text_bytes rs r) ∙ length-append (each_bytes text_bytes rs) (text_bytes r) ∙ omega (arith, h.texts e, shaped.text e, total_more rs r);
        bits = λ e. bits_grow rs (shaped.bit e) (h.bits e);
      }

  holds_other : (j : ℕ) (rs : Rows) → j < node_count s → (k ≡ j → ⊥) → Holds s places f j rs → Holds s places after j rs
  holds_other j rs lt differ h =
      record {
        rows = get_or-set_other f.rows k j _ 0 (λ e. differ (sym e)) ∙ h.rows;
        spans = get_or-set_other f.spans k j _ 0 (λ e. differ (sym e)) ∙ h.spans;
        part = λ i few.
            put₂.other (3 * j + i) (omega arith) (λ e. differ (omega arith)) ∙ put₁.other (3 * j + i) (omega arith) (λ e. differ (omega arith))
            ∙ put₀.other (3 * j + i) (omega arith) (λ e. differ (omega arith)) ∙ h.part i few;
        even = h.even;
        texts = h.texts;
        bits = h.bits;
      }

  pub row_put : Filled s places (own r k) f after
  unfolding count total
  row_put =
      record {
        rows = λ j lt. rows_grow j (eqb k j) refl;
        spans = λ j lt. spans_grow j (eqb k j) refl;
        holds = λ j rs lt h. holds j rs lt h (eqb k j) refl;
        outside = λ p e. put₂.outside p e ∙ put₁.outside p e ∙ put₀.outside p e;
        long = put₂.long ∙ put₁.long ∙ put₀.long;
      }
    where
      eqb_not : (j : ℕ) → eqb k j ≡ false → k ≡ j → ⊥
      eqb_not j e is = false≢true (sym e ∙ eq-eqb k j is)

      rows_grow : (j : ℕ) (b : Bool) → eqb k j ≡ b → get_or after.rows j 0 ≡ get_or f.rows j 0 + count (cond b (one r) none)
      rows_grow j true e =
          let is : k ≡ j = eqb-true k j e in
          rw (← is) (get_or-set_same f.rows k _ 0 (omega (arith, sized.0, small)))
      rows_grow j false e = get_or-set_other f.rows k j _ 0 (λ q. eqb_not j e (sym q)) ∙ omega arith

      spans_grow : (j : ℕ) (b : Bool) → eqb k j ≡ b → get_or after.spans j 0 ≡ get_or f.spans j 0 + total (cond b (one r) none)
      spans_grow j true e =
          let is : k ≡ j = eqb-true k j e in
          rw (← is) (get_or-set_same f.spans k _ 0 (omega (arith, sized.1, small)) ∙ omega arith)
      spans_grow j false e = get_or-set_other f.spans k j _ 0 (λ q. eqb_not j e (sym q)) ∙ omega arith

      holds : (j : ℕ) (rs : Rows) → j < node_count s → Holds s places f j rs → (b : Bool) → eqb k j ≡ b → Holds s places after j (rows_then rs (cond b (one r) none))
      holds j rs lt h true e =
          let is : k ≡ j = eqb-true k j e in
          rw (← is) (holds_own rs (rw is h))
      holds j rs lt h false e = rw (then_none rs) (holds_other j rs lt (eqb_not j e) h)
