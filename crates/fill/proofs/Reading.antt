-- What is read of a string at a place, by the layout of the node: the row, where its bytes stand, and what follows.
-- A reader that has read something did not fail, so what it asks for lies inside.
use mathlib.Core.Path.{◌≡◌, refl, sym, ap, ◌∙◌}
use mathlib.Core.Bool.{Bool, true, false, cond, ◌||◌}
use mathlib.Core.List.{List, [], ◌∷◌}
use mathlib.Core.Logic.{◌⊎◌, inl, inr}
use Prim.Native.Nat.{ℕ, zero, suc, ◌+◌, ◌-◌, ◌≤◌, ◌<◌}
use native.Mathlib.Nat.{add-zero}
use native.Mathlib.Omega.{arith}
use lib.ListN.{length, drop, drop_of_length-le}
use lib.Seq.{drop-cons, get_or-drop}
use lib.Dec.{eqb, leb}
use borrow.Author.Tests.{leb-true}
use Rattle.image.specs.declared.type_code.Layout.{Layout}
use Rattle.image.specs.declared.type_code.Layout.TheVariants.{Null, Boolean, FixedWidth, VariableSize, List as Lists, Struct}
use Rattle.image.specs.Bytes.{byte_at, number_at, bytes_at}
use Rattle.image.specs.Record.{code_of, first_child, child_count}
use Rattle.image.specs.TypeCode.{layout_of, takes_bitmap}
use Rattle.image.specs.Element.{element_width}
use Rattle.image.specs.Row.{Row, Rows, null, fixed, sized, joined, counted}
use Rattle.image.specs.Utf8.{well_formed}
use Rattle.image.specs.Parse.{Parsed, failed, parsed, made, and_then, bytes_in, number_in, rows_of, row_of_each, checked_text, marked, value_in, row_in}
use Rattle.built.proofs.Parsed.{failed_not, made_back, then_back, when_back}
use Rattle.parse.proofs.Places.{bytes_here, bytes_short, number_here, number_short}
use Rattle.fill.proofs.Bytes.{lt_or_ge}

-- bytes and numbers
read_bytes : (n at : ℕ) (b x rest : List ℕ) → at ≤ length b → bytes_in n (drop at b) ≡ parsed x rest → (at + n ≤ length b) × (bytes_in n (drop at b) ≡ parsed (bytes_at b at n) (drop (at + n) b))
read_bytes n at b x rest inside e = cases (lt_or_ge (length b - at) n)
  where
    cases : (length b - at < n) ⊎ (n ≤ length b - at) → (at + n ≤ length b) × (bytes_in n (drop at b) ≡ parsed (bytes_at b at n) (drop (at + n) b))
    cases (inl lt) = absurd (failed_not (sym (bytes_short n at b lt) ∙ e))
    cases (inr le) = (omega arith, bytes_here n at b (omega arith))

read_number : (at : ℕ) (b : List ℕ) (n : ℕ) (rest : List ℕ) → at ≤ length b → number_in (drop at b) ≡ parsed n rest → (at + 4 ≤ length b) × (number_in (drop at b) ≡ parsed (number_at 4 b at) (drop (at + 4) b))
read_number at b n rest inside e = cases (lt_or_ge (length b - at) 4)
  where
    cases : (length b - at < 4) ⊎ (4 ≤ length b - at) → (at + 4 ≤ length b) × (number_in (drop at b) ≡ parsed (number_at 4 b at) (drop (at + 4) b))
    cases (inl lt) = absurd (failed_not (sym (number_short at b lt) ∙ e))
    cases (inr le) = (omega arith, number_here at b (omega arith))

-- two readings of one string
module _ {A : Type 0} {x y : A} {u v : List ℕ} where
  same_read : parsed x u ≡ parsed y v → x ≡ y
  same_read e = cc

  same_rest : parsed x u ≡ parsed y v → u ≡ v
  same_rest e = cc

-- a text is as it was read
text_checked : (code : ℕ) (y mid x rest : List ℕ) → checked_text code y mid ≡ parsed x rest → (y ≡ x) × (mid ≡ rest)
text_checked code y mid x rest e = cases (eqb code 26 || eqb code 28) e
  where
    cases : (t : Bool) → cond t (cond (well_formed y) (parsed y mid) failed) (parsed y mid) ≡ parsed x rest → (y ≡ x) × (mid ≡ rest)
    cases true h = let w = when_back (well_formed y) (parsed y mid) x rest h in (same_read w.1, same_rest w.1)
    cases false h = (same_read h, same_rest h)

-- A value of node k at a place of the string; `row c` reads a row of node c.
module _ (row : ℕ → List ℕ → Parsed Row) (s : List ℕ) (k : ℕ) (b : List ℕ) (at : ℕ) (inside : at ≤ length b) (r : Row) (rest : List ℕ) where
  abbrev value : Layout → Parsed Row
  value l = value_in l row s k (drop at b)

  pub read_null : value Null ≡ parsed r rest → (r ≡ fixed []) × (rest ≡ drop at b)
  read_null e = (sym (same_read e), sym (same_rest e))

  pub read_boolean : value Boolean ≡ parsed r rest → (at + 1 ≤ length b) × (byte_at b at ≤ 1) × (r ≡ fixed (byte_at b at ∷ [])) × (rest ≡ drop (at + 1) b)
  unfolding bytes_at
  read_boolean e =
      let w = when_back (leb (byte_at (drop at b) 0) 1) (made fixed (bytes_in 1 (drop at b))) r rest e in
      let m = made_back fixed (bytes_in 1 (drop at b)) r rest w.1 in
      let x = read_bytes 1 at b m.0 rest inside m.1 in
      let here = sym m.1 ∙ x.1 in
      let byte : byte_at (drop at b) 0 ≡ byte_at b at = get_or-drop at b 0 0 ∙ ap (byte_at b) (add-zero at) in
      (x.0, rw (← byte) (leb-true _ _ w.0), sym m.2 ∙ ap fixed (same_read here), same_rest here)

  pub read_fixed : value FixedWidth ≡ parsed r rest → (at + element_width s k ≤ length b) × (r ≡ fixed (bytes_at b at (element_width s k))) × (rest ≡ drop (at + element_width s k) b)
  read_fixed e =
      let m = made_back fixed (bytes_in (element_width s k) (drop at b)) r rest e in
      let x = read_bytes (element_width s k) at b m.0 rest inside m.1 in
      let here = sym m.1 ∙ x.1 in
      (x.0, sym m.2 ∙ ap fixed (same_read here), same_rest here)

  pub read_text : value VariableSize ≡ parsed r rest → (at + 4 ≤ length b) × (at + 4 + number_at 4 b at ≤ length b) × (r ≡ sized (bytes_at b (at + 4) (number_at 4 b at))) × (rest ≡ drop (at + 4 + number_at 4 b at) b)
  read_text e =
      let m = made_back sized (and_then (and_then (number_in (drop at b)) bytes_in) (checked_text (code_of s k))) r rest e in
      let t = then_back (and_then (number_in (drop at b)) bytes_in) (checked_text (code_of s k)) m.0 rest m.1 in
      let c = text_checked (code_of s k) t.0 t.1 m.0 rest t.3 in
      let u = then_back (number_in (drop at b)) bytes_in t.0 t.1 t.2 in
      let n = read_number at b u.0 u.1 inside u.2 in
      let number = sym u.2 ∙ n.1 in
      let bytes : bytes_in (number_at 4 b at) (drop (at + 4) b) ≡ parsed t.0 t.1 = rw (← same_read number, ← same_rest number) u.3 in
      let x = read_bytes (number_at 4 b at) (at + 4) b t.0 t.1 n.0 bytes in
      let here = sym bytes ∙ x.1 in
      (n.0, x.0, sym m.2 ∙ ap sized (sym c.0 ∙ same_read here), sym c.1 ∙ same_rest here)

  pub read_list : value Lists ≡ parsed r rest → (at + 4 ≤ length b) × ((qs : Rows) × (rows_of (row (first_child s k)) (number_at 4 b at) (drop (at + 4) b) ≡ parsed qs rest) × (r ≡ counted qs))
  read_list e =
      let m = made_back counted (and_then (number_in (drop at b)) (rows_of (row (first_child s k)))) r rest e in
      let u = then_back (number_in (drop at b)) (rows_of (row (first_child s k))) m.0 rest m.1 in
      let n = read_number at b u.0 u.1 inside u.2 in
      let number = sym u.2 ∙ n.1 in
      (n.0, (m.0, rw (← same_read number, ← same_rest number) u.3, sym m.2))

  pub read_struct : value Struct ≡ parsed r rest → (qs : Rows) × (row_of_each row (first_child s k) (child_count s k) (drop at b) ≡ parsed qs rest) × (r ≡ joined qs)
  read_struct e =
      let m = made_back joined (row_of_each row (first_child s k) (child_count s k) (drop at b)) r rest e in
      (m.0, m.1, sym m.2)

-- What a mark tells: a null where the node may have a bitmap, or a value behind it.
pub data Mark (d : ℕ) (s : List ℕ) (k : ℕ) (b : List ℕ) (at : ℕ) (r : Row) (rest : List ℕ) : Type 0 where
  a_null : byte_at b at ≡ 0 → takes_bitmap (layout_of (code_of s k)) ≡ true → r ≡ null → rest ≡ drop (at + 1) b → Mark d s k b at r rest
  a_value : byte_at b at ≡ 1 → value_in (layout_of (code_of s k)) (row_in (d - 1) s) s k (drop (at + 1) b) ≡ parsed r rest → Mark d s k b at r rest

-- a row: its mark, and its value behind it
module _ (d : ℕ) (s : List ℕ) (k : ℕ) (b : List ℕ) (at : ℕ) (r : Row) (rest : List ℕ) where
  pub read_deep : row_in d s k (drop at b) ≡ parsed r rest → 0 < d
  unfolding row_in
  read_deep e = cases d e
    where
      cases : (d : ℕ) → row_in d s k (drop at b) ≡ parsed r rest → 0 < d
      cases zero h = absurd (failed_not h)
      cases (suc d) h = omega arith

  as_marked : row_in d s k (drop at b) ≡ parsed r rest → marked (takes_bitmap (layout_of (code_of s k))) (value_in (layout_of (code_of s k)) (row_in (d - 1) s) s k) (drop at b) ≡ parsed r rest
  unfolding row_in
  as_marked e = cases d e
    where
      cases : (d : ℕ) → row_in d s k (drop at b) ≡ parsed r rest → marked (takes_bitmap (layout_of (code_of s k))) (value_in (layout_of (code_of s k)) (row_in (d - 1) s) s k) (drop at b) ≡ parsed r rest
      cases zero h = absurd (failed_not h)
      cases (suc d) h =
          let same : suc d - 1 ≡ d = omega arith in
          rw same h

  pub read_inside : row_in d s k (drop at b) ≡ parsed r rest → at + 1 ≤ length b
  read_inside e = cases (lt_or_ge at (length b))
    where
      cases : (at < length b) ⊎ (length b ≤ at) → at + 1 ≤ length b
      cases (inl lt) = omega arith
      cases (inr le) =
          let none : drop at b ≡ [] = drop_of_length-le b le in
          absurd (failed_not (rw none at (as_marked e)))

  pub read_mark : row_in d s k (drop at b) ≡ parsed r rest → Mark d s k b at r rest
  read_mark e =
      let inside = read_inside e in
      let split : drop at b ≡ byte_at b at ∷ drop (suc at) b = drop-cons b at 0 (omega arith) in
      let next : suc at ≡ at + 1 = omega arith in
      cases (byte_at b at) refl (rw (split, next) at (as_marked e))
    where
      cases : (v : ℕ) → byte_at b at ≡ v → marked (takes_bitmap (layout_of (code_of s k))) (value_in (layout_of (code_of s k)) (row_in (d - 1) s) s k) (v ∷ drop (at + 1) b) ≡ parsed r rest → Mark d s k b at r rest
      cases zero is h =
          let w = when_back (takes_bitmap (layout_of (code_of s k))) (parsed null (drop (at + 1) b)) r rest h in
          a_null is w.0 (sym (same_read w.1)) (sym (same_rest w.1))
      cases (suc zero) is h = a_value is h
      cases (suc (suc v)) is h = absurd (failed_not h)
