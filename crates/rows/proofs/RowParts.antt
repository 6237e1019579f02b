-- The bytes of a row: one byte if it is null, else those of what it is made of; and what reading it asks for.
-- A row is null or a value, by its bit; a value's bytes are known whatever the child rows are, so at those of the next depth.
use mathlib.Core.Path.{◌≡◌, refl, sym, ap, ◌∙◌}
use mathlib.Core.Bool.{Bool, true, false, not}
use mathlib.Core.List.{List, [], ◌∷◌, ◌++◌}
use Prim.Native.Nat.{ℕ, zero, suc, ◌+◌, ◌-◌, ◌≤◌, ◌<◌}
use native.Mathlib.Omega.{arith}
use lib.ListN.{length, length-append}
use borrow.Author.Tests.{not-true, not-false}
use Rattle.image.specs.Ranges.{pieces}
use Rattle.image.specs.Bytes.{number_bytes}
use Rattle.image.specs.Record.{code_of, offset_of}
use Rattle.image.specs.TypeCode.{layout_of}
use Rattle.image.specs.Element.{valid}
use Rattle.image.specs.Reads.{Read}
use Rattle.image.specs.Row.{Row, null, fixed, sized, joined, counted, tagged, range, value_at, row_at}
use Rattle.image.specs.RowBytes.{row_bytes, rows_bytes}
use Rattle.laws.proofs.Lengths.{number_length}
use Rattle.accepted.specs.Parts.{Side, Part}
use Rattle.accepted.proofs.Nodes.{side_part}
use Rattle.accepted.proofs.Nodes.{side_small}
use Rattle.std.specs.Prelude.{Option, Some, None}
use Rattle.rows.specs.declared.value.ChildRows.{ChildRows}
use Rattle.rows.specs.Value.{Content, is_null, front_bytes, own_bytes, rows_of, child_rows}
use Rattle.rows.specs.ValueOf.{value_of}
use Rattle.rows.proofs.Joined.{parts_joined}
use Rattle.rows.proofs.ValueRows.{value_written}
use Rattle.rows.proofs.ValuePlaces.{PlacedRows, Placed, value_placed}

-- every row has a byte
pub row_some : (r : Row) → 0 < length (row_bytes r)
unfolding row_bytes
row_some null = omega arith
row_some (fixed b) = omega arith
row_some (sized b) = omega arith
row_some (joined rs) = omega arith
row_some (counted rs) = omega arith
row_some (tagged id r) = omega arith

-- whether a row is null
pub ended_null : (depth : ℕ) (s : List ℕ) (k i : ℕ) → depth ≡ 0 → true ≡ is_null depth s k i
unfolding is_null
ended_null depth s k i e = rw e

pub bit_null : (depth : ℕ) (s : List ℕ) (k i : ℕ) {b : Bool} → (depth ≡ 0 → ⊥) → b ≡ valid s k i → not b ≡ is_null depth s k i
unfolding is_null
bit_null zero s k i deep e = absurd (deep refl)
bit_null (suc depth) s k i deep e = ap not e

-- a null is one byte
pub row_null : (depth : ℕ) (s : List ℕ) (k i : ℕ) → is_null depth s k i ≡ true → row_bytes (row_at depth s k i) ≡ 0 ∷ []
unfolding is_null row_at row_bytes
row_null zero s k i e = refl
row_null (suc depth) s k i e = rw (not-true (valid s k i) e)

-- what is not null has a depth left and its bit set
not_ended : (depth : ℕ) (s : List ℕ) (k i : ℕ) → is_null depth s k i ≡ false → depth ≡ 0 → ⊥
unfolding is_null
not_ended zero s k i e z =
    let differ : ◌≡◌ {A = ℕ} 0 1 = cc in
    omega arith
not_ended (suc depth) s k i e z = omega arith

not_null : (depth : ℕ) (s : List ℕ) (k i : ℕ) → is_null depth s k i ≡ false → valid s k i ≡ true
unfolding is_null
not_null zero s k i e = cc
not_null (suc depth) s k i e = not-false (valid s k i) e

-- the rows of child c of child rows, of which `sub c i` is row i
abbrev pub child_bytes : (ℕ → ℕ → Row) → ChildRows → ℕ → List ℕ
child_bytes sub v c = rows_bytes (range (sub c) v.start v.count)

-- the bytes of all of them, one depth less
abbrev pub nested_bytes : ℕ → List ℕ → ChildRows → List ℕ
nested_bytes depth s v = pieces (child_bytes (row_at (depth - 1) s) v) v.child v.parts

abbrev pub children_bytes : ℕ → List ℕ → Option ChildRows → List ℕ
children_bytes depth s None = []
children_bytes depth s (Some v) = nested_bytes depth s v

-- A row is not null and is written as the value: its own bytes, then its child rows, one depth less.
pub record RowValue (depth : ℕ) (s : List ℕ) (k i : ℕ) (v : Content) : Type 0 where
  pub deep : depth ≡ 0 → ⊥
  pub bytes : row_bytes (row_at depth s k i) ≡ own_bytes v ++ children_bytes depth s v.rows
  pub placed : Placed s v

-- Child rows that it has are rows of nodes, and there is a depth for them.
pub record Below (depth : ℕ) (s : List ℕ) (v : ChildRows) : Type 0 where
  pub deep : depth ≡ 0 → ⊥
  pub placed : PlacedRows s v

pub below : {depth : ℕ} {s : List ℕ} {k i : ℕ} {v : Content} {c : ChildRows} → RowValue depth s k i v → v.rows ≡ Some c → Below depth s c
below r e = record { deep = r.deep; placed = rw e at r.placed.rows }

children_joined : (depth : ℕ) (s : List ℕ) (rows : Option ChildRows) → rows_bytes (rows_of (row_at (depth - 1) s) rows) ≡ children_bytes depth s rows
unfolding rows_bytes
children_joined depth s None = refl
children_joined depth s (Some v) = parts_joined (row_at (depth - 1) s) v.child v.parts v.start v.count

row_value : (depth : ℕ) (s : List ℕ) (k i : ℕ) → is_null depth s k i ≡ false → row_at depth s k i ≡ value_at (layout_of (code_of s k)) (row_at (depth - 1) s) s k (offset_of s k + i)
unfolding is_null row_at
row_value zero s k i e = cc
row_value (suc depth) s k i e =
    let less : suc depth - 1 ≡ depth = omega arith in
    rw (not-false (valid s k i) e, less)

-- rows of a node
module _ {s : List ℕ} {k i n : ℕ} (r : Side s k i n) where
  pub side_few : offset_of s k + i + n ≤ 1073741824
  side_few = side_small s k i n r

  pub side_row : {h : ℕ} → h < n → Side s k (i + h) 1
  side_row {h} lt = record { image = r.image; node = r.node; rows = omega (arith, r.rows) }

-- a row of a node that is not null
module _ (depth : ℕ) {s : List ℕ} {k i : ℕ} (r : Side s k i 1) {b : Bool} (eb : b ≡ is_null depth s k i) (is : b ≡ false) {o : ℕ} (at : Read (offset_of s k) 32 o) where
  pub row_part : Part s k (o + i) 1
  row_part = rw at.value (side_part r (not_null depth s k i (sym eb ∙ is)))

  pub value_of_lem : {v : Content} → v ≡ value_of (layout_of (code_of s k)) s k (o + i) → RowValue depth s k i v
  unfolding child_rows
  value_of_lem {v} ev = record {
    deep = not_ended depth s k i (sym eb ∙ is);
    bytes =
        ap row_bytes (row_value depth s k i (sym eb ∙ is))
        ∙ rw (← ev, at.value) at (value_written row_part (row_at (depth - 1) s))
        ∙ ap (λ (b : List ℕ). own_bytes v ++ b) (children_joined depth s v.rows);
    placed = rw ev (value_placed row_part);
  }

-- how many bytes a value takes
pub own_length : (v : Content) → length (own_bytes v) ≡ 1 + v.width + length v.bytes
unfolding own_bytes front_bytes
own_length v =
    let number : List ℕ = number_bytes v.width v.head in
    omega (arith, length-append number v.bytes, number_length v.width v.head)

pub value_length : {depth : ℕ} {s : List ℕ} {k i : ℕ} {v : Content} → RowValue depth s k i v → length (row_bytes (row_at depth s k i)) ≡ 1 + v.width + length v.bytes + length (children_bytes depth s v.rows)
value_length {depth} {s} {k} {i} {v} r =
    let all : length (row_bytes (row_at depth s k i)) ≡ length (own_bytes v ++ children_bytes depth s v.rows) = ap length r.bytes in
    omega (arith, all, length-append (own_bytes v) (children_bytes depth s v.rows), own_length v)
