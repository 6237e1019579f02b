-- What the rows of a union name, by what was read of the union before its rows.
-- The tables of the children, and of their rows, by their ids are the definition's search, entry by entry.
use mathlib.Core.Path.{◌≡◌, refl, ap, ◌∙◌}
use mathlib.Core.Bool.{Bool, true, false, not, cond, ◌||◌}
use mathlib.Core.List.{List}
use Prim.Native.Nat.{ℕ, ◌+◌, ◌*◌}
use native.Mathlib.Nat.{zero-add}
use native.Mathlib.Omega.{arith}
use lib.Dec.{leb, ltb}
use lib.ListN.{get_or}
use borrow.Author.Tests.{ltb-true, ltb-false, le-leb, lt-leb}
use Rattle.std.specs.Prelude.{Option, None, Some}
use Rattle.std.specs.Option.{is_some}
use Rattle.image.specs.Bytes.{byte_at, number_at}
use Rattle.image.specs.Reads.{Read, ChildrenById, NamedBy, NamedChild}
use Rattle.image.specs.Record.{length_of, offset_of, buffer_place}
use Rattle.image.specs.Element.{type_id_at, dense_offset_at, child_end, child_with_id}
use Rattle.image.specs.Faults.{id_unknown, dense_outside, dense_row_fault}
use Rattle.validate.specs.Unions.{RowsById}

-- what was read of union k
pub record Union (s : List ℕ) (k : ℕ) (table : List (Option ℕ)) (ids from : ℕ) : Type 0 where
  pub by_id : ChildrenById s k table
  pub place : ids ≡ buffer_place s k 0
  pub start : from ≡ offset_of s k

module _ (s : List ℕ) (k : ℕ) {ids from : ℕ} (place : ids ≡ buffer_place s k 0) (start : from ≡ offset_of s k) (i : ℕ) {id : ℕ} (read : Read (number_at 1 s (ids + (from + i) * 1)) (8 * 1) id) where
  -- the id of row i, which a table of 256 has
  id_at : id ≡ type_id_at s k (offset_of s k + (0 + i))
  unfolding type_id_at number_at
  id_at =
      let at : ids + (from + i) * 1 ≡ buffer_place s k 0 + (offset_of s k + (0 + i)) = omega (arith, place, start) in
      omega (arith, read.value, ap (λ (p : ℕ). byte_at s p) at)

  -- row i of a dense union names no child, or lies outside the one that it names, exactly where it is not below its id's rows
  pub outside_is : {rows : List ℕ} {offsets at : ℕ} → RowsById s k rows → offsets ≡ buffer_place s k 1 → at ≡ number_at 4 s (offsets + (from + i) * 4) → dense_row_fault s k (0 + i) ≡ leb (get_or rows id 0) at
  unfolding dense_row_fault dense_outside dense_offset_at id_unknown
  outside_is {at = at} by_id p r =
      rw (by_id.entry id read.small, ← id_at, zero-add, ← start, ← p, ← r) (cases (child_with_id s k id) (ltb (child_with_id s k id) (child_end s k)) refl)
    where
      cases : (c : ℕ) (b : Bool) → ltb c (child_end s k) ≡ b → leb (child_end s k) c || leb (length_of s c) at ≡ leb (cond b (length_of s c) 0) at
      cases c true e = rw (lt-leb (child_end s k) c (ltb-true _ _ e))
      cases c false e = rw (le-leb (child_end s k) c (ltb-false _ _ e), le-leb 0 at (omega arith))

module _ {s : List ℕ} {k : ℕ} {table : List (Option ℕ)} {ids from : ℕ} (u : Union s k table ids from) (i : ℕ) {id : ℕ} (read : Read (number_at 1 s (ids + (from + i) * 1)) (8 * 1) id) where
  entry : (o : Option ℕ) → get_or table id None ≡ o → NamedChild s k id o
  entry o e = rw e at (u.by_id.entry id read.small)

  -- row i names no child
  pub unnamed : get_or table id None ≡ None → id_unknown s k (offset_of s k + (0 + i)) ≡ true
  unfolding id_unknown
  unnamed e =
      let none : child_with_id s k id ≡ child_end s k = entry None e in
      rw (← id_at s k u.place u.start i read) (le-leb _ _ (omega (arith, none)))

  -- row i names child c
  module _ {c : ℕ} (e : get_or table id None ≡ Some c) where
    pub named : c ≡ child_with_id s k (type_id_at s k (offset_of s k + (0 + i)))
    named =
        let some : NamedBy s k id c = entry (Some c) e in
        some.found.value ∙ rw (id_at s k u.place u.start i read)

    pub known : id_unknown s k (offset_of s k + (0 + i)) ≡ false
    unfolding id_unknown
    known =
        let some : NamedBy s k id c = entry (Some c) e in
        rw (← named) (lt-leb _ _ some.within)

  -- row i names no child exactly where the table has none
  pub unknown_is : (o : Option ℕ) → get_or table id None ≡ o → id_unknown s k (offset_of s k + (0 + i)) ≡ not (is_some o)
  unknown_is None e = unnamed e
  unknown_is (Some c) e = known e
