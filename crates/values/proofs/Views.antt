-- Two views compared, and rows of views.
-- Row i of a node reads element offset + i, of 16 bytes; acceptance gives where its bytes stand.
use mathlib.Core.Path.{◌≡◌, refl, sym, ap, ◌∙◌}
use mathlib.Core.Bool.{Bool, true, false}
use mathlib.Core.List.{List}
use Prim.Native.Nat.{ℕ, ◌+◌, ◌<◌, ◌≤◌}
use native.Mathlib.Omega.{arith}
use Rattle.image.specs.declared.type_code.Layout.TheVariants.{View}
use Rattle.image.specs.Bytes.{bytes_at}
use Rattle.image.specs.Record.{code_of, offset_of}
use Rattle.image.specs.TypeCode.{layout_of}
use Rattle.image.specs.Element.{valid, element_place, view_length, view_data}
use Rattle.image.specs.Reads.{Read}
use Rattle.image.specs.Types.{same_bytes}
use Rattle.image.specs.Row.{view_row}
use Rattle.image.specs.Equality.{row_equal}
use Rattle.values.specs.Pairs.{same_row, same_byte, masked_row}
use Rattle.accepted.specs.Parts.{Viewed, ViewRow, view_place}
use Rattle.values.specs.Parts.{Masked}
use Rattle.accepted.proofs.Views.{shown_short, view_row_lem, view_place_lem}
use Rattle.values.proofs.Steps.{front_passes, by_bytes, row_test}
use Rattle.image.proofs.NameBytes.{other_length}
use Rattle.accepted.proofs.Nodes.{side_part}
use Rattle.values.proofs.MaskedRows.{masked_row_lem, mask_at, full_row}

-- the views at two places are equal: length and bytes
abbrev pub same_views : List ℕ → ℕ → ℕ → List ℕ → ℕ → ℕ → Bool
same_views a k v b l w = same_bytes (bytes_at a (view_data a k v) (view_length a v)) (bytes_at b (view_data b l w) (view_length b w))

-- Two views whose lengths were read.
module _ (a b : List ℕ) (k l v w : ℕ) {m o : ℕ} (em : Read (view_length a v) 32 m) (eo : Read (view_length b w) 32 o) where
  pub lengths_differ : (m ≡ o → ⊥) → false ≡ same_views a k v b l w
  lengths_differ h = sym (other_length a b _ _ (view_length a v) (view_length b w) (λ e. h (em.value ∙ e ∙ sym eo.value)))

  -- short ones, where more bytes than they have are the same
  pub short_same : {e f : ℕ} → Viewed a k e v → Viewed b l f w → m ≡ o → m ≤ 12 → same_bytes (bytes_at a (v + 4) 12) (bytes_at b (w + 4) 12) ≡ true → true ≡ same_views a k v b l w
  short_same left right e le t =
      let size : view_length a v ≡ view_length b w = sym em.value ∙ e ∙ eo.value in
      rw (← (shown_short left (omega (arith, em.value))).place, ← (shown_short right (omega (arith, size, em.value))).place, ← size)
      (sym (front_passes (same_byte a b) (v + 4) (w + 4) (view_length a v) 12 (omega (arith, em.value)) (by_bytes a b _ _ 12 ∙ t)) ∙ by_bytes a b _ _ (view_length a v))

-- the views of elements i and j of two nodes, neither of them null, stand at v and w
pub record TwoViews (a b : List ℕ) (k l i j : ℕ) : Type 0 where
  pub left : ViewRow a k i
  pub right : ViewRow b l j
  pub left_element : view_place a k i ≡ element_place a k (offset_of a k + i)
  pub right_element : view_place b l j ≡ element_place b l (offset_of b l + j)

-- the answer for them is that for the elements
views_are : {a b : List ℕ} {k l i j : ℕ} → TwoViews a b k l i j → {x : Bool} → x ≡ same_views a k (view_place a k i) b l (view_place b l j) → x ≡ row_equal (view_row a k (offset_of a k + i)) (view_row b l (offset_of b l + j))
unfolding view_row row_equal
views_are r ex = rw (← r.left_element, ← r.right_element) ex

-- rows under null masks that agree, where one is not null
module _ {a b : List ℕ} {k l i j n : ℕ} (r : Masked View a b k l i j n) {h : ℕ} (lt : h < n) (is : valid a k (i + h) ≡ true) where
  pub row_views : TwoViews a b k l (i + h) (j + h)
  row_views =
      let row : Masked View a b k l (i + h) (j + h) 1 = masked_row_lem r lt in
      let left = side_part row.left is in
      let right = side_part row.right (sym (mask_at r h lt) ∙ is) in
      let too : layout_of (code_of b l) ≡ View = sym (ap layout_of row.code) ∙ row.layout in
      record { left = view_row_lem left row.layout; right = view_row_lem right too; left_element = view_place_lem left row.layout refl; right_element = view_place_lem right too refl }

  pub row_are : {x : Bool} → x ≡ same_views a k (view_place a k (i + h)) b l (view_place b l (j + h)) → same_row (masked_row view_row a k) (masked_row view_row b l) (i + h) (j + h) ≡ x
  row_are ex = row_test _ _ (i + h) (j + h) (views_are row_views ex ∙ full_row (masked_row_lem r lt) view_row is)
