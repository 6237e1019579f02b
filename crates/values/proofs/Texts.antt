-- Texts without nulls are equal as one block of bytes.
-- By the law of blocks, with the offsets as they are stored.
use mathlib.Core.Path.{◌≡◌, sym, ap, ◌∙◌}
use mathlib.Core.Bool.{true, false}
use mathlib.Core.List.{List}
use Prim.Native.Nat.{ℕ, suc, ◌+◌, ◌-◌, ◌<◌, ◌≤◌}
use native.Mathlib.Omega.{arith}
use borrow.Author.Tests.{eqb-true, eqb-false}
use Rattle.image.specs.declared.type_code.Layout.TheVariants.{VariableSize}
use Rattle.image.specs.Bytes.{bytes_at}
use Rattle.image.specs.Record.{code_of, buffer_place}
use Rattle.image.specs.TypeCode.{layout_of}
use Rattle.image.specs.Element.{element_at}
use Rattle.image.specs.Types.{same_bytes}
use Rattle.image.specs.Row.{variable_row}
use Rattle.image.specs.Equality.{row_equal}
use Rattle.laws.proofs.Alike.{same_width}
use Rattle.laws.proofs.Codes.{text_offset_width}
use Rattle.values.specs.Pairs.{all, same_row, range_equal, same_byte, same_span, span_at}
use Rattle.accepted.specs.Parts.{Part}
use Rattle.values.specs.Parts.{Parts, Spans}
use Rattle.values.proofs.Steps.{by_rows, by_bytes}
use Rattle.values.proofs.Blocks.{blocks, all_at, all_weaker, rise_far, equal_spans}
use Rattle.image.proofs.NameBytes.{other_length}
use Rattle.accepted.proofs.Texts.{text_rises, text_offsets}
use Rattle.accepted.proofs.Nodes.{part_small}

-- offsets rise over the whole part
pub text_up : (s : List ℕ) (k i n : ℕ) → Part s k i n → layout_of (code_of s k) ≡ VariableSize → element_at s k i ≤ element_at s k (i + n)
text_up s k i n r text = rise_far (element_at s k) i n (λ h lo hi. (text_rises s k i n r text).rise h (omega (arith, r.high)))

-- what the comparison of lengths asks for
pub text_spans : {a b : List ℕ} {k l i j n d : ℕ} → Parts a b k l i j n d → layout_of (code_of a k) ≡ VariableSize → Spans a b k l i j n
text_spans r left =
    let right = sym (ap layout_of r.alike.0.code) ∙ left in
    record {
      whole = text_offset_width _ _ left;
      same = same_width _ _ _ _ r.alike.0.code r.alike.0.p1;
      left = λ h lo hi. (text_rises _ _ _ _ r.left left).rise h (omega (arith, r.left.high));
      right = λ h lo hi. (text_rises _ _ _ _ r.right right).rise h (omega (arith, r.right.high));
      left_small = omega (arith, part_small r.left);
      right_small = omega (arith, part_small r.right);
      left_inside = text_offsets _ _ _ _ r.left left;
      right_inside = text_offsets _ _ _ _ r.right right;
    }

module _ (a b : List ℕ) (k l : ℕ) where
  other_text : (i j : ℕ) → same_span a k b l i j ≡ false → same_row (variable_row a k) (variable_row b l) i j ≡ false
  unfolding same_span span_at same_row variable_row row_equal
  other_text i j e = other_length a b _ _ _ _ (eqb-false _ _ e)

  pub texts_differ : (i j n : ℕ) → all (same_span a k b l) i j n ≡ false → false ≡ range_equal (variable_row a k) (variable_row b l) i j n
  texts_differ i j n e = sym (all_weaker (same_span a k b l) _ i j n (λ h lt. other_text (i + h) (j + h)) e) ∙ by_rows _ _ i j n

  text_row : (i j : ℕ) → span_at a k i ≡ span_at b l j
      → same_row (variable_row a k) (variable_row b l) i j ≡ all (same_byte a b) (buffer_place a k 1 + element_at a k i) (buffer_place b l 1 + element_at b l j) (element_at a k (suc i) - element_at a k i)
  unfolding span_at same_row variable_row row_equal
  text_row i j e = rw (← e) (sym (by_bytes a b _ _ (element_at a k (suc i) - element_at a k i)))

  pub texts_block : (i j n d : ℕ) → Parts a b k l i j n d → layout_of (code_of a k) ≡ VariableSize → all (same_span a k b l) i j n ≡ true
      → same_bytes (bytes_at a (buffer_place a k 1 + element_at a k i) (element_at a k (i + n) - element_at a k i)) (bytes_at b (buffer_place b l 1 + element_at b l j) (element_at a k (i + n) - element_at a k i))
      ≡ range_equal (variable_row a k) (variable_row b l) i j n
  unfolding same_span span_at
  texts_block i j n d r text same =
      let ra = text_rises a k i n r.left text in
      let rb = text_rises b l j n r.right (sym (ap layout_of r.alike.0.code) ∙ text) in
      let spans : (h : ℕ) → h < n → element_at a k (suc (i + h)) - element_at a k (i + h) ≡ element_at b l (suc (j + h)) - element_at b l (j + h) =
      λ h lt. eqb-true _ _ (all_at (same_span a k b l) i j n same h lt) in
      sym (by_bytes a b _ _ (element_at a k (i + n) - element_at a k i))
      ∙ sym (blocks (same_byte a b) (same_row (variable_row a k) (variable_row b l)) (element_at a k) (element_at b l) (buffer_place a k 1) (buffer_place b l 1) i j n
      (λ h lo hi. ra.rise h (omega (arith, r.left.high))) (λ h lo hi. rb.rise h (omega (arith, r.right.high))) spans
      (λ h lt. text_row (i + h) (j + h) (spans h lt)))
      ∙ by_rows _ _ i j n

-- the text that is compared ends on the right where its last offset says
pub right_end : (a b : List ℕ) (k l i j n : ℕ) → Spans a b k l i j n → all (same_span a k b l) i j n ≡ true → element_at b l j + (element_at a k (i + n) - element_at a k i) ≡ element_at b l (j + n)
unfolding same_span span_at
right_end a b k l i j n r same = equal_spans (element_at a k) (element_at b l) i j n r.left r.right (λ h lt. eqb-true _ _ (all_at (same_span a k b l) i j n same h lt))
