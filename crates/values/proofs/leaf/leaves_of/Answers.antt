-- `leaves_of` reads what is compared of two nodes.
-- The layout is told by the arm; the image is accepted, so elements are not too wide.
use mathlib.Core.Path.{sym, ap, ◌∙◌}
use Rattle.accepted.proofs.Nodes.{layout_is}
use Rattle.values.proofs.LeafRows.{side_width, first_at}
use Rattle.values.proofs.leaf.leaves_of.Goals as goal

pub columns_of-requires : goal.columns_of-requires
columns_of-requires c = record { small = side_width c.requires.0; same = sym c.element_width-width.ensures ∙ sym c.if-element_width-width.false ∙ c.element_width.ensures }

pub row_numbers-requires : goal.row_numbers-requires
row_numbers-requires c = rw c.element_width-width.ensures (side_width c.requires.0)

pub row_numbers-requires-in-VariableSize : goal.row_numbers-requires-in-VariableSize
row_numbers-requires-in-VariableSize c = rw c.element_width-width.ensures (side_width c.requires.0)

pub returns-in-FixedWidth : goal.returns-in-FixedWidth
returns-in-FixedWidth c =
    let columns = c.columns_of.ensures in
    let same = sym c.element_width-width.ensures ∙ sym c.if-element_width-width.false ∙ c.element_width.ensures in
    record {
      layout = (layout_is c.layout-layout.ensures (sym c.in-FixedWidth.is));
      left = record { whole = sym c.has_bitmap.ensures ∙ c.if-has_bitmap.false; width = columns.width; place = columns.left };
      right = record { whole = sym c.has_bitmap-2.ensures ∙ c.if-has_bitmap-2.false; width = columns.width ∙ same; place = columns.right };
    }

pub returns-in-VariableSize : goal.returns-in-VariableSize
returns-in-VariableSize c =
    let right = sym c.if-element_width-width.false ∙ c.element_width.ensures in
    record {
      left_bytes = ap (λ b. b.now) c.row_numbers.ensures.bytes;
      right_bytes = ap (λ b. b.now) c.row_numbers-in-VariableSize.ensures.bytes;
      offsets = record {
        layout = (layout_is c.layout-layout.ensures (sym c.in-VariableSize.is));
        left = record { whole = sym c.has_bitmap.ensures ∙ c.if-has_bitmap.false; width = c.row_numbers.ensures.width ∙ c.element_width-width.ensures; place = first_at _ _ c.element_width-width.ensures c.row_numbers.ensures.place };
        right = record { whole = sym c.has_bitmap-2.ensures ∙ c.if-has_bitmap-2.false; width = c.row_numbers-in-VariableSize.ensures.width ∙ right; place = first_at _ _ right c.row_numbers-in-VariableSize.ensures.place };
      };
      left = c.buffer_place.ensures.value;
      right = c.buffer_place-in-VariableSize.ensures.value;
    }
