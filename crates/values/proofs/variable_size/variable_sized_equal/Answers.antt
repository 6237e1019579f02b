-- `values::variable_size::variable_sized_equal` meets its contract.
-- The definition is rewritten by what the calls ensure and by the tests on the way.
use Rattle.values.proofs.Slices.{parts_same}
use Rattle.values.proofs.Texts.{text_spans, text_up, texts_differ, texts_block, right_end}
use Rattle.accepted.proofs.Texts.{text_inside}
use Rattle.image.specs.TypeCode.{layout_of}
use mathlib.Core.Path.{sym, ap, ◌∙◌}
use Prim.Native.Nat.{◌+◌, ◌-◌, ◌≤◌}
use lib.ListN.{length}
use native.Mathlib.Omega.{arith}
use Rattle.values.proofs.variable_size.variable_sized_equal.Goals as goal

pub lengths_equal-requires : goal.lengths_equal-requires
lengths_equal-requires c = text_spans c.requires.parts c.requires.layout

pub returns-then-not-lengths_equal : goal.returns-then-not-lengths_equal
returns-then-not-lengths_equal c = texts_differ _ _ _ _ _ _ _ (sym c.lengths_equal.ensures ∙ c.if-not-lengths_equal.true)

pub overflow_sub-len : goal.overflow_sub-len
overflow_sub-len c = omega (arith, c.offset_at-from.ensures, c.offset_at.ensures, text_up _ _ _ _ c.requires.parts.left c.requires.layout)

pub overflow_add-x : goal.overflow_add-x
overflow_add-x c = omega (arith, c.buffer_place.ensures.value, c.offset_at-from.ensures, c.offset_at.ensures, text_inside _ _ _ _ c.requires.parts.left c.requires.layout, text_up _ _ _ _ c.requires.parts.left c.requires.layout, c.requires.parts.left.image.tables.size)

pub overflow_add-y : goal.overflow_add-y
overflow_add-y c = omega (arith, c.buffer_place.ensures.value, c.buffer_place-2.ensures.value, c.offset_at-from.ensures, c.offset_at.ensures, c.offset_at-2.ensures, text_inside _ _ _ _ c.requires.parts.left c.requires.layout, text_up _ _ _ _ c.requires.parts.left c.requires.layout, c.requires.parts.left.image.tables.size, text_inside _ _ _ _ c.requires.parts.right (sym (ap layout_of c.requires.parts.alike.0.code) ∙ c.requires.layout), right_end _ _ _ _ _ _ _ (text_spans c.requires.parts c.requires.layout) (sym c.lengths_equal.ensures ∙ c.if-not-lengths_equal.false), c.requires.parts.right.image.tables.size)

pub overflow_add-x-2 : goal.overflow_add-x-2
overflow_add-x-2 c = omega (arith, c.buffer_place.ensures.value, c.buffer_place-2.ensures.value, c.offset_at-from.ensures, c.offset_at.ensures, c.offset_at-2.ensures, text_inside _ _ _ _ c.requires.parts.left c.requires.layout, text_up _ _ _ _ c.requires.parts.left c.requires.layout, c.requires.parts.left.image.tables.size, text_inside _ _ _ _ c.requires.parts.right (sym (ap layout_of c.requires.parts.alike.0.code) ∙ c.requires.layout), right_end _ _ _ _ _ _ _ (text_spans c.requires.parts c.requires.layout) (sym c.lengths_equal.ensures ∙ c.if-not-lengths_equal.false), c.requires.parts.right.image.tables.size)

pub overflow_add-y-2 : goal.overflow_add-y-2
overflow_add-y-2 c = omega (arith, c.buffer_place.ensures.value, c.buffer_place-2.ensures.value, c.offset_at-from.ensures, c.offset_at.ensures, c.offset_at-2.ensures, text_inside _ _ _ _ c.requires.parts.left c.requires.layout, text_up _ _ _ _ c.requires.parts.left c.requires.layout, c.requires.parts.left.image.tables.size, text_inside _ _ _ _ c.requires.parts.right (sym (ap layout_of c.requires.parts.alike.0.code) ∙ c.requires.layout), right_end _ _ _ _ _ _ _ (text_spans c.requires.parts c.requires.layout) (sym c.lengths_equal.ensures ∙ c.if-not-lengths_equal.false), c.requires.parts.right.image.tables.size)

pub slice_bounds-eq-end : goal.slice_bounds-eq-end
slice_bounds-eq-end c = omega (arith, c.buffer_place.ensures.value, c.buffer_place-2.ensures.value, c.offset_at-from.ensures, c.offset_at.ensures, c.offset_at-2.ensures, text_inside _ _ _ _ c.requires.parts.left c.requires.layout, text_up _ _ _ _ c.requires.parts.left c.requires.layout, c.requires.parts.left.image.tables.size, text_inside _ _ _ _ c.requires.parts.right (sym (ap layout_of c.requires.parts.alike.0.code) ∙ c.requires.layout), right_end _ _ _ _ _ _ _ (text_spans c.requires.parts c.requires.layout) (sym c.lengths_equal.ensures ∙ c.if-not-lengths_equal.false), c.requires.parts.right.image.tables.size)

pub slice_bounds-eq-end-2 : goal.slice_bounds-eq-end-2
slice_bounds-eq-end-2 c = omega (arith, c.buffer_place.ensures.value, c.buffer_place-2.ensures.value, c.offset_at-from.ensures, c.offset_at.ensures, c.offset_at-2.ensures, text_inside _ _ _ _ c.requires.parts.left c.requires.layout, text_up _ _ _ _ c.requires.parts.left c.requires.layout, c.requires.parts.left.image.tables.size, text_inside _ _ _ _ c.requires.parts.right (sym (ap layout_of c.requires.parts.alike.0.code) ∙ c.requires.layout), right_end _ _ _ _ _ _ _ (text_spans c.requires.parts c.requires.layout) (sym c.lengths_equal.ensures ∙ c.if-not-lengths_equal.false), c.requires.parts.right.image.tables.size)

pub returns : goal.returns
returns c =
    let inside_left : c.buffer_place.result + c.offset_at-from.result + (c.offset_at.result - c.offset_at-from.result) ≤ length c.args.pair.now.left.image.now = omega (arith, c.buffer_place.ensures.value, c.buffer_place-2.ensures.value, c.offset_at-from.ensures, c.offset_at.ensures, c.offset_at-2.ensures, text_inside _ _ _ _ c.requires.parts.left c.requires.layout, text_up _ _ _ _ c.requires.parts.left c.requires.layout, c.requires.parts.left.image.tables.size, text_inside _ _ _ _ c.requires.parts.right (sym (ap layout_of c.requires.parts.alike.0.code) ∙ c.requires.layout), right_end _ _ _ _ _ _ _ (text_spans c.requires.parts c.requires.layout) (sym c.lengths_equal.ensures ∙ c.if-not-lengths_equal.false), c.requires.parts.right.image.tables.size) in
    let inside_right : c.buffer_place-2.result + c.offset_at-2.result + (c.offset_at.result - c.offset_at-from.result) ≤ length c.args.pair.now.right.image.now = omega (arith, c.buffer_place.ensures.value, c.buffer_place-2.ensures.value, c.offset_at-from.ensures, c.offset_at.ensures, c.offset_at-2.ensures, text_inside _ _ _ _ c.requires.parts.left c.requires.layout, text_up _ _ _ _ c.requires.parts.left c.requires.layout, c.requires.parts.left.image.tables.size, text_inside _ _ _ _ c.requires.parts.right (sym (ap layout_of c.requires.parts.alike.0.code) ∙ c.requires.layout), right_end _ _ _ _ _ _ _ (text_spans c.requires.parts c.requires.layout) (sym c.lengths_equal.ensures ∙ c.if-not-lengths_equal.false), c.requires.parts.right.image.tables.size) in
    let same = c.eq.ensures ∙ parts_same _ _ _ _ _ _ inside_left inside_right in
    same ∙ rw (c.buffer_place.ensures.value, c.buffer_place-2.ensures.value, c.offset_at-from.ensures, c.offset_at.ensures, c.offset_at-2.ensures) (texts_block _ _ _ _ _ _ _ _ c.requires.parts c.requires.layout (sym c.lengths_equal.ensures ∙ c.if-not-lengths_equal.false))
