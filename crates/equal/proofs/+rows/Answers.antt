-- `dictionary::equal` compares the values rows that the keys name.
-- The loop keeps that the rows are equal exactly where those from row k on are; the laws of Dictionaries say what a turn tests.
-- `long_equal` compares the values rows that the keys name, a pair of keys that it keeps only once.
-- The loop keeps that the rows are equal exactly where those from a row on are, and that pairs of keys in the table name equal rows.
-- `equal_range` compares rows by their null masks, and then by their values.
-- By the laws of ranges with nulls, for a depth that is not 0.
-- `equal_row` compares one pair of rows: by what was read of the nodes where that says enough, else as a range of one.
-- A depth that is not 0 is one level deeper than the values.
-- `equal_valid` compares rows some of which are null, where the masks agree.
-- The loop keeps that the rows are equal exactly where those from row k on are; a turn passes over a null row, or over a run of rows that are not null.
-- `equal_values` compares elements by the rule of their layout.
-- Each arm is at one layout, at which the values are those of the rule; the layouts are numbered by their places in the declaration.
-- `fixed_list::equal` compares fixed-size lists as one range of child rows.
-- By the laws of fixed-size lists; the products stay within the child.
-- `list::equal` compares lists by their lengths, and then as one range of child rows.
-- By the laws of lists.
-- `list_view::equal` compares list views by their sizes and child rows.
-- The loop keeps that the rows are equal exactly where those from row k on are; the laws of list views say what a turn tests.
-- `run::equal` compares runs that end together as one range of values, others stepping over the shorter of two that overlap.
-- The loop keeps the runs i and j of the next elements, and that the rows are equal exactly where those from row k on are.
-- `structure::equal` compares Structs child by child.
-- The loop keeps that the Structs are equal exactly where their children from child k on are.
-- `block` compares the type ids, and the rows of the children that they name.
-- Where the ids and all rows of all children are the same, so are the rows; else the loop keeps that the rows are equal
-- exactly where those from row k on are; the laws of unions say what a turn tests.
-- `dense` compares the type ids, and the rows that they and the offsets name.
-- The loop keeps that the rows are equal exactly where those from row k on are; the laws of unions say what a turn tests.
-- `sparse` compares sparse unions block by block.
-- The loop keeps that the rows are equal exactly where those from row k on are.
use Prim.Native.Nat.{◌+◌, ◌-◌, ◌*◌, ◌/◌}
use native.Mathlib.Nat.{add-zero}
use Rattle.values.proofs.Slices.{parts_same}
use mathlib.Core.Path.{◌≡◌, sym, ◌∙◌, refl}
use native.Mathlib.Omega.{arith}
use borrow.Author.Tests.{not-false}
use borrow.Author.Rules.{rules}
use Rattle.image.specs.Row.{fixed_row, view_row}
use Rattle.accepted.proofs.Nodes.{part_small, layout_is}
use Rattle.equal.proofs.Buffers.{element_from, size_from, dense_from}
use Rattle.equal.proofs.Child.{widths_same, layout_right}
use Rattle.equal.proofs.Rows.{rows_none, rows_more, rows_fail, rows_done, one_row, rows_jump, rows_jump_fail, rows_rest}
use Rattle.equal.proofs.Dictionaries.{left_key, right_key, key_nodes, key_requires, key_answer, key_small, key_same, small_keys, kept_none, kept_equal, kept_more}
use Rattle.equal.proofs.Nulls.{range_once, sides_left, sides_right, range_none, range_sides, range_rows, range_masks, range_requires, range_answer, null_more, valid_requires, valid_more, valid_fail, masked_answer}
use mathlib.Core.List.{[], ◌∷◌}
use Rattle.image.specs.declared.type_code.Layout.TheVariants.{FixedWidth, View, Null, Boolean, VariableSize, List as Lists, ListView, FixedList, Struct, DenseUnion, SparseUnion, Dictionary, Runs}
use Rattle.image.proofs.CodeTable.{at_layouts}
use Rattle.equal.proofs.Values.{by_layout, null_values}
use Rattle.equal.proofs.FixedLists.{fixed_list_requires, fixed_list_answer}
use Rattle.equal.proofs.Lists.{spans_differ, list_spans, list_order, list_requires, list_answer}
use Rattle.equal.proofs.ListViews.{view_differs, view_requires, view_answer}
use Rattle.equal.proofs.Runs.{run_nodes, run_small, run_above, step_requires, step_fail, step_some, step_again, together_requires, together_answer}
use Rattle.accepted.proofs.RunEnds.{end_nth, end_is}
use Rattle.equal.proofs.Structs.{struct_requires, columns_more_left, columns_fail, columns_done}
use Rattle.equal.proofs.Unions.{id_at, sparse_fails, sparse_child, sparse_row_lem, sparse_inside, whole_children, dense_fails, dense_child, dense_row_lem, counted}
use Rattle.equal.proofs.+rows.Goals as goal
use Rattle.equal.proofs.+rows.Goals.{dictionary::long_equal-then-ne+else-not-equal_row, dictionary::long_equal-else-ne}

pub equal_range-returns-then-depth-eq0 : goal.equal_range-returns-then-depth-eq0
equal_range-returns-then-depth-eq0 t c = range_none _ _ _ _ _ _ _ _ c.if-depth-eq0.true

pub equal_range-equal_nulls-requires : goal.equal_range-equal_nulls-requires
equal_range-equal_nulls-requires t c = record { left = omega (arith, sides_left c.requires); right = omega (arith, sides_right c.requires) }

pub equal_range-returns-then-not-equal_nulls : goal.equal_range-returns-then-not-equal_nulls
equal_range-returns-then-not-equal_nulls t c = range_masks c.requires c.if-depth-eq0.false (sym c.equal_nulls.ensures ∙ c.if-not-equal_nulls.true)

pub equal_range-contains_nulls-requires : goal.equal_range-contains_nulls-requires
equal_range-contains_nulls-requires t c = omega (arith, sides_left c.requires)

pub equal_range-equal_valid-requires : goal.equal_range-equal_valid-requires
equal_range-equal_valid-requires t c = (omega arith, (range_sides c.requires c.if-depth-eq0.false, (sym c.equal_nulls.ensures ∙ c.if-not-equal_nulls.false)))

pub equal_range-returns-then-contains_nulls : goal.equal_range-returns-then-contains_nulls
equal_range-returns-then-contains_nulls t c = c.equal_valid.ensures ∙ range_rows c.requires c.if-depth-eq0.false

pub equal_range-elements-requires : goal.equal_range-elements-requires
equal_range-elements-requires t c = (omega (arith, sides_left c.requires), omega (arith, sides_right c.requires))

pub equal_range-equal_values-requires : goal.equal_range-equal_values-requires
equal_range-equal_values-requires t c = (omega arith, rw c.elements.ensures (range_requires c.requires c.if-depth-eq0.false (sym c.equal_nulls.ensures ∙ c.if-not-equal_nulls.false) (not-false _ (sym c.contains_nulls.ensures ∙ c.if-contains_nulls.false))))

pub equal_range-returns : goal.equal_range-returns
equal_range-returns t c = (rw c.elements.ensures at c.equal_values.ensures) ∙ range_answer c.requires c.if-depth-eq0.false (sym c.equal_nulls.ensures ∙ c.if-not-equal_nulls.false) (not-false _ (sym c.contains_nulls.ensures ∙ c.if-contains_nulls.false))

pub equal_valid-returns-in-FixedWidth : goal.equal_valid-returns-in-FixedWidth
equal_valid-returns-in-FixedWidth t c = c.masked_equal.ensures ∙ masked_answer c.requires.sides (layout_is c.layout-layout.ensures (at_layouts (2 ∷ []) FixedWidth (λ l. l) refl c.layout-layout.result c.in-FixedWidth.in-FixedWidth-own.keys1)) fixed_row (λ A s k j. refl)

pub equal_valid-returns-in-View : goal.equal_valid-returns-in-View
equal_valid-returns-in-View t c = c.masked_views_equal.ensures ∙ masked_answer c.requires.sides (layout_is c.layout-layout.ensures (at_layouts (4 ∷ []) View (λ l. l) refl c.layout-layout.result c.in-View.in-View-own.keys1)) view_row (λ A s k j. refl)

pub equal_valid-overflow_add-rows : goal.equal_valid-overflow_add-rows
equal_valid-overflow_add-rows t c = omega (arith, sides_left c.requires.sides, sides_right c.requires.sides, c.loop-k-test.true)

pub equal_valid-valid_rows-run-requires : goal.equal_valid-valid_rows-run-requires
equal_valid-valid_rows-run-requires t c = omega (arith, sides_left c.requires.sides, sides_right c.requires.sides, c.loop-k-test.true)

pub equal_valid-loop-k-preserved-then-run-eq0 : goal.equal_valid-loop-k-preserved-then-run-eq0
equal_valid-loop-k-preserved-then-run-eq0 t c = null_more c.requires.sides c.requires.masks c.loop-k.invariant c.valid_rows-run.ensures c.loop-k-test.true c.if-run-eq0.true

pub equal_valid-elements-elements-requires : goal.equal_valid-elements-elements-requires
equal_valid-elements-elements-requires t c = (omega (arith, sides_left c.requires.sides), omega (arith, sides_right c.requires.sides))

pub equal_valid-part-requires : goal.equal_valid-part-requires
equal_valid-part-requires t c = rw c.elements-elements.ensures (omega (arith, sides_left c.requires.sides, sides_right c.requires.sides, c.loop-k-test.true))

pub equal_valid-equal_values-requires : goal.equal_valid-equal_values-requires
equal_valid-equal_values-requires t c = (search rules, rw (c.part.ensures, c.elements-elements.ensures) (valid_requires c.requires.sides c.requires.masks c.loop-k.invariant c.valid_rows-run.ensures))

pub equal_valid-returns-then-not-equal_values : goal.equal_valid-returns-then-not-equal_values
equal_valid-returns-then-not-equal_values t c =
    let same = rw (c.part.ensures, c.elements-elements.ensures) at c.equal_values.ensures in
    valid_fail c.requires.sides c.requires.masks c.loop-k.invariant c.valid_rows-run.ensures (sym same ∙ c.if-not-equal_values.true)

pub equal_valid-loop-k-preserved : goal.equal_valid-loop-k-preserved
equal_valid-loop-k-preserved t c =
    let same = rw (c.part.ensures, c.elements-elements.ensures) at c.equal_values.ensures in
    valid_more c.requires.sides c.requires.masks c.loop-k.invariant c.valid_rows-run.ensures (sym same ∙ c.if-not-equal_values.false)

pub equal_valid-returns : goal.equal_valid-returns
equal_valid-returns t c = rows_done c.loop-k.invariant c.loop-k-test.false

pub equal_values-returns-in-Null : goal.equal_values-returns-in-Null
equal_values-returns-in-Null t c = c.null_equal.ensures ∙ null_values c.requires (layout_is c.layout-layout.ensures (at_layouts (0 ∷ []) Null (λ l. l) refl c.layout-layout.result c.in-Null.in-Null-own.keys1))

pub equal_values-returns-in-Boolean : goal.equal_values-returns-in-Boolean
equal_values-returns-in-Boolean t c = c.boolean_equal.ensures ∙ by_layout c.requires Boolean (layout_is c.layout-layout.ensures (at_layouts (1 ∷ []) Boolean (λ l. l) refl c.layout-layout.result c.in-Boolean.in-Boolean-own.keys2))

pub equal_values-returns-in-FixedWidth : goal.equal_values-returns-in-FixedWidth
equal_values-returns-in-FixedWidth t c = c.primitive_equal.ensures ∙ by_layout c.requires FixedWidth (layout_is c.layout-layout.ensures (at_layouts (2 ∷ []) FixedWidth (λ l. l) refl c.layout-layout.result c.in-FixedWidth.in-FixedWidth-own.keys3))

pub equal_values-returns-in-VariableSize : goal.equal_values-returns-in-VariableSize
equal_values-returns-in-VariableSize t c = c.variable_sized_equal.ensures ∙ by_layout c.requires VariableSize (layout_is c.layout-layout.ensures (at_layouts (3 ∷ []) VariableSize (λ l. l) refl c.layout-layout.result c.in-VariableSize.in-VariableSize-own.keys4))

pub equal_values-returns-in-View : goal.equal_values-returns-in-View
equal_values-returns-in-View t c = c.byte_view_equal.ensures ∙ by_layout c.requires View (layout_is c.layout-layout.ensures (at_layouts (4 ∷ []) View (λ l. l) refl c.layout-layout.result c.in-View.in-View-own.keys5))

pub equal_values-returns-in-List : goal.equal_values-returns-in-List
equal_values-returns-in-List t c = c.equal.ensures ∙ by_layout c.requires Lists (layout_is c.layout-layout.ensures (at_layouts (5 ∷ []) Lists (λ l. l) refl c.layout-layout.result c.in-List.in-List-own.keys6))

pub equal_values-returns-in-ListView : goal.equal_values-returns-in-ListView
equal_values-returns-in-ListView t c = c.equal-in-ListView.ensures ∙ by_layout c.requires ListView (layout_is c.layout-layout.ensures (at_layouts (6 ∷ []) ListView (λ l. l) refl c.layout-layout.result c.in-ListView.in-ListView-own.keys7))

pub equal_values-returns-in-FixedList : goal.equal_values-returns-in-FixedList
equal_values-returns-in-FixedList t c = c.equal-in-FixedList.ensures ∙ by_layout c.requires FixedList (layout_is c.layout-layout.ensures (at_layouts (7 ∷ []) FixedList (λ l. l) refl c.layout-layout.result c.in-FixedList.in-FixedList-own.keys8))

pub equal_values-returns-in-Struct : goal.equal_values-returns-in-Struct
equal_values-returns-in-Struct t c = c.equal-in-Struct.ensures ∙ by_layout c.requires Struct (layout_is c.layout-layout.ensures (at_layouts (8 ∷ []) Struct (λ l. l) refl c.layout-layout.result c.in-Struct.in-Struct-own.keys9))

pub equal_values-returns-in-DenseUnion : goal.equal_values-returns-in-DenseUnion
equal_values-returns-in-DenseUnion t c = c.dense.ensures ∙ by_layout c.requires DenseUnion (layout_is c.layout-layout.ensures (at_layouts (9 ∷ []) DenseUnion (λ l. l) refl c.layout-layout.result c.in-DenseUnion.in-DenseUnion-own.keys10))

pub equal_values-returns-in-SparseUnion : goal.equal_values-returns-in-SparseUnion
equal_values-returns-in-SparseUnion t c = c.sparse.ensures ∙ by_layout c.requires SparseUnion (layout_is c.layout-layout.ensures (at_layouts (10 ∷ []) SparseUnion (λ l. l) refl c.layout-layout.result c.in-SparseUnion.in-SparseUnion-own.keys11))

pub equal_values-returns-in-Dictionary : goal.equal_values-returns-in-Dictionary
equal_values-returns-in-Dictionary t c = c.equal-in-Dictionary.ensures ∙ by_layout c.requires Dictionary (layout_is c.layout-layout.ensures (at_layouts (11 ∷ []) Dictionary (λ l. l) refl c.layout-layout.result c.in-Dictionary.in-Dictionary-own.keys12))

pub equal_values-returns-in-Runs : goal.equal_values-returns-in-Runs
equal_values-returns-in-Runs t c = c.equal-in-Runs.ensures ∙ by_layout c.requires Runs (layout_is c.layout-layout.ensures (at_layouts (12 ∷ []) Runs (λ l. l) refl c.layout-layout.result c.in-Runs.in-Runs-own.keys13))

pub run::equal-returns-then-n-eq0 : goal.run::equal-returns-then-n-eq0
run::equal-returns-then-n-eq0 t c = rows_done (rows_none _ _ _ _ _) (omega (arith, c.if-n-eq0.true))

pub run::equal-overflow_sub-x : goal.run::equal-overflow_sub-x
run::equal-overflow_sub-x t c = omega (arith, run_above c.requires.parts.left c.requires.layout c.runs-test.true (c.runs.invariant.1.0.left c.runs-test.true) (end_is c.ends-left.ensures _ c.at-x.ensures))

pub run::equal-overflow_sub-y : goal.run::equal-overflow_sub-y
run::equal-overflow_sub-y t c = omega (arith, run_above c.requires.parts.right (layout_right c.requires.parts c.requires.layout) c.runs-test.true (c.runs.invariant.1.0.right c.runs-test.true) (end_is c.ends-right.ensures _ c.at-y.ensures))

pub run::equal-overflow_sub-last : goal.run::equal-overflow_sub-last
run::equal-overflow_sub-last t c = omega (arith, step_some c.requires.parts c.requires.layout c.runs.invariant.1.0 c.runs-test.true (end_is c.ends-left.ensures _ c.at-x.ensures) (end_is c.ends-right.ensures _ c.at-y.ensures) c.min.ensures c.min-step.ensures)

pub run::equal-next_run-i-requires : goal.run::equal-next_run-i-requires
run::equal-next_run-i-requires t c = (omega (arith, part_small c.requires.parts.left), omega (arith, run_small c.requires.parts.left c.requires.layout c.runs-test.true (c.runs.invariant.1.0.left c.runs-test.true)))

pub run::equal-next_run-j-requires : goal.run::equal-next_run-j-requires
run::equal-next_run-j-requires t c = (omega (arith, part_small c.requires.parts.right), omega (arith, run_small c.requires.parts.right (layout_right c.requires.parts c.requires.layout) c.runs-test.true (c.runs.invariant.1.0.right c.runs-test.true)))

pub run::equal-runs-smaller : goal.run::equal-runs-smaller
run::equal-runs-smaller t c = omega (arith, step_some c.requires.parts c.requires.layout c.runs.invariant.1.0 c.runs-test.true (end_is c.ends-left.ensures _ c.at-x.ensures) (end_is c.ends-right.ensures _ c.at-y.ensures) c.min.ensures c.min-step.ensures)

pub run::equal-runs-preserved : goal.run::equal-runs-preserved
run::equal-runs-preserved t c =
    let same = rw c.child-values.ensures.same at c.equal_row.ensures in
    (c.runs.invariant.0, step_again c.requires.parts c.requires.layout c.runs.invariant.1.0 c.runs-test.true (end_is c.ends-left.ensures _ c.at-x.ensures) (end_is c.ends-right.ensures _ c.at-y.ensures) c.min.ensures c.min-step.ensures refl refl c.runs.invariant.1.1 (sym same ∙ c.if-not-equal_row.false) c.next_run-i.ensures c.next_run-j.ensures)

pub run::equal-returns-after-runs : goal.run::equal-returns-after-runs
run::equal-returns-after-runs t c = c.runs.invariant.0 ∙ rows_done c.runs.invariant.1.1 c.runs-test.false

pub run::equal-returns-then-not-equal_row : goal.run::equal-returns-then-not-equal_row
run::equal-returns-then-not-equal_row t c =
    let same = rw c.child-values.ensures.same at c.equal_row.ensures in
    step_fail c.requires.parts c.requires.layout c.runs.invariant.1.0 c.runs-test.true refl refl c.runs.invariant.1.1 (sym same ∙ c.if-not-equal_row.true)

pub equal_row-leaf_equal-requires : goal.equal_row-leaf_equal-requires
equal_row-leaf_equal-requires t c = record { sides = range_once c.requires.sides (λ z. omega (arith, c.if-depth-gt0.true)); leaves = rw c.in-Some.is at c.requires.leaves }

pub equal_row-returns-in-Some : goal.equal_row-returns-in-Some
equal_row-returns-in-Some t c = c.leaf_equal.ensures (c.args.depth - 1) ∙ range_rows c.requires.sides (λ z. omega (arith, c.if-depth-gt0.true))

pub dictionary::equal-leaves_of-leaves-requires : goal.dictionary::equal-leaves_of-leaves-requires
dictionary::equal-leaves_of-leaves-requires t c = rw c.child-child.ensures.same (key_nodes c.requires.parts c.requires.layout (add-zero _) (add-zero _))

pub dictionary::equal-equal_row-requires : goal.dictionary::equal-equal_row-requires
dictionary::equal-equal_row-requires t c = (search rules, (rw c.child-child.ensures.same (key_requires c.requires.parts c.requires.layout c.loop-k.k c.loop-k-test.true (add-zero _) (add-zero _) (left_key c.new-keys.ensures c.at-x.ensures) (right_key c.new-keys.ensures (widths_same c.requires.parts) c.at-x.ensures)), c.leaves_of-leaves.ensures))

pub dictionary::equal-returns-then-not-equal_row : goal.dictionary::equal-returns-then-not-equal_row
dictionary::equal-returns-then-not-equal_row t c =
    let same = rw c.child-child.ensures.same at c.equal_row.ensures in
    rows_fail c.loop-k.invariant c.loop-k-test.true (sym (key_answer c.requires.parts c.requires.layout c.loop-k.k c.loop-k-test.true (add-zero _) (add-zero _) (left_key c.new-keys.ensures c.at-x.ensures) (right_key c.new-keys.ensures (widths_same c.requires.parts) c.at-x.ensures)) ∙ sym same ∙ c.if-not-equal_row.true)

pub dictionary::equal-loop-k-preserved : goal.dictionary::equal-loop-k-preserved
dictionary::equal-loop-k-preserved t c =
    let same = rw c.child-child.ensures.same at c.equal_row.ensures in
    rows_more c.loop-k.invariant c.loop-k-test.true (sym (key_answer c.requires.parts c.requires.layout c.loop-k.k c.loop-k-test.true (add-zero _) (add-zero _) (left_key c.new-keys.ensures c.at-x.ensures) (right_key c.new-keys.ensures (widths_same c.requires.parts) c.at-x.ensures)) ∙ sym same ∙ c.if-not-equal_row.false)

pub dictionary::equal-returns : goal.dictionary::equal-returns
dictionary::equal-returns t c = rows_done c.loop-k.invariant c.loop-k-test.false

pub dictionary::long_equal-leaves_of-leaves-requires : goal.dictionary::long_equal-leaves_of-leaves-requires
dictionary::long_equal-leaves_of-leaves-requires t c = rw c.child-child.ensures.same (key_nodes c.requires.parts c.requires.layout (add-zero _) (add-zero _))

pub dictionary::long_equal-loop-row-init : goal.dictionary::long_equal-loop-row-init
dictionary::long_equal-loop-row-init t c = (kept_none _ _, rows_none _ _ _ _ _)

pub dictionary::long_equal-equal_row-requires : goal.dictionary::long_equal-equal_row-requires
dictionary::long_equal-equal_row-requires t c = (search rules, (rw c.child-child.ensures.same (key_requires c.requires.parts c.requires.layout c.loop-row.row c.loop-row-test.true (add-zero _) (add-zero _) (left_key c.new-keys.ensures c.at-x.ensures) (right_key c.new-keys.ensures (widths_same c.requires.parts) c.at-x.ensures)), c.leaves_of-leaves.ensures))

pub dictionary::long_equal-returns-then-not-equal_row : goal.dictionary::long_equal-returns-then-not-equal_row
dictionary::long_equal-returns-then-not-equal_row t c =
    let same = rw c.child-child.ensures.same at c.equal_row.ensures in
    rows_fail c.loop-row.invariant.1 c.loop-row-test.true (sym (key_answer c.requires.parts c.requires.layout c.loop-row.row c.loop-row-test.true (add-zero _) (add-zero _) (left_key c.new-keys.ensures c.at-x.ensures) (right_key c.new-keys.ensures (widths_same c.requires.parts) c.at-x.ensures)) ∙ sym same ∙ c.if-not-equal_row.true)

pub dictionary::long_equal-overflow_cast-both : goal.dictionary::long_equal-overflow_cast-both
dictionary::long_equal-overflow_cast-both t c = omega (arith, key_small c.requires.parts c.requires.layout c.loop-row.row c.loop-row-test.true (add-zero _) (add-zero _) (left_key c.new-keys.ensures c.at-x.ensures) (right_key c.new-keys.ensures (widths_same c.requires.parts) c.at-x.ensures))

pub dictionary::long_equal-overflow_cast-both-in-loop-row : goal.dictionary::long_equal-overflow_cast-both-in-loop-row
dictionary::long_equal-overflow_cast-both-in-loop-row t c = omega (arith, key_small c.requires.parts c.requires.layout c.loop-row.row c.loop-row-test.true (add-zero _) (add-zero _) (left_key c.new-keys.ensures c.at-x.ensures) (right_key c.new-keys.ensures (widths_same c.requires.parts) c.at-x.ensures))

pub dictionary::long_equal-returns : goal.dictionary::long_equal-returns
dictionary::long_equal-returns t c = rows_done c.loop-row.invariant.1 c.loop-row-test.false

pub dictionary::long_equal-loop-row-preserved : goal.dictionary::long_equal-loop-row-preserved
dictionary::long_equal-loop-row-preserved t c =
    elim c.if-ne.branch [
      | dictionary::long_equal-then-ne+else-not-equal_row w ↦
          let same = rw c.child-child.ensures.same at w.equal_row.ensures in
          rw w.kept-is
          (kept_more c.loop-row.invariant.0 _ _ (sym (one_row _ _ _ _) ∙ sym same ∙ w.if-not-equal_row.false), rows_more c.loop-row.invariant.1 c.loop-row-test.true (sym (key_answer c.requires.parts c.requires.layout c.loop-row.row c.loop-row-test.true (add-zero _) (add-zero _) (left_key c.new-keys.ensures c.at-x.ensures) (right_key c.new-keys.ensures (widths_same c.requires.parts) c.at-x.ensures)) ∙ sym same ∙ w.if-not-equal_row.false))
      | dictionary::long_equal-else-ne w ↦
          rw w.kept-is
          (c.loop-row.invariant.0, rows_more c.loop-row.invariant.1 c.loop-row-test.true (sym (key_same c.requires.parts c.requires.layout c.loop-row.row c.loop-row-test.true (add-zero _) (add-zero _) (left_key c.new-keys.ensures c.at-x.ensures) (right_key c.new-keys.ensures (widths_same c.requires.parts) c.at-x.ensures)) ∙ kept_equal c.loop-row.invariant.0 _ _ (small_keys _ _ (key_small c.requires.parts c.requires.layout c.loop-row.row c.loop-row-test.true (add-zero _) (add-zero _) (left_key c.new-keys.ensures c.at-x.ensures) (right_key c.new-keys.ensures (widths_same c.requires.parts) c.at-x.ensures)).0) c.ne.ensures w.if-ne.false))
    ]

pub fixed_list::equal-equal_range-requires : goal.fixed_list::equal-equal_range-requires
fixed_list::equal-equal_range-requires t c = (search rules, rw c.child.ensures.same (fixed_list_requires c.requires.parts c.requires.layout c.p1-size.ensures (add-zero _) (add-zero _)))

pub fixed_list::equal-returns : goal.fixed_list::equal-returns
fixed_list::equal-returns t c =
    let same = rw c.child.ensures.same at c.equal_range.ensures in
    same ∙ fixed_list_answer c.requires.parts c.requires.layout c.p1-size.ensures (add-zero _) (add-zero _)

pub list::equal-lengths_equal-requires : goal.list::equal-lengths_equal-requires
list::equal-lengths_equal-requires t c = list_spans c.requires.parts c.requires.layout

pub list::equal-returns-then-not-lengths_equal : goal.list::equal-returns-then-not-lengths_equal
list::equal-returns-then-not-lengths_equal t c = spans_differ _ _ _ _ _ _ _ _ _ (sym c.lengths_equal.ensures ∙ c.if-not-lengths_equal.true)

pub list::equal-overflow_sub-items : goal.list::equal-overflow_sub-items
list::equal-overflow_sub-items t c = list_order c.requires.parts c.requires.layout (sym c.lengths_equal.ensures ∙ c.if-not-lengths_equal.false) (add-zero _) (add-zero _) c.offset_at-from.ensures c.offset_at-to.ensures c.offset_at-start.ensures

pub list::equal-equal_range-requires : goal.list::equal-equal_range-requires
list::equal-equal_range-requires t c = (search rules, rw c.child.ensures.same (list_requires c.requires.parts c.requires.layout (sym c.lengths_equal.ensures ∙ c.if-not-lengths_equal.false) (add-zero _) (add-zero _) c.offset_at-from.ensures c.offset_at-to.ensures c.offset_at-start.ensures))

pub list::equal-returns : goal.list::equal-returns
list::equal-returns t c =
    let same = rw c.child.ensures.same at c.equal_range.ensures in
    same ∙ list_answer c.requires.parts c.requires.layout (sym c.lengths_equal.ensures ∙ c.if-not-lengths_equal.false) (add-zero _) (add-zero _) c.offset_at-from.ensures c.offset_at-to.ensures c.offset_at-start.ensures

pub list_view::equal-returns-then-size-at : goal.list_view::equal-returns-then-size-at
list_view::equal-returns-then-size-at t c = rows_fail c.loop-k.invariant c.loop-k-test.true (view_differs c.requires.parts c.requires.layout c.loop-k.k c.loop-k-test.true (size_from c.args.pair.now.left c.numbers-left_sizes.result _ (c.numbers-left_sizes.ensures.width ∙ c.element_width-width.ensures) c.numbers-left_sizes.ensures.bytes c.numbers-left_sizes.ensures.place c.at-size.ensures) (size_from c.args.pair.now.right c.numbers-right_sizes.result _ (c.numbers-right_sizes.ensures.width ∙ (c.element_width-width.ensures ∙ widths_same c.requires.parts)) c.numbers-right_sizes.ensures.bytes c.numbers-right_sizes.ensures.place c.at.ensures) c.if-size-at.true)

pub list_view::equal-equal_range-requires : goal.list_view::equal-equal_range-requires
list_view::equal-equal_range-requires t c = (omega (arith, c.decreases), rw c.child-child.ensures.same (view_requires c.requires.parts c.requires.layout c.loop-k.k c.loop-k-test.true (add-zero _) (add-zero _) (size_from c.args.pair.now.left c.numbers-left_sizes.result _ (c.numbers-left_sizes.ensures.width ∙ c.element_width-width.ensures) c.numbers-left_sizes.ensures.bytes c.numbers-left_sizes.ensures.place c.at-size.ensures) (size_from c.args.pair.now.right c.numbers-right_sizes.result _ (c.numbers-right_sizes.ensures.width ∙ (c.element_width-width.ensures ∙ widths_same c.requires.parts)) c.numbers-right_sizes.ensures.bytes c.numbers-right_sizes.ensures.place c.at.ensures) c.if-size-at.false (element_from c.args.pair.now.left c.numbers-left.result _ (c.numbers-left.ensures.width ∙ c.element_width-width.ensures) c.numbers-left.ensures.bytes c.numbers-left.ensures.place c.at-in-loop-k.ensures) (element_from c.args.pair.now.right c.numbers-right.result _ (c.numbers-right.ensures.width ∙ (c.element_width-width.ensures ∙ widths_same c.requires.parts)) c.numbers-right.ensures.bytes c.numbers-right.ensures.place c.at-in-loop-k-2.ensures)))

pub list_view::equal-returns-then-not-equal_range : goal.list_view::equal-returns-then-not-equal_range
list_view::equal-returns-then-not-equal_range t c =
    let same = rw c.child-child.ensures.same at c.equal_range.ensures in
    rows_fail c.loop-k.invariant c.loop-k-test.true (sym (view_answer c.requires.parts c.requires.layout c.loop-k.k c.loop-k-test.true (add-zero _) (add-zero _) (size_from c.args.pair.now.left c.numbers-left_sizes.result _ (c.numbers-left_sizes.ensures.width ∙ c.element_width-width.ensures) c.numbers-left_sizes.ensures.bytes c.numbers-left_sizes.ensures.place c.at-size.ensures) (size_from c.args.pair.now.right c.numbers-right_sizes.result _ (c.numbers-right_sizes.ensures.width ∙ (c.element_width-width.ensures ∙ widths_same c.requires.parts)) c.numbers-right_sizes.ensures.bytes c.numbers-right_sizes.ensures.place c.at.ensures) c.if-size-at.false (element_from c.args.pair.now.left c.numbers-left.result _ (c.numbers-left.ensures.width ∙ c.element_width-width.ensures) c.numbers-left.ensures.bytes c.numbers-left.ensures.place c.at-in-loop-k.ensures) (element_from c.args.pair.now.right c.numbers-right.result _ (c.numbers-right.ensures.width ∙ (c.element_width-width.ensures ∙ widths_same c.requires.parts)) c.numbers-right.ensures.bytes c.numbers-right.ensures.place c.at-in-loop-k-2.ensures)) ∙ sym same ∙ c.if-not-equal_range.true)

pub list_view::equal-loop-k-preserved : goal.list_view::equal-loop-k-preserved
list_view::equal-loop-k-preserved t c =
    let same = rw c.child-child.ensures.same at c.equal_range.ensures in
    rows_more c.loop-k.invariant c.loop-k-test.true (sym (view_answer c.requires.parts c.requires.layout c.loop-k.k c.loop-k-test.true (add-zero _) (add-zero _) (size_from c.args.pair.now.left c.numbers-left_sizes.result _ (c.numbers-left_sizes.ensures.width ∙ c.element_width-width.ensures) c.numbers-left_sizes.ensures.bytes c.numbers-left_sizes.ensures.place c.at-size.ensures) (size_from c.args.pair.now.right c.numbers-right_sizes.result _ (c.numbers-right_sizes.ensures.width ∙ (c.element_width-width.ensures ∙ widths_same c.requires.parts)) c.numbers-right_sizes.ensures.bytes c.numbers-right_sizes.ensures.place c.at.ensures) c.if-size-at.false (element_from c.args.pair.now.left c.numbers-left.result _ (c.numbers-left.ensures.width ∙ c.element_width-width.ensures) c.numbers-left.ensures.bytes c.numbers-left.ensures.place c.at-in-loop-k.ensures) (element_from c.args.pair.now.right c.numbers-right.result _ (c.numbers-right.ensures.width ∙ (c.element_width-width.ensures ∙ widths_same c.requires.parts)) c.numbers-right.ensures.bytes c.numbers-right.ensures.place c.at-in-loop-k-2.ensures)) ∙ sym same ∙ c.if-not-equal_range.false)

pub list_view::equal-returns : goal.list_view::equal-returns
list_view::equal-returns t c = rows_done c.loop-k.invariant c.loop-k-test.false

pub structure::equal-equal_range-requires : goal.structure::equal-equal_range-requires
structure::equal-equal_range-requires t c = (search rules, rw c.child.ensures.same (struct_requires c.requires.parts c.requires.layout refl refl (record { value = refl; small = omega (arith, c.child_count-c-end.ensures.value, c.child_count-c-end.ensures.small) }) (rw c.child_count-c-end.ensures.value at c.loop-c-test.true)))

pub structure::equal-returns-then-not-equal_range : goal.structure::equal-returns-then-not-equal_range
structure::equal-returns-then-not-equal_range t c =
    let same = rw c.child.ensures.same at c.equal_range.ensures in
    columns_fail c.requires.parts c.requires.layout refl refl (record { value = refl; small = omega (arith, c.child_count-c-end.ensures.value, c.child_count-c-end.ensures.small) }) c.loop-c.invariant (rw c.child_count-c-end.ensures.value at c.loop-c-test.true) (sym same ∙ c.if-not-equal_range.true)

pub structure::equal-loop-c-preserved : goal.structure::equal-loop-c-preserved
structure::equal-loop-c-preserved t c =
    let same = rw c.child.ensures.same at c.equal_range.ensures in
    columns_more_left c.requires.parts c.requires.layout refl refl (record { value = refl; small = omega (arith, c.child_count-c-end.ensures.value, c.child_count-c-end.ensures.small) }) c.loop-c.invariant (rw c.child_count-c-end.ensures.value at c.loop-c-test.true) (sym same ∙ c.if-not-equal_range.false)

pub structure::equal-returns : goal.structure::equal-returns
structure::equal-returns t c = columns_done c.requires.parts c.requires.layout refl refl (record { value = refl; small = omega (arith, c.child_count-c-end.ensures.value, c.child_count-c-end.ensures.small) }) c.loop-c.invariant (rw c.child_count-c-end.ensures.value at c.loop-c-test.false)

pub run::equal-equal_range-requires : goal.run::equal-equal_range-requires
run::equal-equal_range-requires t c = (search rules, rw c.child-values.ensures.same (together_requires c.requires.parts c.requires.layout c.run_of-i.ensures c.run_of-j.ensures (omega (arith, c.if-n-eq0.false)) c.in-Some.ensures.some c.in-Some.ensures.together refl refl))

pub run::equal-returns-in-Some : goal.run::equal-returns-in-Some
run::equal-returns-in-Some t c =
    let same = rw c.child-values.ensures.same at c.equal_range.ensures in
    same ∙ together_answer c.requires.parts c.requires.layout c.run_of-i.ensures c.run_of-j.ensures (omega (arith, c.if-n-eq0.false)) c.in-Some.ensures.some c.in-Some.ensures.together refl refl

pub run::equal-leaves_of-leaves-requires : goal.run::equal-leaves_of-leaves-requires
run::equal-leaves_of-leaves-requires t c = rw c.child-values.ensures.same (run_nodes c.requires.parts c.requires.layout refl refl)

pub run::equal-equal_row-requires : goal.run::equal-equal_row-requires
run::equal-equal_row-requires t c = (omega (arith, c.decreases), (rw c.child-values.ensures.same (step_requires c.requires.parts c.requires.layout c.runs.invariant.1.0 c.runs-test.true refl refl), c.leaves_of-leaves.ensures))

pub run::equal-at-x-requires : goal.run::equal-at-x-requires
run::equal-at-x-requires t c = end_nth c.ends-left.ensures (omega (arith, run_small c.requires.parts.left c.requires.layout c.runs-test.true (c.runs.invariant.1.0.left c.runs-test.true)))

pub run::equal-at-y-requires : goal.run::equal-at-y-requires
run::equal-at-y-requires t c = end_nth c.ends-right.ensures (omega (arith, run_small c.requires.parts.right (layout_right c.requires.parts c.requires.layout) c.runs-test.true (c.runs.invariant.1.0.right c.runs-test.true)))

pub union::dense-overflow_add-ib : goal.union::dense-overflow_add-ib
union::dense-overflow_add-ib t c = omega (arith, part_small c.requires.parts.left, part_small c.requires.parts.right, c.loop-k-test.true, c.buffer_place-ia.ensures.small, c.buffer_place-ib.ensures.small)

pub union::dense-returns-in_default : goal.union::dense-returns-in_default
union::dense-returns-in_default t c = rows_fail c.loop-k.invariant.1 c.loop-k-test.true (dense_fails c.requires.parts c.requires.layout c.loop-k.k c.loop-k-test.true (id_at _ _ _ c.buffer_place-ia.ensures) (id_at _ _ _ c.buffer_place-ib.ensures) c.in_default.ensures.named)

pub union::dense-equal_range-requires : goal.union::dense-equal_range-requires
union::dense-equal_range-requires t c =
    let numbers = counted c.args.pair.now c.in-Some.place c.child-first.ensures.same c.in-Some.ensures.named.named.same in
    (search rules, rw (c.loop-k.invariant.0.0, c.loop-k.invariant.0.1, numbers.0, numbers.1) (dense_child c.requires.parts c.requires.layout c.loop-k.k c.loop-k-test.true (id_at _ _ _ c.buffer_place-ia.ensures) (id_at _ _ _ c.buffer_place-ib.ensures) c.in-Some.ensures.named.ids (dense_from c.args.pair.now.left c.numbers-left.result _ c.numbers-left.ensures.width c.numbers-left.ensures.bytes c.numbers-left.ensures.place c.at.ensures) (dense_from c.args.pair.now.right c.numbers-right.result _ c.numbers-right.ensures.width c.numbers-right.ensures.bytes c.numbers-right.ensures.place c.at-in-loop-k.ensures)))

pub union::dense-loop-k-preserved : goal.union::dense-loop-k-preserved
union::dense-loop-k-preserved t c =
    let numbers = counted c.args.pair.now c.in-Some.place c.child-first.ensures.same c.in-Some.ensures.named.named.same in
    let same = rw (c.loop-k.invariant.0.0, c.loop-k.invariant.0.1, numbers.0, numbers.1) at c.equal_range.ensures in
    (c.loop-k.invariant.0, rows_more c.loop-k.invariant.1 c.loop-k-test.true (sym (dense_row_lem c.requires.parts c.requires.layout c.loop-k.k c.loop-k-test.true (id_at _ _ _ c.buffer_place-ia.ensures) (id_at _ _ _ c.buffer_place-ib.ensures) c.in-Some.ensures.named.ids (dense_from c.args.pair.now.left c.numbers-left.result _ c.numbers-left.ensures.width c.numbers-left.ensures.bytes c.numbers-left.ensures.place c.at.ensures) (dense_from c.args.pair.now.right c.numbers-right.result _ c.numbers-right.ensures.width c.numbers-right.ensures.bytes c.numbers-right.ensures.place c.at-in-loop-k.ensures)) ∙ sym same ∙ c.if-not-equal_range.false))

pub union::dense-returns-then-not-equal_range : goal.union::dense-returns-then-not-equal_range
union::dense-returns-then-not-equal_range t c =
    let numbers = counted c.args.pair.now c.in-Some.place c.child-first.ensures.same c.in-Some.ensures.named.named.same in
    let same = rw (c.loop-k.invariant.0.0, c.loop-k.invariant.0.1, numbers.0, numbers.1) at c.equal_range.ensures in
    rows_fail c.loop-k.invariant.1 c.loop-k-test.true (sym (dense_row_lem c.requires.parts c.requires.layout c.loop-k.k c.loop-k-test.true (id_at _ _ _ c.buffer_place-ia.ensures) (id_at _ _ _ c.buffer_place-ib.ensures) c.in-Some.ensures.named.ids (dense_from c.args.pair.now.left c.numbers-left.result _ c.numbers-left.ensures.width c.numbers-left.ensures.bytes c.numbers-left.ensures.place c.at.ensures) (dense_from c.args.pair.now.right c.numbers-right.result _ c.numbers-right.ensures.width c.numbers-right.ensures.bytes c.numbers-right.ensures.place c.at-in-loop-k.ensures)) ∙ sym same ∙ c.if-not-equal_range.true)

pub union::dense-returns : goal.union::dense-returns
union::dense-returns t c = rows_done c.loop-k.invariant.1 c.loop-k-test.false

pub union::block-returns-in_default : goal.union::block-returns-in_default
union::block-returns-in_default t c = rows_fail c.loop-k.invariant.1 c.loop-k-test.true (sparse_fails c.requires.parts c.requires.layout c.loop-k.k c.loop-k-test.true (id_at _ _ _ c.buffer_place-ia.ensures) (id_at _ _ _ c.buffer_place-ib.ensures) c.in_default.ensures.named)

pub union::block-equal_range-requires : goal.union::block-equal_range-requires
union::block-equal_range-requires t c =
    let numbers = counted c.args.pair.now c.in-Some.place c.child-first.ensures.same c.in-Some.ensures.named.named.same in
    (search rules, rw (c.part.ensures, c.loop-k.invariant.0.0, c.loop-k.invariant.0.1, numbers.0, numbers.1) (sparse_child c.requires.parts c.requires.layout c.loop-k.k c.loop-k-test.true (id_at _ _ _ c.buffer_place-ia.ensures) (id_at _ _ _ c.buffer_place-ib.ensures) c.in-Some.ensures.named.ids))

pub union::block-loop-k-preserved : goal.union::block-loop-k-preserved
union::block-loop-k-preserved t c =
    let numbers = counted c.args.pair.now c.in-Some.place c.child-first.ensures.same c.in-Some.ensures.named.named.same in
    let same = rw (c.part.ensures, c.loop-k.invariant.0.0, c.loop-k.invariant.0.1, numbers.0, numbers.1) at c.equal_range.ensures in
    (c.loop-k.invariant.0, rows_more c.loop-k.invariant.1 c.loop-k-test.true (sym (sparse_row_lem c.requires.parts c.requires.layout c.loop-k.k c.loop-k-test.true (id_at _ _ _ c.buffer_place-ia.ensures) (id_at _ _ _ c.buffer_place-ib.ensures) c.in-Some.ensures.named.ids) ∙ sym same ∙ c.if-not-equal_range.false))

pub union::block-returns-then-not-equal_range : goal.union::block-returns-then-not-equal_range
union::block-returns-then-not-equal_range t c =
    let numbers = counted c.args.pair.now c.in-Some.place c.child-first.ensures.same c.in-Some.ensures.named.named.same in
    let same = rw (c.part.ensures, c.loop-k.invariant.0.0, c.loop-k.invariant.0.1, numbers.0, numbers.1) at c.equal_range.ensures in
    rows_fail c.loop-k.invariant.1 c.loop-k-test.true (sym (sparse_row_lem c.requires.parts c.requires.layout c.loop-k.k c.loop-k-test.true (id_at _ _ _ c.buffer_place-ia.ensures) (id_at _ _ _ c.buffer_place-ib.ensures) c.in-Some.ensures.named.ids) ∙ sym same ∙ c.if-not-equal_range.true)

pub union::block-returns : goal.union::block-returns
union::block-returns t c = rows_done c.loop-k.invariant.1 c.loop-k-test.false

pub union::block-slice_bounds-eq-end : goal.union::block-slice_bounds-eq-end
union::block-slice_bounds-eq-end t c = sparse_inside c.requires.parts.left c.requires.layout c.buffer_place-ia.ensures.value

pub union::block-slice_bounds-eq-end-then-n-ge-SEVERAL : goal.union::block-slice_bounds-eq-end-then-n-ge-SEVERAL
union::block-slice_bounds-eq-end-then-n-ge-SEVERAL t c = sparse_inside c.requires.parts.right (layout_right c.requires.parts c.requires.layout) c.buffer_place-ib.ensures.value

pub union::block-returns-then-equal : goal.union::block-returns-then-equal
union::block-returns-then-equal t c = whole_children c.requires.parts c.requires.layout (sym c.equal.ensures ∙ c.if-equal.true) c.buffer_place-ia.ensures.value c.buffer_place-ib.ensures.value (sym (parts_same _ _ _ _ _ _ (sparse_inside c.requires.parts.left c.requires.layout c.buffer_place-ia.ensures.value) (sparse_inside c.requires.parts.right (layout_right c.requires.parts c.requires.layout) c.buffer_place-ib.ensures.value)) ∙ sym c.eq.ensures ∙ c.if-eq.true)

pub union::sparse-returns-then-not-block : goal.union::sparse-returns-then-not-block
union::sparse-returns-then-not-block t c =
    let same = rw c.part.ensures at c.block.ensures in
    rows_jump_fail c.loop-h.invariant _ (omega (arith, c.loop-h-test.true)) (sym same ∙ c.if-not-block.true)

pub union::sparse-loop-h-preserved : goal.union::sparse-loop-h-preserved
union::sparse-loop-h-preserved t c =
    let same = rw c.part.ensures at c.block.ensures in
    let next : 4096 * (c.loop-h.h + 1) ≡ 4096 * c.loop-h.h + 4096 = omega arith in
    rw next (rows_jump c.loop-h.invariant _ (omega (arith, c.loop-h-test.true)) (sym same ∙ c.if-not-block.false))

pub union::sparse-returns : goal.union::sparse-returns
union::sparse-returns t c =
    let all_blocks : c.loop-h.h ≡ c.args.rows.count / 4096 = omega (arith, c.loop-h-test.false, c.loop-h.auto.h-end) in
    let last = rw all_blocks at c.loop-h.invariant in
    let same = rw c.part-2.ensures at c.block-2.ensures in
    rows_rest last same
