-- The answer is whether the heads agree and the children do in turn.
-- The loop keeps that the children from child k on decide.
use mathlib.Core.Path.{refl, ◌∙◌}
use Rattle.values.proofs.Steps.{left_more, left_fails, left_done}
use Rattle.values.proofs.Levels.{labels_fail, labels_agree_lem, at_none, heads_fail, children}
use Rattle.values.proofs.types.+types_equal.Goals as goal

pub returns-then-depth-eq0 : goal.returns-then-depth-eq0
returns-then-depth-eq0 t c = at_none _ _ _ _ _ _ c.if-depth-eq0.true

pub returns-then-not-heads_equal : goal.returns-then-not-heads_equal
returns-then-not-heads_equal t c = heads_fail _ _ _ _ _ _ c.if-depth-eq0.false c.heads_equal.ensures (c.if-not-heads_equal.true)

pub returns-then-not-labels_equal : goal.returns-then-not-labels_equal
returns-then-not-labels_equal t c =
    let lt = (rw c.child_count-k-end.ensures.value at c.loop-k-test.true) in
    let labels = rw c.child-child.ensures.same at c.labels_equal.ensures in
    left_fails _ _ _ _ _ lt c.loop-k.invariant (labels_fail _ _ _ _ _ _ _ labels (c.if-not-labels_equal.true)) ∙ children _ _ _ _ _ _ c.if-depth-eq0.false c.heads_equal.ensures (c.if-not-heads_equal.false) c.code-code.ensures.value c.below-counted.ensures refl refl refl refl

pub returns-then-not-types_equal : goal.returns-then-not-types_equal
returns-then-not-types_equal t c =
    let lt = (rw c.child_count-k-end.ensures.value at c.loop-k-test.true) in
    let labels = rw c.child-child.ensures.same at c.labels_equal.ensures in
    let types = rw c.child-child.ensures.same at c.types_equal.ensures in
    left_fails _ _ _ _ _ lt c.loop-k.invariant (labels_agree_lem _ _ _ _ _ _ _ labels (c.if-not-labels_equal.false) types ∙ c.if-not-types_equal.true) ∙ children _ _ _ _ _ _ c.if-depth-eq0.false c.heads_equal.ensures (c.if-not-heads_equal.false) c.code-code.ensures.value c.below-counted.ensures refl refl refl refl

pub loop-k-preserved : goal.loop-k-preserved
loop-k-preserved t c =
    let lt = (rw c.child_count-k-end.ensures.value at c.loop-k-test.true) in
    let labels = rw c.child-child.ensures.same at c.labels_equal.ensures in
    let types = rw c.child-child.ensures.same at c.types_equal.ensures in
    left_more _ _ _ _ _ lt c.loop-k.invariant (labels_agree_lem _ _ _ _ _ _ _ labels (c.if-not-labels_equal.false) types ∙ c.if-not-types_equal.false)

pub returns : goal.returns
returns t c = left_done _ _ _ _ _ (rw c.child_count-k-end.ensures.value at c.loop-k-test.false) c.loop-k.invariant ∙ children _ _ _ _ _ _ c.if-depth-eq0.false c.heads_equal.ensures (c.if-not-heads_equal.false) c.code-code.ensures.value c.below-counted.ensures refl refl refl refl
