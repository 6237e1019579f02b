-- The row under a null, for a node and all below it.
-- The loop keeps how many children have got theirs, and the room for the others.
use borrow.Author.Rules.{rules}
use native.Mathlib.Omega.{arith}
use mathlib.Core.Path.{refl, sym, ◌∙◌}
use Rattle.fill.specs.Filling.{state}
use Rattle.fill.proofs.Steps.{same_then}
use Rattle.fill.proofs.Walks.{gap_rooms, gaps_more}
use Rattle.fill.proofs.Arms.{deep_told, gap_zero, gap_getting, gap_only, gap_loop, gap_child, gap_end}
use Rattle.fill.proofs.put.Filling.+fill_gap.Goals as goal

pub returns-then-depth-eq0 : goal.returns-then-depth-eq0
returns-then-depth-eq0 t c = record { same = search rules; filled = gap_zero c.args.node.image.now c.args.self.now.places.now (state c.args.self.now) c.args.depth c.args.node.number c.if-depth-eq0.true }

pub put_gap-requires : goal.put_gap-requires
put_gap-requires t c = gap_getting c.requires.ready c.requires.node (deep_told c.if-depth-eq0.false) c.requires.rooms

pub returns-then-code-ne-STRUCT : goal.returns-then-code-ne-STRUCT
returns-then-code-ne-STRUCT t c = record { same = search rules; filled = gap_only c.requires.ready c.requires.node (deep_told c.if-depth-eq0.false) c.requires.rooms (λ is. c.if-code-ne-STRUCT.true (c.code.ensures.value ∙ is)) c.put_gap.ensures.filled }

pub loop-c-init : goal.loop-c-init
loop-c-init t c = (c.put_gap.ensures.same, gap_loop c.requires.ready c.requires.node (deep_told c.if-depth-eq0.false) c.requires.rooms (sym c.code.ensures.value ∙ c.if-code-ne-STRUCT.false) refl c.child_count-c-end.ensures.value c.put_gap.ensures.filled)

pub fill_gap-requires : goal.fill_gap-requires
fill_gap-requires t c = (omega (arith, c.decreases, deep_told c.if-depth-eq0.false), rw (c.child.ensures.image, c.child.ensures.number, c.loop-c.invariant.0.places) (record { node = gap_child c.requires.ready c.requires.node (deep_told c.if-depth-eq0.false) c.requires.rooms (sym c.code.ensures.value ∙ c.if-code-ne-STRUCT.false) refl c.child_count-c-end.ensures.value c.put_gap.ensures.filled c.loop-c-test.true; ready = c.loop-c.invariant.1.ready; rooms = gap_rooms c.loop-c.invariant.1 c.loop-c-test.true }))

pub loop-c-preserved : goal.loop-c-preserved
loop-c-preserved t c = (same_then c.loop-c.invariant.0 c.fill_gap.ensures.same, gaps_more c.loop-c.invariant.1 c.loop-c-test.true (rw (c.child.ensures.image, c.child.ensures.number, c.loop-c.invariant.0.places) at c.fill_gap.ensures.filled))

pub returns : goal.returns
returns t c = record { same = search rules; filled = gap_end c.requires.ready c.requires.node (deep_told c.if-depth-eq0.false) c.requires.rooms (sym c.code.ensures.value ∙ c.if-code-ne-STRUCT.false) refl c.child_count-c-end.ensures.value c.put_gap.ensures.filled c.loop-c.invariant.1 c.loop-c-test.false }
