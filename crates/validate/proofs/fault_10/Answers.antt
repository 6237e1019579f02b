-- The tests of the image's length and of its numbers of nodes and buffers.
-- The definition's reads are the results, and each branch answers one of its tests.
use borrow.Author.Tests.{eq-eqb, ne_eqb, lt-ltb, le-ltb}
use Rattle.image.specs.Faults.{fault10}
use Rattle.validate.proofs.fault_10.Goals as goal

pub returns-then-image-lt-HEADER_SIZE : goal.returns-then-image-lt-HEADER_SIZE
unfolding fault10
returns-then-image-lt-HEADER_SIZE c = rw (lt-ltb _ _ c.if-image-lt-HEADER_SIZE.true)

pub returns-then-image-gt-LONGEST_IMAGE : goal.returns-then-image-gt-LONGEST_IMAGE
unfolding fault10
returns-then-image-gt-LONGEST_IMAGE c = rw (le-ltb _ _ c.if-image-lt-HEADER_SIZE.false, lt-ltb _ _ c.if-image-gt-LONGEST_IMAGE.true)

pub returns-then-n-eq0 : goal.returns-then-n-eq0
unfolding fault10
returns-then-n-eq0 c = rw (le-ltb _ _ c.if-image-lt-HEADER_SIZE.false, le-ltb _ _ c.if-image-gt-LONGEST_IMAGE.false, ← c.node_count-n.ensures.value, eq-eqb _ _ c.if-n-eq0.true)

pub returns-then-n-gt-MOST_NODES : goal.returns-then-n-gt-MOST_NODES
unfolding fault10
returns-then-n-gt-MOST_NODES c = rw (le-ltb _ _ c.if-image-lt-HEADER_SIZE.false, le-ltb _ _ c.if-image-gt-LONGEST_IMAGE.false, ← c.node_count-n.ensures.value, ne_eqb _ _ c.if-n-eq0.false, lt-ltb _ _ c.if-n-gt-MOST_NODES.true)

pub returns-then-buffer_total-gt-MOST_BUFFERS : goal.returns-then-buffer_total-gt-MOST_BUFFERS
unfolding fault10
returns-then-buffer_total-gt-MOST_BUFFERS c = rw (le-ltb _ _ c.if-image-lt-HEADER_SIZE.false, le-ltb _ _ c.if-image-gt-LONGEST_IMAGE.false, ← c.node_count-n.ensures.value, ne_eqb _ _ c.if-n-eq0.false, le-ltb _ _ c.if-n-gt-MOST_NODES.false, ← c.buffer_total.ensures.value, lt-ltb _ _ c.if-buffer_total-gt-MOST_BUFFERS.true)

pub returns : goal.returns
unfolding fault10
returns c = rw (le-ltb _ _ c.if-image-lt-HEADER_SIZE.false, le-ltb _ _ c.if-image-gt-LONGEST_IMAGE.false, ← c.node_count-n.ensures.value, ne_eqb _ _ c.if-n-eq0.false, le-ltb _ _ c.if-n-gt-MOST_NODES.false, ← c.buffer_total.ensures.value, le-ltb _ _ c.if-buffer_total-gt-MOST_BUFFERS.false, ← c.tables_end.ensures.value)
