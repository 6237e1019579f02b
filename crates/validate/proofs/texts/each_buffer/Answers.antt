-- Where `each_buffer` says yes, every data buffer passes the test.
-- Each buffer lies inside, and the test says of its bytes what it says of those at its place.
use Rattle.image.proofs.Slices.{sliced}
use Rattle.validate.proofs.TextRows.{buffer_more, buffer_all, told_here, data_inside}
use native.Mathlib.Omega.{arith}
use Rattle.validate.proofs.texts.each_buffer.Goals as goal

pub slice_bounds-test-end : goal.slice_bounds-test-end
slice_bounds-test-end g c = data_inside c.requires.node (omega (arith, c.buffer_count-j-end.ensures.value)) c.buffer_place-place.ensures.value c.buffer_length-len.ensures.value

pub loop-j-preserved : goal.loop-j-preserved
loop-j-preserved g c =
    let inside = data_inside c.requires.node (omega (arith, c.buffer_count-j-end.ensures.value)) c.buffer_place-place.ensures.value c.buffer_length-len.ensures.value in
    (omega arith, λ p h. buffer_more (c.loop-j.invariant.1 p h) (told_here _ _ _ p c.buffer_place-place.ensures.value c.buffer_length-len.ensures.value (sliced _ _ _ inside) (h _ (rw c.if-not-test.false at c.test.ensures))))

pub returns : goal.returns
returns g c = λ p h e. buffer_all (c.loop-j.invariant.1 p h) (omega (arith, c.buffer_count-j-end.ensures.value, c.loop-j-test.false))
