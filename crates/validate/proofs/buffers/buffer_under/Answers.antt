-- `buffer_under` is `is_under` of the buffer's length.
-- The result of the read stands for the length.
use Rattle.image.specs.Faults.{under}
use Rattle.validate.proofs.buffers.buffer_under.Goals as goal

pub returns : goal.returns
unfolding under
returns c = rw (← c.buffer_length.ensures.value) c.is_under.ensures
