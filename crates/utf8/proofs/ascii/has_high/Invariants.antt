-- `utf8::ascii::has_high` meets its contract: blocks of 256 bytes, then of 16, then the last 16.
-- Both loops keep that what is left to look at gives the answer.
use mathlib.Core.Path.{◌≡◌}
use Prim.Native.Nat.{◌%◌}
use lib.ListN.{length}
use Rattle.std.specs.Slice.Iter.{chunks_exact_rest, chunks_exact_size}
use Rattle.utf8.proofs.Ends.{Ahead}
use Rattle.utf8.proofs.ascii.has_high.Given as goal

abbrev pub invariant-loop-block : goal.invariant-loop-block
invariant-loop-block l =
    (goal.iterator-loop-block).can_next l.block-iterator ×
    (goal.iterator-loop-block).is_finite l.block-iterator ×
    (chunks_exact_size l.block-iterator ≡ 256) ×
    (length (chunks_exact_rest l.block-iterator) % 256 ≡ length l.text % 256) ×
    Ahead l.text (chunks_exact_rest l.block-iterator)

abbrev pub invariant-loop-block-2 : goal.invariant-loop-block-2
invariant-loop-block-2 l =
    (goal.iterator-loop-block-2).can_next l.block-iterator ×
    (goal.iterator-loop-block-2).is_finite l.block-iterator ×
    (chunks_exact_size l.block-iterator ≡ 16) ×
    Ahead l.text (chunks_exact_rest l.block-iterator)
