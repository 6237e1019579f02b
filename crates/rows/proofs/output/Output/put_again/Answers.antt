-- `put_again` puts bytes of the buffer over it once more, behind them.
-- The loop keeps that the bytes from byte k on, put after those that were put, give the whole; what is read stands before.
use mathlib.Core.Path.{refl, sym, ap}
use Prim.Native.Nat.{ℕ, ◌+◌}
use Rattle.laws.proofs.Lengths.{bytes_length}
use Rattle.rows.proofs.Over.{bytes_start, again_more, bytes_done}
use Rattle.rows.proofs.output.Output.put_again.Goals as goal

pub loop-k-init : goal.loop-k-init
loop-k-init c = (refl, bytes_start c.requires.1)

pub loop-k-preserved : goal.loop-k-preserved
loop-k-preserved c = (c.loop-k.invariant.0, again_more c.loop-k.invariant.1 c.loop-k-test.true c.requires.0)

pub returns : goal.returns
returns c = record { lent = c.loop-k.invariant.0; long = c.loop-k.invariant.1.put.put.long; at = ap (λ (n : ℕ). c.args.self.now.at + n) (sym (bytes_length c.args.self.now.bytes.now c.args.from c.args.n)); bytes = bytes_done c.loop-k.invariant.1 c.loop-k-test.false }
