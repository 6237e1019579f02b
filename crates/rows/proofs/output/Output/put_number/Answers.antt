-- `put_number` puts the bytes of a number over the buffer.
-- The loop keeps that the bytes of what is left of the number, put after those that were put, give the whole.
use mathlib.Core.Path.{refl, sym, ap}
use Prim.Native.Nat.{ℕ, ◌+◌}
use Rattle.laws.proofs.Lengths.{number_length}
use Rattle.rows.proofs.Over.{number_start, number_more, number_done}
use Rattle.rows.proofs.output.Output.put_number.Goals as goal

pub loop-k-init : goal.loop-k-init
loop-k-init c = (refl, number_start c.requires)

pub loop-k-preserved : goal.loop-k-preserved
loop-k-preserved c = (c.loop-k.invariant.0, number_more c.loop-k.invariant.1 c.loop-k-test.true)

pub returns : goal.returns
returns c = record { lent = c.loop-k.invariant.0; long = c.loop-k.invariant.1.put.long; at = ap (λ (n : ℕ). c.args.self.now.at + n) (sym (number_length c.args.w c.args.x)); bytes = number_done c.loop-k.invariant.1 c.loop-k-test.false }
