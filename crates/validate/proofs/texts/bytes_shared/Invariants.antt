-- The lengths of the views are added up, and the sum fits.
-- The loop keeps that the sum is below 2 ^ 32 for each view.
use Prim.Native.Nat.{◌*◌, ◌≤◌}
use Rattle.validate.proofs.texts.bytes_shared.Given as goal

abbrev pub invariant-loop-i : goal.invariant-loop-i
invariant-loop-i l = (l.sum ≤ 4294967296 * l.i) × (l.i ≤ l.i-end)
