-- `TypeCode::sign_bit` gives the sign bit of a number of 0 to 8 bytes.
-- Both sides are computed at each of these widths.
use native.Mathlib.Omega.{arith}
use mathlib.Core.Path.{refl}
use Prim.Native.Nat.{ℕ, ◌*◌, ◌-◌, ◌^◌, ◌%◌}
use Rattle.image.specs.TypeCode.{sign_bit}
use Rattle.image.proofs.CodeTable.{agree}
use Rattle.image.proofs.type_code.TypeCode.sign_bit.Goals as goal

pub returns-then-width-eq0 : goal.returns-then-width-eq0
unfolding sign_bit
returns-then-width-eq0 c = rw c.if-width-eq0.true

pub returns : goal.returns
unfolding sign_bit
returns c =
    agree (λ (w : ℕ). 1 * 2 ^ (8 * w - 1) % 18446744073709551616) sign_bit 1 8 refl c.args.width (omega arith) (omega arith)
