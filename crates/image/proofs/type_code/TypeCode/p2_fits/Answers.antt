-- `TypeCode::p2_fits` answers as the definition does.
-- Whether a code is a decimal's is one test over each range of codes; then the code's tests are the definition's.
use mathlib.Core.List.{[]}
use native.Mathlib.Omega.{arith}
use borrow.Author.Tests.{lt-ltb, le-ltb}
use mathlib.Core.Bool.{true, false}
use mathlib.Core.Path.{◌≡◌, refl}
use Prim.Native.Nat.{ℕ, ◌≤◌, ◌<◌}
use Rattle.image.specs.TypeCode.{is_decimal, p2_fits}
use Rattle.image.proofs.CodeTable.{constant}
use Rattle.image.proofs.type_code.TypeCode.p2_fits.Goals as goal
use Rattle.image.proofs.type_code.TypeCode.p2_fits.Goals.{in_default-via-then-code-lt15, in_default-via-else-code-lt15+else-code-lt19}

decimal : (code : ℕ) → 15 ≤ code → code < 19 → true ≡ is_decimal code
unfolding is_decimal
decimal code low high = constant [] true is_decimal 15 4 refl code low high tt

below : (code : ℕ) → code < 15 → false ≡ is_decimal code
unfolding is_decimal
below code high = constant [] false is_decimal 0 15 refl code (omega arith) high tt

above : (code : ℕ) → 19 ≤ code → code < 256 → false ≡ is_decimal code
unfolding is_decimal
above code low high = constant [] false is_decimal 19 237 refl code low high tt

pub returns-then-p2-lt-SCALE_END : goal.returns-then-p2-lt-SCALE_END
unfolding p2_fits
returns-then-p2-lt-SCALE_END c = rw (← decimal c.args.code c.in-15-to-18.if-code-lt15-own.false c.in-15-to-18.if-code-lt19-own.true, lt-ltb _ _ c.if-p2-lt-SCALE_END.true)

pub returns-else-p2-lt-SCALE_END : goal.returns-else-p2-lt-SCALE_END
unfolding p2_fits
returns-else-p2-lt-SCALE_END c = rw (← decimal c.args.code c.in-15-to-18.if-code-lt15-own.false c.in-15-to-18.if-code-lt19-own.true, le-ltb _ _ c.if-p2-lt-SCALE_END.false)

pub returns-in_default : goal.returns-in_default
unfolding p2_fits
returns-in_default c =
    elim c.in_default.branch [ in_default-via-then-code-lt15 w ↦ rw (← below c.args.code (omega arith)) | in_default-via-else-code-lt15+else-code-lt19 w ↦ rw (← above c.args.code (omega arith) (omega arith)) ]
