-- `boolean` reads a byte that is 00 or 01.
-- Its tests are those of the definition.
use borrow.Author.Rules.{rules}
use native.Mathlib.Omega.{arith}
use Rattle.parse.proofs.Leaves.{boolean_none, boolean_other, boolean_go}
use Rattle.parse.proofs.leaf.Scan.boolean.Goals as goal

pub returns-in_err-value : goal.returns-in_err-value
returns-in_err-value c = rw c.from_residual.ensures (record { same = search rules; scans = boolean_none _ c.in_err-value.ensures.cases _ })

pub returns-then-value-gt1 : goal.returns-then-value-gt1
returns-then-value-gt1 c = record { same = search rules; scans = boolean_other _ _ _ c.in_ok-value.ensures.cases.0 (omega (arith, c.if-value-gt1.true)) _ }

pub returns : goal.returns
returns c = record { same = search rules; scans = boolean_go _ _ _ c.in_ok-value.ensures.cases.0 (omega (arith, c.if-value-gt1.false)) _ }
