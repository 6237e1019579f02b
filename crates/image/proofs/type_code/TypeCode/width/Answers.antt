-- `TypeCode::width` gives the width of an element of the first buffer.
-- The code's tests are the definition's; the table of widths and the entries' widths are the same list.
use borrow.Author.Tests.{ne_eqb}
use native.Mathlib.Omega.{arith}
use mathlib.Core.List.{[]}
use mathlib.Core.Path.{refl}
use Prim.Native.Nat.{ℕ}
use lib.ListN.{get_or}
use Rattle.image.specs.TypeCode.{entries, entry_of, width_of}
use Rattle.image.specs.declared.type_code.TheConstants.{WIDTHS}
use Rattle.image.proofs.CodeTable.{agree, constant}
use Rattle.image.proofs.type_code.TypeCode.width.Goals as goal

pub returns-then-code-eq-FIXED_SIZE_BINARY : goal.returns-then-code-eq-FIXED_SIZE_BINARY
unfolding width_of
returns-then-code-eq-FIXED_SIZE_BINARY c = rw c.if-code-eq-FIXED_SIZE_BINARY.true

pub returns-then-code-eq-DICTIONARY : goal.returns-then-code-eq-DICTIONARY
unfolding width_of
returns-then-code-eq-DICTIONARY c = rw c.if-code-eq-DICTIONARY.true c.integer_width.ensures

pub returns-then-code-gt-RUN_END_ENCODED : goal.returns-then-code-gt-RUN_END_ENCODED
unfolding width_of entry_of entries
returns-then-code-gt-RUN_END_ENCODED c =
    rw (ne_eqb _ _ c.if-code-eq-FIXED_SIZE_BINARY.false, ne_eqb _ _ c.if-code-eq-DICTIONARY.false)
    (constant [] 0 (λ (k : ℕ). (entry_of k).width) 44 212 refl c.args.code (omega arith) (omega arith) tt)

pub returns : goal.returns
unfolding width_of entry_of entries
returns c =
    rw (ne_eqb _ _ c.if-code-eq-FIXED_SIZE_BINARY.false, ne_eqb _ _ c.if-code-eq-DICTIONARY.false)
    (agree (λ (k : ℕ). get_or WIDTHS k 0) (λ (k : ℕ). (entry_of k).width) 0 44 refl c.args.code (omega arith) (omega arith))
