-- The bytes of a refusal stand at the front: its number, and what follows it.
-- By the refusal's variants.
use Rattle.session.proofs.Texts.{puts, number_then, number_side, alone}
use Rattle.image.specs.Bytes.{number_bytes}
use borrow.Author.Rules.{rules}
use mathlib.Core.List.{[], ◌∷◌}
use mathlib.Core.Path.{◌∙◌}
use native.Mathlib.Omega.{arith}
use Rattle.session.proofs.reply.refusal_bytes.Goals as goal

pub returns-in-Faulty : goal.returns-in-Faulty
unfolding number_bytes
returns-in-Faulty c =
    rw (← c.number.ensures, c.in-Faulty.is)
    (number_then c.number.result c.in-Faulty.fault.node c.args.bytes.now _ (omega arith) (c.copy_from_slice.ensures.after ∙ c.to_le_bytes.ensures))

pub returns-in-OutOfRange : goal.returns-in-OutOfRange
returns-in-OutOfRange c = rw (← c.number.ensures, c.in-OutOfRange.is) (number_side c.number.result c.args.bytes.now c.in-OutOfRange.side (omega arith) (search rules))

pub returns-in_default : goal.returns-in_default
returns-in_default c = rw (← c.number.ensures, alone c.args.refusal c.in_default.not-Faulty c.in_default.not-OutOfRange) (puts c.args.bytes.now (c.number.result ∷ []) (omega arith))
