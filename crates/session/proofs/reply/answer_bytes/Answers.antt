-- The bytes of a reply stand at the front of the buffer.
-- By the reply's variants; each stores its bytes one by one, or has them copied.
use Rattle.session.proofs.Texts.{puts, byte_then, yes_byte}
use mathlib.Core.List.{[], ◌∷◌}
use mathlib.Core.Path.{◌≡◌, refl, ◌∙◌}
use lib.ListN.{length, take, length-take}
use Rattle.session.proofs.Fronts.{front_same}
use native.Mathlib.Omega.{arith}
use Rattle.session.proofs.reply.answer_bytes.Goals as goal

pub returns-in-Done : goal.returns-in-Done
returns-in-Done c = rw (c.in-Done.is) (puts c.args.bytes.now (0 ∷ []) (omega arith))

pub returns-in-Answer : goal.returns-in-Answer
returns-in-Answer c = rw (c.in-Answer.is, ← yes_byte c.in-Answer.agreed, ← c.from.ensures) (puts c.args.bytes.now (0 ∷ c.from.result ∷ []) (omega arith))

pub returns-in-Bytes : goal.returns-in-Bytes
returns-in-Bytes c =
    let all : c.min-most.result ≡ length (take c.in-Bytes.n c.args.out.now) = omega (arith, length-take c.in-Bytes.n c.args.out.now) in
    let part : c.copy_from_slice.new.self ≡ take c.in-Bytes.n c.args.out.now = c.copy_from_slice.ensures.after ∙ front_same _ _ _ all in
    let long : c.min-most.result ≡ length c.copy_from_slice.new.self = rw part all in
    rw (c.in-Bytes.is) (byte_then 0 c.min-most.result c.args.bytes.now _ (omega arith) long ∙ rw part refl)
