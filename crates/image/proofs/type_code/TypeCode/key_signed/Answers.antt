-- `TypeCode::key_signed` answers as the definition does.
-- The code's test is the definition's own.
use mathlib.Core.Path.{refl}
use Rattle.image.specs.TypeCode.{key_signed}
use Rattle.image.proofs.type_code.TypeCode.key_signed.Goals as goal

pub returns : goal.returns
unfolding key_signed
returns c = refl
