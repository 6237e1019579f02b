-- `TypeCode::is_union` answers as the definition does.
-- Each range of codes between the code's tests is one test over that range.
use mathlib.Core.List.{[]}
use native.Mathlib.Omega.{arith}
use mathlib.Core.Path.{refl}
use Rattle.image.proofs.CodeTable.{constant}
use mathlib.Core.Bool.{true, false}
use Rattle.image.specs.TypeCode.{is_union}
use Rattle.image.proofs.type_code.TypeCode.is_union.Goals as goal

pub returns-in-39 : goal.returns-in-39
unfolding is_union
returns-in-39 c = constant [] true is_union 39 2 refl c.args.code (omega arith) (omega arith) tt

pub returns-in_default : goal.returns-in_default
unfolding is_union
returns-in_default c = constant [] false is_union 0 39 refl c.args.code (omega arith) (omega arith) tt

pub returns-in_default-2 : goal.returns-in_default-2
unfolding is_union
returns-in_default-2 c = constant [] false is_union 41 215 refl c.args.code (omega arith) (omega arith) tt
