-- A digit's value, and none of any other character.
-- Each range is the definition's.
use Rattle.session.specs.Lines.{digit_of}
use mathlib.Core.Path.{◌≡◌}
use Prim.Native.Nat.{◌+◌, ◌-◌}
use native.Mathlib.Omega.{arith}
use borrow.Author.Tests.{lt-ltb, le-ltb}
use Rattle.session.proofs.line.digit.Goals as goal

pub returns-in-48-to-57 : goal.returns-in-48-to-57
unfolding digit_of
returns-in-48-to-57 c = rw (le-ltb c.args.c 48 (omega arith), lt-ltb c.args.c 58 (omega arith), lt-ltb (c.args.c - 48) 16 (omega arith))

pub returns-in-97-to-102 : goal.returns-in-97-to-102
unfolding digit_of
returns-in-97-to-102 c =
    let value : c.args.c - 97 + 10 ≡ c.args.c - 87 = omega arith in
    rw (le-ltb c.args.c 48 (omega arith), le-ltb c.args.c 58 (omega arith), le-ltb c.args.c 97 (omega arith), lt-ltb c.args.c 103 (omega arith), lt-ltb (c.args.c - 87) 16 (omega arith), value)

pub returns-in_default : goal.returns-in_default
unfolding digit_of
returns-in_default c = rw (lt-ltb c.args.c 48 (omega arith))

pub returns-in_default-2 : goal.returns-in_default-2
unfolding digit_of
returns-in_default-2 c = rw (le-ltb c.args.c 48 (omega arith), le-ltb c.args.c 58 (omega arith), lt-ltb c.args.c 97 (omega arith))

pub returns-in_default-3 : goal.returns-in_default-3
unfolding digit_of
returns-in_default-3 c = rw (le-ltb c.args.c 48 (omega arith), le-ltb c.args.c 58 (omega arith), le-ltb c.args.c 97 (omega arith), le-ltb c.args.c 103 (omega arith))
