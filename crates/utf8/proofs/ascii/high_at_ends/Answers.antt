-- `utf8::ascii::high_at_ends` meets its contract: the first m bytes and the last m are all of them.
-- Where the first have no byte above 7F, the last answer for all.
use mathlib.Core.Path.{sym, ap, ◌∙◌}
use Prim.Native.Nat.{◌-◌}
use lib.ListN.{length}
use native.Mathlib.Omega.{arith}
use Rattle.std.proofs.lemmas.List.{take_rest}
use Rattle.utf8.specs.Ascii.{any_high}
use Rattle.utf8.proofs.Ends.{front_found, both_ends}
use Rattle.utf8.proofs.ascii.high_at_ends.Goals as goal

pub returns-then-high_among : goal.returns-then-high_among
returns-then-high_among c = c.if-high_among.true ∙ front_found _ _ (sym c.high_among.ensures ∙ c.if-high_among.true)

pub returns-else-high_among : goal.returns-else-high_among
returns-else-high_among c =
    c.high_among-else-high_among.ensures
    ∙ ap any_high (take_rest c.args.text.now (length c.args.text.now - c.args.m))
    ∙ both_ends _ c.args.m _ (omega (arith, c.requires.1)) (sym c.high_among.ensures ∙ c.if-high_among.false)
