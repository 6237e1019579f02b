-- The end of the input: a line that has begun is answered, and nothing is done where none has.
-- By the two ways of the test, from what the call gives.
use Rattle.session.proofs.Takes.{end_none, end_line}
use native.Mathlib.Omega.{arith}
use borrow.Author.Rules.{rules}
use lib.ListN.{length}
use mathlib.Core.Path.{◌≡◌, refl}
use Rattle.session.proofs.turn.Progress.end.Goals as goal

pub returns-then-self-gt0 : goal.returns-then-self-gt0
returns-then-self-gt0 c =
    let sized : length c.args.self.now.line.chars ≡ 195 = search rules in
    record {
      told = end_line c.args.self.now _ _ _ _ (omega (arith, c.if-self-gt0.true)) (omega (arith, sized)) c.answer.ensures.told;
      chars = c.answer.ensures.chars;
    }

pub returns : goal.returns
returns c = record { told = end_none c.args.self.now _ (omega (arith, c.if-self-gt0.false)); chars = refl }
