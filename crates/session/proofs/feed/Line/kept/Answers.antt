-- What is kept is the front of the line that it says, and all of it where it says more.
-- The lesser of the two is as long as that front.
use lib.ListN.{length, length-take}
use mathlib.Core.Path.{◌≡◌}
use native.Mathlib.Omega.{arith}
use borrow.Author.Rules.{rules}
use Rattle.session.proofs.Fronts.{front_same}
use Rattle.session.proofs.feed.Line.kept.Goals as goal

pub returns : goal.returns
returns c =
    let line = c.args.self.now in
    let sized : length line.chars ≡ 195 = search rules in
    front_same _ line.len line.chars (omega (arith, sized, c.min.ensures, length-take line.len line.chars))
