-- A side's image is the front of its store that is used, and all of it where more is said to be.
-- The lesser of the two is as long as that front.
use lib.ListN.{length, length-take}
use mathlib.Core.Path.{◌≡◌}
use native.Mathlib.Omega.{arith}
use borrow.Author.Rules.{rules}
use Rattle.session.specs.Steps.{image_of}
use Rattle.session.specs.Stores.{side_of_store}
use Rattle.session.proofs.Sides.{front_image}
use Rattle.session.proofs.store.Store.image.Goals as goal

pub returns : goal.returns
unfolding image_of
returns c =
    let store = c.args.self.now in
    let sized : length store.bytes ≡ 24576 = search rules in
    front_image store.bytes (side_of_store store) _ (omega (arith, sized, c.min.ensures, length-take store.used store.bytes))
