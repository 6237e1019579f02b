-- The first line feed stands where the definition says.
-- By what `position` gives of the test.
use Rattle.std.proofs.Common.{rules, tests}
use Rattle.std.proofs.lemmas.Iterator.{YieldsList-from_slice}
use Rattle.std.proofs.lemmas.Iterator.Search.{position_from_yields_List}
use Rattle.session.proofs.Feeds.{is_feed, feed_place}
use Rattle.session.proofs.feed.line_feed.Goals as goal

pub returns : goal.returns
returns c = feed_place _ _ (position_from_yields_List is_feed _ _ _ c.position.ensures.ran (YieldsList-from_slice c.args.chunk.now cc) (λ x b q k. search (rules, tests)))
