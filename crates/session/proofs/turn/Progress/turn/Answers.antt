-- A turn: characters are taken to what is kept, and a line that a line feed ends is answered.
-- By whether there is a line feed, from what the calls give.
use Rattle.session.proofs.Feeds.{feed_found, feed_none, feed_inside, before_front}
use Rattle.session.proofs.Takes.{turn_kept, turn_ended}
use Rattle.session.specs.Feeds.{before_feed}
use mathlib.Core.Path.{◌≡◌, sym, ap, ◌∙◌}
use Prim.Native.Nat.{ℕ, ◌<◌, ◌^◌}
use lib.ListN.{length, take, length-take}
use native.Mathlib.Omega.{arith}
use borrow.Author.Rules.{rules}
use Rattle.session.proofs.turn.Progress.turn.Goals as goal

pub returns-in-None : goal.returns-in-None
returns-in-None c = turn_kept c.args.chunk.now c.args.self.now c.args.text.now _ (feed_none _ (sym c.line_feed.ensures ∙ c.in-None.is)) (record { len = c.add.ensures.len; chars = c.add.ensures.chars })

pub slice_bounds-add-end : goal.slice_bounds-add-end
slice_bounds-add-end c =
    let found = feed_found c.args.chunk.now c.in-Some.end (sym c.line_feed.ensures ∙ c.in-Some.is) in
    omega (arith, found.1, feed_inside c.args.chunk.now found.0, length-take c.in-Some.end c.args.chunk.now)

pub overflow_add-result : goal.overflow_add-result
overflow_add-result c =
    let found = feed_found c.args.chunk.now c.in-Some.end (sym c.line_feed.ensures ∙ c.in-Some.is) in
    let long : length c.args.chunk.now < 2 ^ 64 = search rules in
    record { fits = omega (arith, found.1, feed_inside c.args.chunk.now found.0, long) }

pub returns-in-Some : goal.returns-in-Some
returns-in-Some c =
    let found = feed_found c.args.chunk.now c.in-Some.end (sym c.line_feed.ensures ∙ c.in-Some.is) in
    let more : take c.in-Some.end c.args.chunk.now ≡ before_feed c.args.chunk.now = ap (λ (n : ℕ). take n c.args.chunk.now) found.1 ∙ before_front c.args.chunk.now in
    rw found.1
    (turn_ended c.args.chunk.now c.args.self.now c.args.text.now c.add-in-Some.new.self c.answer-printed.new.self c.answer-printed.result c.answer-printed.new.text found.0
    (record { len = rw more at c.add-in-Some.ensures.len; chars = rw more at c.add-in-Some.ensures.chars })
    c.answer-printed.ensures.told c.answer-printed.ensures.chars c.answer-printed.ensures.len)
