-- Every place of the program is reached with what its calls over the whole input so far lead to, and with the sizes that its
-- calls need.
use Rattle.std.proofs.Common.{◌≡◌, ◌-◌, ◌<◌, ◌≤◌, ℕ, List, [], length, take, drop, rules, tests, arith}
use mathlib.Core.Path.{sym, subst}
use lib.ListN.{length-take, length-drop, drop_of_length-le}
use lib.Seq.{take_all}
use Rattle.session.specs.Turns.{held_in}
use Rattle.session.proofs.Reading.{Read, read_start, read_chunk, read_turn, read_on}
use Rattle.session.proofs.Takes.{turned_within, turned_forward}
use Rattle.editions.proofs.main.Goals as goal

-- what a turn leaves of a chunk
rest_whole : (n : ℕ) (left : List ℕ) → take (length left - n) (drop n left) ≡ drop n left
rest_whole n left = take_all (length left - n) (drop n left) (omega (arith, length-drop n left))

pub loop-init : goal.loop-init
loop-init c = read_start _ c.start-progress.ensures

pub loop-left-init : goal.loop-left-init
loop-left-init c = read_chunk _ _ c.loop.invariant

pub slice_bounds-left-count : goal.slice_bounds-left-count
slice_bounds-left-count c = omega (arith, turned_within _ _ _ _ _ _ c.turn-taken.ensures)

pub slice_bounds-left-start : goal.slice_bounds-left-start
slice_bounds-left-start c = omega (arith, turned_within _ _ _ _ _ _ c.turn-taken.ensures)

pub loop-left-smaller : goal.loop-left-smaller
loop-left-smaller c =
    let some : 0 < length c.loop-left.left.now = search (rules, tests) in
    simp (length-take, length-drop) (omega (arith, turned_forward _ _ _ _ _ _ c.turn-taken.ensures some, some))

pub loop-left-preserved : goal.loop-left-preserved
loop-left-preserved c =
    subst (λ (left : List ℕ). Read (held_in c.turn-taken.new.self) (take c.in_ok-n.n c.read.new.buf) left) (sym (rest_whole c.turn-taken.result.consumed c.loop-left.left.now)) (read_turn _ _ _ _ _ _ _ c.loop-left.invariant c.turn-taken.ensures)

pub loop-preserved : goal.loop-preserved
loop-preserved c =
    let end : length c.loop-left.left.now ≤ 0 = search (rules, tests) in
    let none : c.loop-left.left.now ≡ [] = drop_of_length-le c.loop-left.left.now {i = 0} end in
    read_on _ _ _ c.loop-left.invariant none
